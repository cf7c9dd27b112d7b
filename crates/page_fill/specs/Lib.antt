pub mod Filled
pub mod Filling
pub mod Words
pub mod laws
pub mod machine
