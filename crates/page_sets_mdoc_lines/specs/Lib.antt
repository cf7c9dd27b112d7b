pub mod Parts
pub mod Rows
pub mod laws
pub mod machine
