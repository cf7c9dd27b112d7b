pub mod Texts
pub mod laws
pub mod machine
