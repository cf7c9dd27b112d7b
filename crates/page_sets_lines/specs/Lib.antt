pub mod Blocks
pub mod Lines
pub mod laws
pub mod machine
