pub mod Lines
pub mod laws
pub mod machine
