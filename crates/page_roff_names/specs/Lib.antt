pub mod Names
pub mod laws
pub mod machine
