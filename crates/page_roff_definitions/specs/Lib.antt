pub mod Definitions
pub mod laws
pub mod machine
