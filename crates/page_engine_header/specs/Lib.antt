pub mod Header
pub mod laws
pub mod machine
