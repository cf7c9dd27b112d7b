pub mod OpenRows
pub mod laws
pub mod machine
