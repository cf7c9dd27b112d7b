pub mod Columns
pub mod Expressions
pub mod laws
pub mod machine
