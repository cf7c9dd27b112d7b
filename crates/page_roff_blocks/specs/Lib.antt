pub mod Forest
pub mod Parts
pub mod laws
pub mod machine
