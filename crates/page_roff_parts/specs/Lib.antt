pub mod Parts
pub mod machine
