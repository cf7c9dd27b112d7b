pub mod Cells
pub mod machine
