pub mod Lines
pub mod Regions
pub mod States
pub mod laws
pub mod machine
