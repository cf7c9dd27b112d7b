pub mod Runs
pub mod laws
pub mod machine
