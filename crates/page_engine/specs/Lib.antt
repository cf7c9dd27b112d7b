pub mod Edges
pub mod Page
pub mod Runs
pub mod laws
pub mod machine
