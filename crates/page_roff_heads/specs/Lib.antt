pub mod Conditions
pub mod Heads
pub mod laws
