pub mod Displays
pub mod Fronts
pub mod laws
