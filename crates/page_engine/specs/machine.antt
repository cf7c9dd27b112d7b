-- The code's own steps and fast ways. Trust needs no reading of them.
pub mod Held
pub mod Layers
pub mod PageSinks
pub mod Steps
