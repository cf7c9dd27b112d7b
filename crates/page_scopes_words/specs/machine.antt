-- The code's own fast ways. Trust needs no reading of them.
pub mod Letters
