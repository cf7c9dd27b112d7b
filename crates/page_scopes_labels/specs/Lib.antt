pub mod Labels
pub mod laws
