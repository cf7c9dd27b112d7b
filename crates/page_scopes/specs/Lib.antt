pub mod Bodies
pub mod laws
