pub mod FitLemmas
pub mod StepLemmas
pub mod RunLemmas
pub mod EdgeLemmas
