pub mod ActLemmas
pub mod AtOnceLemmas
pub mod DoingLemmas
pub mod GoLemmas
pub mod LoopLemmas
pub mod MachineLemmas
pub mod StepLemmas
