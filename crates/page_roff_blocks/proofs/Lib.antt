pub mod LinePartLemmas
pub mod CreditLemmas
pub mod LedgerLemmas
pub mod MachineLemmas
pub mod SpendLemmas
pub mod StepLemmas
pub mod TieLemmas
