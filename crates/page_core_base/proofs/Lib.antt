pub mod LatchLemmas
pub mod RowLemmas
