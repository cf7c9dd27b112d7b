pub mod ArgumentLemmas
pub mod ClosedLemmas
pub mod FormLemmas
pub mod PairLemmas
