pub mod ClosingLemmas
