pub mod WordSpanLemmas
pub mod WordLemmas
