pub mod MatchLemmas
pub mod SearchLemmas
pub mod VisibleLemmas
