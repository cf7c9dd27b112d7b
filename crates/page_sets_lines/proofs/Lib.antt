pub mod ArgumentLaws
pub mod FitLemmas
