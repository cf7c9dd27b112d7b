pub mod BlankRunLemmas
pub mod PlaceLemmas
