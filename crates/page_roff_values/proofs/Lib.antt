pub mod ArgumentLemmas
pub mod LineLemmas
pub mod TextLemmas
