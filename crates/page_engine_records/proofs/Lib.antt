pub mod NameLemmas
pub mod NameTextLemmas
pub mod RunLemmas
