pub mod PartedLemmas
pub mod TextLemmas
pub mod RunWordLemmas
pub mod KeptTextLemmas
