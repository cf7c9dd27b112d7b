pub mod CharacterLemmas
pub mod PlainLemmas
pub mod GroupLemmas
pub mod WrapLemmas
