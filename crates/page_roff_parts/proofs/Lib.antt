pub mod BracketLemmas
pub mod FrontLemmas
pub mod VerbatimLemmas
