pub mod ExpressionLemmas
pub mod SpelledLemmas
