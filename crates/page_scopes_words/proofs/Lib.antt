pub mod RunEndLemmas
