pub mod CapLemmas
