pub mod ScanLemmas
pub mod SequenceLemmas
