pub mod AsciiLemmas
