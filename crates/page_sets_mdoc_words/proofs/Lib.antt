pub mod WordPrintLemmas
pub mod MacroPrintLemmas
