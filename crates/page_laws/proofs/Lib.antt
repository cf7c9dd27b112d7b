pub mod OperationLemmas
pub mod ShownLemmas
pub mod ShownPieces
pub mod ShownPages
