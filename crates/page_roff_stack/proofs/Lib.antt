pub mod InputStackLemmas
pub mod InputFrameLemmas
pub mod TurnLemmas
