pub mod AtOnceLemmas
pub mod CallLemmas
pub mod CountLemmas
pub mod FreeLemmas
