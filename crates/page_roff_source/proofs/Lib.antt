pub mod CountLemmas
pub mod RoffLineLemmas
pub mod RunDepthLemmas
pub mod RunLemmas
