pub mod AsRows
pub mod Parts
