pub mod Blocks
pub mod Lists
pub mod laws
