pub mod AsLists
pub mod Turns
