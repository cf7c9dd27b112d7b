pub mod Marks
pub mod Names
