pub mod Formats
pub mod ShownNames
pub mod Turns
