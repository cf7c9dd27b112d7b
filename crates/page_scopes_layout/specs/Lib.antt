pub mod Contexts
pub mod Headings
pub mod Lists
