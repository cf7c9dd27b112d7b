pub mod Entries
pub mod Fields
pub mod Matches
pub mod Records
pub mod Searches
pub mod Whatis
pub mod Written
pub mod machine
