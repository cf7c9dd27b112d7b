pub mod Bearings
pub mod Commands
pub mod Compressed
pub mod Indexes
pub mod Searches
pub mod Sights
