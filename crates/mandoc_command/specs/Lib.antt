pub mod Asked
pub mod Line
pub mod Measures
pub mod Names
pub mod Status
