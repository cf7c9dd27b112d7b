pub mod Arguments
pub mod Delimiters
pub mod LineForms
pub mod Regions
pub mod Requests
pub mod laws
pub mod machine
