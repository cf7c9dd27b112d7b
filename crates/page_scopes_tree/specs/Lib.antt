pub mod Ends
pub mod Placements
pub mod laws
pub mod machine
