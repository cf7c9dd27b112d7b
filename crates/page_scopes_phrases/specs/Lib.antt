pub mod LineWords
pub mod Names
pub mod Phrases
pub mod laws
pub mod machine
