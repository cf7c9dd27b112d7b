pub mod Lengths
pub mod Meanings
pub mod Tokens
pub mod laws
pub mod machine
