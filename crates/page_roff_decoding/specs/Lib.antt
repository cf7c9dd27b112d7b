pub mod Decoding
pub mod laws
pub mod machine
