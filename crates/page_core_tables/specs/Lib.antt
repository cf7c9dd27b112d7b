pub mod Glyphs
pub mod laws
pub mod machine
