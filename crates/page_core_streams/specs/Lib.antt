pub mod Streams
pub mod laws
pub mod machine
