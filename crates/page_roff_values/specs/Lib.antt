pub mod Answers
pub mod Values
pub mod laws
pub mod machine
