pub mod Inlines
pub mod Sentences
pub mod machine
