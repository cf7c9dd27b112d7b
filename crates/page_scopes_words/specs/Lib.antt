pub mod Fonts
pub mod Widths
pub mod Words
pub mod machine
