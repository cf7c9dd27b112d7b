pub mod Bytes
pub mod Limits
pub mod Messages
pub mod Rows
pub mod Settings
pub mod Texts
pub mod laws
pub mod machine
