pub mod Giving
pub mod machine
