pub mod Man
pub mod Mdoc
pub mod laws
pub mod machine
