pub mod Acts
pub mod Bodies
pub mod Edges
pub mod Trees
pub mod laws
pub mod machine
