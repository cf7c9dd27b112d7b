pub mod Begins
pub mod Ends
pub mod Leaves
