pub mod Contents
pub mod Operations
pub mod Fronts
pub mod Fed
pub mod Places
pub mod Shown
