pub mod Contents
pub mod Unwinding
pub mod Boundaries
