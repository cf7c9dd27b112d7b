pub mod Marked
pub mod MarkedLaws
pub mod Nested
