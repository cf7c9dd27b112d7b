-- What is proved and said of the definitions. Trust needs no reading of it.
pub mod Reads
pub mod States
pub mod Views
pub mod Within
