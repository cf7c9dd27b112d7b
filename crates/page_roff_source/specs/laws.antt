-- What is proved and said of the definitions. Trust needs no reading of it.
pub mod Expansions
pub mod Views
