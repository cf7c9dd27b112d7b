pub mod NameTexts
pub mod Records
pub mod PageRecords
pub mod Runs
pub mod machine
