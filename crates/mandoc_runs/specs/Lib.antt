pub mod IndexModes
