pub mod RawCells
