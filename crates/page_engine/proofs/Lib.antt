pub mod Items
pub mod WholeLines
pub mod Through
pub mod WholeRuns
