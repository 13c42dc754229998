pub mod WholeRuns
pub mod Dates
pub mod Places
pub mod RowsLeft
