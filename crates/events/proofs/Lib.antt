pub mod ProcessRuns
pub mod WellFormed
pub mod Calls
pub mod Parts
pub mod Gathering
pub mod Splitting
pub mod Owned
