pub mod Locality
pub mod Completions
pub mod AsWritten
pub mod WorkedHistories
