pub mod Counts
pub mod Invoked
pub mod Verdicts
pub mod Lines
pub mod Segments
