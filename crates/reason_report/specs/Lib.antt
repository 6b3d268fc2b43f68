pub mod Segments
pub mod Operations
