pub mod Lines
pub mod Accounts
pub mod Segments
pub mod Written
pub mod Reading
