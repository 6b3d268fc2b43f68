pub mod Records
pub mod Histories
