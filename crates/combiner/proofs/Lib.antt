pub mod Served
pub mod Waited
