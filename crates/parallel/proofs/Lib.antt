pub mod Sharing
pub mod Joining
