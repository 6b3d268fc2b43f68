pub mod Handed
pub mod Steps
