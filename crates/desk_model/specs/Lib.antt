pub mod Limits
pub mod World
pub mod Transitions
pub mod Sound
pub mod Images
pub mod Records
