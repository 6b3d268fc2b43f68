pub mod Reading
pub mod Answered
pub mod Decided
pub mod Further
pub mod Taken
