pub mod Elements
pub mod Reading
pub mod Rising
pub mod Writing
pub mod Objects
pub mod OnePart
pub mod Alone
