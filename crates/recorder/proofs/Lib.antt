pub mod Same
pub mod Running
pub mod Shapes
pub mod Journals
pub mod Making
