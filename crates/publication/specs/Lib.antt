pub mod Handles
pub mod Calls
pub mod Making
pub mod Closing
