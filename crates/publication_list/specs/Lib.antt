pub mod Limits
pub mod PublicationList
pub mod Rule
pub mod Plays
pub mod Calls
pub mod Inside
pub mod Dealing
