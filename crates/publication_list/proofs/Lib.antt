pub mod Rows
pub mod RuleKept
pub mod PlaceSteps
pub mod WalkerSteps
pub mod RosterMaking
pub mod Dealt
