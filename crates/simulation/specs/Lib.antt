pub mod Schedules
pub mod Faults
pub mod Plays
pub mod Simulations
