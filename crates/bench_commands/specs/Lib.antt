pub mod Runs
pub mod Simulated
pub mod Performed
