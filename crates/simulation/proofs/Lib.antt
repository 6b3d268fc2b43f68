pub mod Steps
pub mod Machines
pub mod Faults
