pub mod Reports
pub mod Accepted
pub mod Simulations
pub mod Meanings
pub mod InMemory
