pub mod Naming
pub mod Accepting
pub mod Verdicts
pub mod Checking
