pub mod Given
pub mod Ins
pub mod Outs
pub mod Sent
pub mod Fields
pub mod Values
pub mod Operations
pub mod FirstFaults
