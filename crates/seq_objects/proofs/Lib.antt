pub mod Members
pub mod Places
pub mod Sameness
pub mod Tables
