pub mod Lists
pub mod Specification
pub mod Kinds
pub mod Objects
pub mod Histories
pub mod Linearizable
pub mod Orders
