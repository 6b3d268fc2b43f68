pub mod Laying
pub mod Linking
pub mod Bags
pub mod InsertAndExtract
pub mod Counting
pub mod Merging
