pub mod Fronts
pub mod Finding
pub mod Skipping
pub mod Operating
pub mod Shapes
pub mod Truncation
pub mod FirstFaults
pub mod FormsRead
