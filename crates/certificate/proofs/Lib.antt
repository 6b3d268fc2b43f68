pub mod Reading
pub mod Writing
pub mod TextReading
pub mod UsualForms
