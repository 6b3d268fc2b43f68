pub mod ReadFaults
pub mod OneMeaning
pub mod ReadSoFar
