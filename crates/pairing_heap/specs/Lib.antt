pub mod Bag
pub mod Forest
pub mod Trees
pub mod Splits
pub mod Heap
pub mod Counts
