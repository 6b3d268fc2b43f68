pub mod LineFaults
pub mod Leaves
pub mod OnFiles
pub mod Sharded
pub mod Trusted
