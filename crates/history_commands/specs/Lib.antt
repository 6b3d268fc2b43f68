pub mod Outputs
pub mod Checked
pub mod Comments
pub mod Searches
pub mod Refuted
pub mod Verified
pub mod ShardCounts
pub mod Merged
