pub mod Leaving
pub mod UnreadFiles
pub mod StatusMeanings
pub mod LostLines
pub mod Merges
pub mod TrustedShards
