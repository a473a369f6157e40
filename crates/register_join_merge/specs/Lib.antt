pub mod Merged
pub mod Merging
