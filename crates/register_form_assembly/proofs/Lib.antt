pub mod Coding
pub mod Keepings
pub mod Counts
