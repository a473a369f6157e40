pub mod Writing
pub mod Calls
