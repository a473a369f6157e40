pub mod Copies
pub mod Zeros
pub mod Ways
