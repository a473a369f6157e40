pub mod Loops
pub mod Stack
