pub mod Loops
pub mod Stages
pub mod Opening
