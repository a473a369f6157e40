pub mod Selecting
pub mod Evaluating
pub mod Mixing
