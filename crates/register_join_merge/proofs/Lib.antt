pub mod Stored
pub mod Orders
pub mod Halves
pub mod Sides
pub mod Run
pub mod Ways
