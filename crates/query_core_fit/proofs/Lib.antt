pub mod Places
pub mod Parts
pub mod Joins
pub mod Singles
pub mod Ways
pub mod Undeclared
pub mod Fitted
