pub mod Rows
pub mod Verdict
pub mod Ways
pub mod Loops
pub mod Judging
pub mod Naming
pub mod Counted
