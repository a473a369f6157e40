pub mod Table
pub mod Codes
pub mod Names
pub mod Steps
