pub mod Spelling
pub mod Spelled
