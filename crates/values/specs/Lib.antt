pub mod Names
pub mod Values
pub mod Dates
pub mod Answers
pub mod Spelling
pub mod ByteRules
