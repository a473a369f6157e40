pub mod Appending
pub mod Lines
pub mod Whole
pub mod Answering
