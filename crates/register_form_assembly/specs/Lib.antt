pub mod Terms
pub mod Keeping
pub mod Counting
pub mod Drafts
