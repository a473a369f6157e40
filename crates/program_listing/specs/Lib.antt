pub mod Appends
pub mod Listing
pub mod Answering
