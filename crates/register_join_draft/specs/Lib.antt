pub mod Joined
pub mod Drafting
