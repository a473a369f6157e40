pub mod Drafting
pub mod Sizes
pub mod Lookup
pub mod Tables
pub mod Lent
