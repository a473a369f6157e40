pub mod Trees
pub mod Falls
pub mod Ways
pub mod Texts
