pub mod Laws
pub mod Keys
pub mod Trim
pub mod Tables
pub mod Library
