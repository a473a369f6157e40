pub mod Written
pub mod Looping
pub mod Filled
