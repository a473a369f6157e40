pub mod Following
pub mod Readings
pub mod Bodies
