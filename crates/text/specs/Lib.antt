pub mod Bytes
pub mod Class
pub mod Keys
pub mod Parts
pub mod Table
