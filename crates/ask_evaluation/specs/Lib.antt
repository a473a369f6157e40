pub mod Meaning
pub mod Mixing
