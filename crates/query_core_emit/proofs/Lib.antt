pub mod Adding
pub mod Composing
pub mod Constants
pub mod References
