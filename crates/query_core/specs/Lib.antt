pub mod Postfix
pub mod Held
pub mod Form
pub mod Reading
pub mod Writing
pub mod Stack
