pub mod Call
pub mod Running
