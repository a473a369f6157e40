pub mod Nodes
pub mod Pass
pub mod Building
pub mod Form
pub mod Testing
pub mod Reading
