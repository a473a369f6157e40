pub mod Ways
pub mod Cells
pub mod Counting
pub mod Reading
pub mod Copying
