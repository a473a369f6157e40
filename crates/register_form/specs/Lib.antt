pub mod Dictionary
pub mod Encoding
pub mod Form
pub mod Tests
pub mod Formed
pub mod Opened
pub mod Draft
pub mod Tables
