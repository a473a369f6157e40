pub mod Tables
pub mod First
pub mod Demands
pub mod Copies
pub mod Answers
