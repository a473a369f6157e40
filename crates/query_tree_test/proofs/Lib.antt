pub mod Loops
pub mod Caps
pub mod Stacks
pub mod Answers
