pub mod Postfix
pub mod Slots
pub mod Laying
pub mod Counts
pub mod Ways
pub mod Stacks
pub mod Forms
pub mod Nodewise
pub mod Cores
mod Tags
pub mod Elaborated
