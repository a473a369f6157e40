pub mod Texts
pub mod Reading
pub mod Cleaning
pub mod Composed
pub mod Spells
pub mod Laying
pub mod Cheapest
pub mod Some
