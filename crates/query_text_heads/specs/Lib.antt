pub mod Effects
pub mod Trees
