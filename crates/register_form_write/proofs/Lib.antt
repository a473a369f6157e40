pub mod Renumbered
pub mod Tabling
pub mod Lengths
pub mod Counted
pub mod Placing
pub mod Answering
pub mod Limited
pub mod Closing
