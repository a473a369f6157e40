pub mod Canonical
pub mod Ranks
pub mod Members
pub mod Orders
pub mod Listings
pub mod Numbers
pub mod Feeds
pub mod Alike
