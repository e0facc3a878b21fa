pub mod Counts
pub mod Entries
pub mod Offers
pub mod Room
