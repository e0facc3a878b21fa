pub mod Joins
pub mod Routes
pub mod Search
