pub mod Index
pub mod Lawful
pub mod Network
pub mod Reading
pub mod Words
