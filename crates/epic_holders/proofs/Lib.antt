pub mod Chained
pub mod Sent
pub mod Steps
pub mod Sends
pub mod Worth
