pub mod Edited
pub mod Edits
pub mod Walk
pub mod Ordered
