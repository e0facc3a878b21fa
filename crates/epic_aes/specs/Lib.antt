pub mod Field
pub mod Cipher
pub mod Chain
pub mod Lanes
pub mod Keys
