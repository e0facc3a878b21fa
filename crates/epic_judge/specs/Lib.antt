pub mod BothFiles
pub mod Compared
pub mod Known
pub mod Lines
pub mod Reaching
pub mod Sendings
pub mod Sound
pub mod Walks
