pub mod Damage
pub mod Blocks
pub mod Options
pub mod Packets
pub mod Grammar
pub mod Reading
pub mod Steps
