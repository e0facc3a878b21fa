pub mod Inside
pub mod Pool
pub mod Rings
