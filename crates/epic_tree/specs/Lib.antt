pub mod Sides
pub mod Index
pub mod Shapes
pub mod Arena
pub mod Turned
