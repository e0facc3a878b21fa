pub mod ShapeLaws
pub mod Cutting
pub mod Standing
pub mod Turning
pub mod Ways
pub mod Growing
pub mod Adding
pub mod Indexing
