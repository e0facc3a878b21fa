pub mod Editing
pub mod Pieces
pub mod View
