pub mod Cmac
pub mod Pieces
