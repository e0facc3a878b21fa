pub mod Laws
mod Numbers
pub mod Rows
