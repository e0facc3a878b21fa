pub mod Made
pub mod Places
mod Plain
mod Printed
pub mod Read
pub mod TagBytes
