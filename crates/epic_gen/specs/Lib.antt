pub mod Names
pub mod Script
pub mod Table
pub mod Text
pub mod Topology
