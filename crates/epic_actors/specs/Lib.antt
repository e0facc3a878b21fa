pub mod Hosts
pub mod Lasting
pub mod Routers
pub mod Sources
pub mod Telling
