pub mod DestTests
pub mod Given
pub mod HopTests
pub mod Judging
pub mod Judgment
pub mod Laws
pub mod Same
pub mod Telling
