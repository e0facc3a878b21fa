pub mod Found
pub mod Holders
pub mod Laws
pub mod MakerHolds
pub mod Makers
pub mod MakerText
