pub mod Formulas
pub mod HopChecks
pub mod Issues
pub mod Laws
pub mod PacketTags
pub mod Tags
