pub mod Chained
pub mod Issuing
pub mod Kinds
pub mod Laws
pub mod Segments
pub mod Store
pub mod Told
pub mod Twins
