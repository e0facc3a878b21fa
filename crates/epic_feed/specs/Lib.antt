pub mod Damages
pub mod Files
pub mod Forms
pub mod Taking
pub mod Feeding
pub mod Going
