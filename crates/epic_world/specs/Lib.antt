pub mod Passing
pub mod Refining
pub mod Run
pub mod Sound
pub mod Standing
pub mod Stepped
pub mod Way
