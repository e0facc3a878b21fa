pub mod ChainLaws
pub mod ChainNames
mod Examples
pub mod Fronts
pub mod LevelLaws
pub mod MessageLaws
pub mod Misspelt
pub mod MomentLaws
pub mod Numerals
pub mod OneSpelling
pub mod Parts
pub mod PathLaws
pub mod Reading
pub mod SameLaws
pub mod Spelled
pub mod Stopped
pub mod TableLaws
