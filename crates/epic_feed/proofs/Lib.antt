pub mod Few
mod Fronts
mod Steps
mod Told
mod Whole
