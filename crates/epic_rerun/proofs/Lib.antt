mod Arriving
mod Carrying
mod Counting
mod Fitted
mod Happening
mod Lines
mod Placing
mod Running
mod ScriptNames
mod Sending
mod SpelledBytes
mod Stepping
mod TagBytes
pub mod ToldVerdicts
mod Turning
