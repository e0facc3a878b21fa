pub mod Answers
pub mod Request
pub mod RunCommand
pub mod Shares
