mod Answering
mod Carried
mod CarryGrows
pub mod Counted
mod Gone
pub mod Grown
mod Issued
mod Refined
mod Runs
mod Segmented
mod Sent
mod Way
