pub mod Ledgers
pub mod Rerun
