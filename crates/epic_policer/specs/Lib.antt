pub mod Accounts
pub mod Apart
pub mod Kept
pub mod Offers
pub mod Policing
pub mod Queue
pub mod Runs
pub mod Table
