pub mod FedLemmas
pub mod FieldBytes
pub mod Stamps
pub mod Successors
pub mod Widths
