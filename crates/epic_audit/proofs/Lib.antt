pub mod Finds
pub mod Walked
mod Narrowed
pub mod Passed
mod Before
pub mod Linked
pub mod Decided
pub mod Queries
pub mod Chained
pub mod Alike
mod FieldTags
pub mod Hop
pub mod UpdateLaws
pub mod Arrivals
pub mod Dest
pub mod Growth
pub mod Keeping
pub mod Lists
mod Opened
mod Calls
mod Built
mod Descent
mod SegmentExamples
pub mod Whole
pub mod Recording
pub mod FieldBytes
pub mod ForgedLemmas
mod VerdictExamples
mod KeptExample
