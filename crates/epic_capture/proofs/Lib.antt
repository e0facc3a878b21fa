pub mod Results
pub mod Judged
pub mod Longer
pub mod ToCome
pub mod Answers
pub mod Saved
