pub mod Appended
mod Counting
mod Grown
mod HasFront
mod MemFiles
mod MemPieces
mod SinkAnswers
