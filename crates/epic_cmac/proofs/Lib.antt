mod BlockLemmas
mod HeldLemmas
pub mod CmacFacts
pub mod StandardFacts
