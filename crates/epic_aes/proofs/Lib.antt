mod ByteLemmas
mod LaneLemmas
mod MixLemmas
mod RoundLemmas
mod ScheduleLemmas
mod XorLemmas
pub mod ChainLemmas
pub mod CipherFacts
pub mod StandardFacts
