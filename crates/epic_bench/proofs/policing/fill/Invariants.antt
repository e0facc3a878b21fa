use Rattle.std.proofs.Common.{◌≡◌, ℕ, ◌<◌, get_or}
use Rattle.epic_bench.specs.Policing.{source_of}
use Rattle.epic_bench.proofs.policing.fill.Given as goal

abbrev pub invariant-loop-i : goal.invariant-loop-i
invariant-loop-i l = (k : ℕ) → k < l.i → get_or l.sources k (source_of 0) ≡ source_of k
