-- Private: serves proofs of this crate alone; no public contract cites it.
-- How the verdicts of a step are counted.
use Rattle.std.specs.Prelude.{List, [], ◌∷◌}
use Rattle.epic_num.specs.declared.verdict.Verdict.{Verdict}
use Rattle.epic_text.specs.declared.counts.Counts.{Counts}
use Rattle.epic_text.specs.Counts.{counted}

-- counts with further verdicts
unfoldable pub count_all : Counts → List Verdict → Counts
count_all c [] = c
count_all c (v ∷ vs) = count_all (counted c v) vs
