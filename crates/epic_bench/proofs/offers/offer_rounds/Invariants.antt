use Rattle.epic_bench.proofs.Offering.{IsHeard}
use Rattle.epic_bench.proofs.offers.offer_rounds.Given as goal

abbrev pub invariant-loop-i : goal.invariant-loop-i
invariant-loop-i l = IsHeard l.load l.i l.fresh l.window
