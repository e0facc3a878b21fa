use Rattle.epic_window.proofs.Tallies.{Tallied-new}
use Rattle.epic_window.proofs.window.Window.new.Goals as goal

pub invariant_of-result : goal.invariant_of-result
invariant_of-result c = Tallied-new _ _ _ _ c.with_hasher.ensures.empty c.with_hasher-2.ensures.empty c.with_hasher-3.ensures.empty
