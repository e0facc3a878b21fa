-- Private: serves proofs of this crate alone; no public contract cites it.
-- How a packet's bytes at a place end.
use Rattle.std.specs.Prelude.{◌≡◌, Result, Ok, Err}
use Rattle.epic_num.specs.declared.memory.OutOfMemory.{OutOfMemory}
use Rattle.epic_num.specs.declared.passed.Passed.{Passed}
use Rattle.epic_num.specs.declared.passed.Place.{Place}
use Rattle.epic_ledger.specs.History.{History}
use Rattle.epic_actors.specs.Telling.{as_passed}
use Rattle.epic_model.specs.Passing.{Happened}

-- this became of the packet at the place, and the ledger is that after it; or out of memory the ledger is as before
abbrev pub Ends : Place → Happened → Result Passed OutOfMemory → History → History → Type 0
Ends place d (Ok x) old new = (x ≡ as_passed place d) × (new ≡ d.history)
Ends place d (Err e) old new = new ≡ old
