use Rattle.std.proofs.Common.{rules, ◌<◌, ◌++◌, length, take, append_assoc, ◌∙◌}
use Rattle.std.proofs.lemmas.List.{take_rest, take-append-drop}
use Rattle.epic_ports.proofs.Appended.{on_err}
use Rattle.epic_ports.proofs.Counting.{counts_twice}
use Rattle.epic_ports.proofs.Grown.{Grows-trans, GrowsBefore-here}
use Rattle.epic_ports.proofs.whole.append_all.Goals as goal

-- what was added, and then the part of the rest that the store took
pub loop-rest-preserved : goal.loop-rest-preserved
loop-rest-preserved g c =
    let added = Grows-trans _ _ _ _ _ _ c.loop-rest.invariant.added.2 c.in_ok-n.ensures.bytes in
    let front = c.loop-rest.invariant.added.0 ++ take c.in_ok-n.n c.loop-rest.rest.now in
    record {
      added = (front, rw (take_rest, append_assoc, take-append-drop) c.loop-rest.invariant.added.1, added);
      reads = c.in_ok-n.ensures.reads ∙ c.loop-rest.invariant.reads;
      writes = counts_twice _ _ _ _ c.loop-rest.invariant.writes c.in_ok-n.ensures.writes;
    }

-- and nothing of the rest where the write failed
pub returns-in_err-n-clause-err : goal.returns-in_err-n-clause-err
returns-in_err-n-clause-err g c =
    let some : 0 < length c.loop-rest.rest.now = search rules in
    on_err _ _ (GrowsBefore-here _ _ _ _ c.loop-rest.invariant.added.0 c.loop-rest.rest.now _ c.loop-rest.invariant.added.1 some c.loop-rest.invariant.added.2 (search rules))
