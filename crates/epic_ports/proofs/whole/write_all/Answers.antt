use Rattle.std.proofs.Common.{rules, ◌<◌, ◌++◌, length, take, arith, append_assoc, length-append, ap, sym, ◌∙◌}
use Rattle.std.proofs.lemmas.List.{take_rest, take-append-drop}
use Rattle.epic_ports.proofs.Appended.{Appends-trans, WritesBefore-here, on_err}
use Rattle.epic_ports.proofs.whole.write_all.Goals as goal

-- what was written, and then the part of the rest that the sink took
pub loop-rest-preserved : goal.loop-rest-preserved
loop-rest-preserved g c =
    let some : 0 < length c.loop-rest.rest.now = search rules in
    let written = Appends-trans _ _ _ _ _ c.loop-rest.invariant.0.2 c.in_ok-n.ensures.bytes in
    let front = c.loop-rest.invariant.0.0 ++ take c.in_ok-n.n c.loop-rest.rest.now in (
      (front, rw (take_rest, append_assoc, take-append-drop) c.loop-rest.invariant.0.1, written),
      omega (arith, c.in_ok-n.ensures.later),
      λ empty. absurd (omega (arith, simp length-append at (ap length (sym c.loop-rest.invariant.0.1 ∙ empty)))),
    )

-- and nothing of the rest where the write failed
pub returns-in_err-n-clause-err : goal.returns-in_err-n-clause-err
returns-in_err-n-clause-err g c =
    let some : 0 < length c.loop-rest.rest.now = search rules in
    on_err _ _ (WritesBefore-here _ _ _ c.loop-rest.invariant.0.0 c.loop-rest.rest.now _ c.loop-rest.invariant.0.1 some c.loop-rest.invariant.0.2 c.in_err-n.ensures.bytes)
