use Rattle.std.proofs.Common.{◌≡◌, map, take}
use Rattle.epic_app.proofs.policing.ases_of.Given as goal

-- the ASes so far
abbrev pub invariant-loop-i : goal.invariant-loop-i
invariant-loop-i l = l.ases.items ≡ map (λ s. s.asn) (take l.i l.topo.systems)
