use Rattle.std.proofs.Common.{◌≡◌, drop, map}
use Rattle.epic_num.specs.Segments.{are_different}
use Rattle.epic_path.proofs.conditions.have_different_ases.Given as goal

abbrev pub invariant-loop-index : goal.invariant-loop-index
invariant-loop-index l = are_different (map (λ h. h.asn) (drop l.index l.hops)) ≡ are_different (map (λ h. h.asn) l.hops)
