use Rattle.std.proofs.Common.{◌≡◌, map, None}
use Rattle.std.specs.List.{range_with_len}
use Rattle.epic_num.specs.Tables.{first_row}
use Rattle.epic_ends.specs.Filling.{expired_at}
use Rattle.epic_ends.proofs.admitting.expiry_refusal.Given as goal

abbrev pub invariant-loop-j : goal.invariant-loop-j
invariant-loop-j l = first_row (map (expired_at l.hops l.now) (range_with_len 0 l.j)) ≡ None
