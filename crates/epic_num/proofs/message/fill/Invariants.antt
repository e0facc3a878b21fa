use Rattle.std.proofs.Common.{◌≡◌, ◌+◌, ◌++◌, length, take, drop, sum_by, flat_map}
use Rattle.epic_num.proofs.message.fill.Given as goal

-- what is left of the parts has the length that is left of the bytes, and follows what was written
abbrev pub invariant-loop-part : goal.invariant-loop-part
invariant-loop-part l = record {
  left : l.at + sum_by (λ p. length p.now) (drop l.part-index l.parts) ≡ length l.bytes;
  written : take l.at l.bytes ++ flat_map (λ p. p.now) (drop l.part-index l.parts) ≡ flat_map (λ p. p.now) l.parts;
}
