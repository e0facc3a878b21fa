use Rattle.std.proofs.Common.{arith}
use Rattle.std.proofs.Math.Nat.{one-le-pow}
use Rattle.epic_pcapng.proofs.options.units_of.Goals as goal

pub returns-then-value-lt128-clause-some : goal.returns-then-value-lt128-clause-some
returns-then-value-lt128-clause-some c = let some = one-le-pow c.from-value.result 10 (omega arith) in omega (arith, some, c.pow.ensures)
