use Rattle.std.proofs.Common.{◌+◌, ◌%◌, length, arith}
use Rattle.std.proofs.lemmas.List.FromFn.{fill_by_all}
use Rattle.epic_bench.specs.Works.{message}
use Rattle.epic_bench.proofs.work.fill.Goals as goal

pub returns : goal.returns
unfolding message
returns c =
    fill_by_all (λ k. (c.args.seed + k) % 256) c.loop-i.bytes (length c.args.bytes.now) 0 c.loop-i.auto.bytes
    (λ k below. c.loop-i.invariant k (omega arith))
