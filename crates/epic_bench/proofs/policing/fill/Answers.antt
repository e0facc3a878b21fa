use Rattle.std.proofs.Common.{length, arith}
use Rattle.std.proofs.lemmas.List.FromFn.{fill_by_all}
use Rattle.epic_bench.specs.Policing.{source_of}
use Rattle.epic_bench.proofs.policing.fill.Goals as goal

pub returns : goal.returns
returns c =
    fill_by_all source_of c.loop-i.sources (length c.args.sources.now) (source_of 0) c.loop-i.auto.sources
    (λ k below. c.loop-i.invariant k (omega arith))
