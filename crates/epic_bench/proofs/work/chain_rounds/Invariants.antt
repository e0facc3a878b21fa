use Rattle.std.proofs.Common.{◌≡◌, ◌-◌}
use Rattle.std.specs.Fn.{iterate}
use Rattle.epic_aes.specs.Chain.{chain}
use Rattle.epic_bench.specs.declared.work.TheConstants.{KEY}
use Rattle.epic_bench.proofs.work.chain_rounds.Given as goal

abbrev pub invariant-loop : goal.invariant-loop
invariant-loop l =
    iterate (λ x. chain KEY x l.blocks) (l.rounds - l.counter) l.x
    ≡ iterate (λ x. chain KEY x l.blocks) l.rounds l.initial.x
