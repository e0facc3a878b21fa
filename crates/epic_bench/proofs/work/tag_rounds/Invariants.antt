use Rattle.std.proofs.Common.{◌≡◌, ◌-◌}
use Rattle.std.specs.Fn.{iterate}
use Rattle.epic_cmac.specs.Cmac.{cmac}
use Rattle.epic_bench.proofs.work.tag_rounds.Given as goal

abbrev pub invariant-loop : goal.invariant-loop
invariant-loop l =
    iterate (λ key. cmac key l.message) (l.rounds - l.counter) l.key
    ≡ iterate (λ key. cmac key l.message) l.rounds l.initial.key
