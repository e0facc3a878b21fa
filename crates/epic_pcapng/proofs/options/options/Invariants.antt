use Rattle.std.proofs.Common.{◌-◌}
use Rattle.epic_pcapng.proofs.OptionRuns.{ReadsOn}
use Rattle.epic_pcapng.proofs.options.options.Given as goal

abbrev pub invariant-loop : goal.invariant-loop
invariant-loop l = ReadsOn l.fn.order l.fn.offset l.bytes (l.end - l.counter) l.at l.rest l.last
