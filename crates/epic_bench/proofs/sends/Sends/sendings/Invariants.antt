use Rattle.std.proofs.Common.{◌≡◌}
use Rattle.epic_keys.specs.Fetches.{is_fetched}
use Rattle.epic_bench.specs.Sends.{sent}
use Rattle.epic_bench.proofs.sends.Sends.sendings.Given as goal

abbrev pub invariant-loop : goal.invariant-loop
invariant-loop l = l.sending ≡ sent l.self.topo (is_fetched l.self.keys) l.self.path.legs.items l.counter
