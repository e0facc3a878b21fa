-- An AS that was read fits into the topology.
use Rattle.std.proofs.Common.{◌≡◌, Ok, rules}
use Rattle.toml.specs.View.{view}
use Rattle.epic_topo.specs.Lawful.{IsNewSystem}
use Rattle.epic_topo.specs.Reading.{next_system}
use Rattle.epic_topo.specs.declared.network.System.{System}
use Rattle.epic_topo.proofs.Fits.{next_system_fits}
use Rattle.epic_topo.proofs.Steps.{at_ok}
use Rattle.epic_topo.proofs.reading.systems.next_system.Goals as goal

pub returns-clause-fits : goal.returns-clause-fits
unfolding next_system
returns-clause-fits c =
    let n = c.args.topology.now in
    let d = view c.args.value.now in
    let s : System = record { asn = c.in_ok-asn.asn; is_core = c.in_ok-is_core.is_core; master = c.in_ok-master.master } in
    let read : next_system n d ≡ Ok s = search rules in
    at_ok (IsNewSystem n) (next_system n d) s read (next_system_fits n d)
