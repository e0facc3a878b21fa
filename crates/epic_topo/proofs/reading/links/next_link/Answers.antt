-- A link that was read fits into the topology.
use Rattle.std.proofs.Common.{◌≡◌, rules}
use Rattle.epic_topo.specs.Reading.{next_link}
use Rattle.toml.specs.View.{view}
use Rattle.epic_topo.proofs.Fits.{next_link_fits}
use Rattle.epic_topo.proofs.reading.links.next_link.Goals as goal

pub returns-clause-fits : goal.returns-clause-fits
unfolding next_link
returns-clause-fits c =
    let value : c.fitting.result ≡ next_link c.args.topology.now (view c.args.value.now) = search rules in
    rw value (next_link_fits c.args.topology.now (view c.args.value.now))
