use Rattle.std.proofs.Common.{◌≡◌, Ok, Err, sym, ◌∙◌, ap}
use Rattle.epic_topo.specs.Reading.{topology}
use Rattle.epic_gen.specs.Topology.{generated_network}
use Rattle.epic_gen.proofs.Read.{read_as, read_no_fault, text_read, text_short}
use Rattle.epic_gen.proofs.topology.generated_topology.Goals as goal

pub read_topology-requires : goal.read_topology-requires
read_topology-requires c = rw (c.as_bytes.ensures.value, c.in-Ok.ensures) (text_short c.args.seed)

pub returns-in-Ok-read_topology : goal.returns-in-Ok-read_topology
returns-in-Ok-read_topology c =
    read_as c.args.seed c.as_bytes.result.now c.in-Ok-read_topology.topology
    (c.as_bytes.ensures.value ∙ c.in-Ok.ensures) c.in-Ok-read_topology.ensures

pub unreachable-requires : goal.unreachable-requires
unreachable-requires c =
    read_no_fault c.args.seed c.as_bytes.result.now c.in-Err-Bad.field-0-0 c.in-Err-Bad.field-0-1 c.in-Err-Bad.field-0-2
    (c.as_bytes.ensures.value ∙ c.in-Ok.ensures) (rw c.in-Err-Bad.field-0-is at c.in-Err-Bad.ensures)
