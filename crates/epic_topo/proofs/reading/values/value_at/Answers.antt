-- The table's look-up finds what the members have at the key's word.
use Rattle.toml.proofs.Views.{table_get}
use Rattle.epic_topo.proofs.reading.values.value_at.Goals as goal

pub returns : goal.returns
returns c =
    rw (← c.word.ensures) (table_get c.get.result c.word.result.now c.args.table.now.entries c.get.ensures.value)
