use Rattle.epic_index.proofs.Seeking.{table_cut, table_low, table_push}
use Rattle.epic_index.proofs.table.Table.push.Goals as goal

pub add-requires-clause-cut : goal.add-requires-clause-cut
add-requires-clause-cut g c = rw c.as_slice.ensures.value (table_cut _ _ c.self.invariant c.args.key)

pub add-requires-clause-known : goal.add-requires-clause-known
add-requires-clause-known g c = rw c.as_slice.ensures.value (table_low _ _ c.args.key c.self.invariant)

pub invariant_of-self : goal.invariant_of-self
invariant_of-self g c =
    rw c.push_reserved.ensures.items
    (table_push _ _ c.add.new.self c.args.key g.met.K.Ord.total c.self.invariant (rw c.as_slice.ensures.value at c.add.ensures.places) c.add.ensures.tags)
