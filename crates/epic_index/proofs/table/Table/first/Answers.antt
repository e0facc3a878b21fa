use Rattle.epic_index.proofs.Seeking.{table_cut, table_low, table_find, position_low}
use Rattle.epic_index.proofs.table.Table.first.Goals as goal

pub find-requires-clause-cut : goal.find-requires-clause-cut
find-requires-clause-cut g c = rw c.as_slice.ensures.value (table_cut _ _ c.self.invariant c.args.key)

pub find-requires-clause-known : goal.find-requires-clause-known
find-requires-clause-known g c = rw c.as_slice.ensures.value (table_low _ _ c.args.key c.self.invariant)

pub returns-clause-value : goal.returns-clause-value
returns-clause-value g c =
    rw (← c.self.view_is)
    (table_find _ _ g.K.PartialEq.eq g.met.K.Key.tagged g.met.K.Ord.matches_eq c.self.invariant c.args.key _ (rw c.as_slice.ensures.value at c.find.ensures))

pub returns-clause-within : goal.returns-clause-within
returns-clause-within g c =
    rw (← c.self.view_is)
    (position_low _ _ _ (table_find _ _ g.K.PartialEq.eq g.met.K.Key.tagged g.met.K.Ord.matches_eq c.self.invariant c.args.key _ (rw c.as_slice.ensures.value at c.find.ensures)))
