use Rattle.epic_index.proofs.Seeking.{table_kept}
use Rattle.epic_index.proofs.table.Table.reserve.Goals as goal

pub invariant_of-self : goal.invariant_of-self
invariant_of-self g c = rw c.in_err-reserve.ensures.items c.self.invariant

pub invariant_of-self-in_err-reserve-2 : goal.invariant_of-self-in_err-reserve-2
invariant_of-self-in_err-reserve-2 g c =
    rw c.in_ok-reserve.ensures.items
    (table_kept _ _ c.reserve-2.new.self c.self.invariant c.in_err-reserve-2.ensures.places c.in_err-reserve-2.ensures.tags)

pub invariant_of-self-2 : goal.invariant_of-self-2
invariant_of-self-2 g c =
    rw c.in_ok-reserve.ensures.items
    (table_kept _ _ c.reserve-2.new.self c.self.invariant c.in_ok-reserve-2.ensures.places c.in_ok-reserve-2.ensures.tags)
