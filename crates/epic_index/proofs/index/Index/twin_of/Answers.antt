use Rattle.epic_index.proofs.TwinKeys.{find_some, find_none}
use Rattle.epic_index.proofs.index.Index.twin_of.Goals as goal

pub returns-in-Some : goal.returns-in-Some
returns-in-Some c =
    rw (← c.self.view_is)
    (find_some
    _
    _
    _
    _
    _
    _
    _
    _
    _
    c.self.invariant.index
    c.key_of.ensures
    c.first_twin.ensures
    c.in-Some.is
    (rw (← c.self.view_is) at c.name_at.ensures))

pub returns-in-None : goal.returns-in-None
returns-in-None c =
    rw (← c.self.view_is)
    (find_none _ _ _ _ _ _ _ c.self.invariant.index c.key_of.ensures c.first_twin.ensures c.in-None.is)
