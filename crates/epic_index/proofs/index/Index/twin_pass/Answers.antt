use Rattle.epic_index.proofs.PassKeys.{index_pass}
use Rattle.epic_index.proofs.index.Index.twin_pass.Goals as goal

pub returns : goal.returns
returns c =
    rw (← c.self.view_is)
    (index_pass _ _ _ _ c.args.packet.now c.args.hop c.args.x.now _ _ _ c.self.invariant.index c.key_of.ensures c.first_pass-number.ensures c.name_passed.ensures)
