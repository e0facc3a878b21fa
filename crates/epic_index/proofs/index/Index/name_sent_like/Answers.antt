use Rattle.epic_index.proofs.LikeKeys.{index_like}
use Rattle.epic_index.proofs.index.Index.name_sent_like.Goals as goal

pub returns : goal.returns
returns c =
    rw (← c.self.view_is)
    (index_like _ _ _ _ c.args.packet.now c.args.hop _ _ _ c.self.invariant.index c.key_of.ensures c.first_like-number.ensures c.name_named.ensures)
