use Rattle.epic_index.proofs.OriginKeys.{index_many, index_only}
use Rattle.epic_index.proofs.index.Index.only_send.Goals as goal

pub returns-then-is_repeated : goal.returns-then-is_repeated
returns-then-is_repeated c =
    rw (← c.self.view_is)
    (index_many _ _ _ _ c.args.packet.now _ _ c.self.invariant.index c.key_of-key.ensures c.is_repeated.ensures c.if-is_repeated.true)

pub returns : goal.returns
returns c =
    rw (← c.self.view_is)
    (index_only _ _ _ _ c.args.packet.now _ _ c.self.invariant.index c.key_of-key.ensures c.is_repeated.ensures _ c.if-is_repeated.false c.first_origin.ensures)
