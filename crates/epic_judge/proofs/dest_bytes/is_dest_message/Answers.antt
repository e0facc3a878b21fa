use Rattle.epic_layout.specs.Updates.{own_updates}
use Rattle.epic_judge.proofs.ByPieces.{message_is}
use Rattle.epic_judge.proofs.dest_bytes.is_dest_message.Goals as goal

pub returns : goal.returns
returns c =
    message_is c.args.packet.now (own_updates c.args.packet.now) c.args.message.now _ _ _
    c.behind_ends-ends.ensures c.behind_own-updates.ensures c.is_payload.ensures
