use Rattle.std.proofs.Common.{sym, ◌∙◌}
use Rattle.epic_num.proofs.LevelLaws.{updated_tagged}
use Rattle.epic_index.proofs.fields.add_hop_update.Goals as goal

pub message_key-requires-clause-tagged : goal.message_key-requires-clause-tagged
message_key-requires-clause-tagged c = updated_tagged c.args.packet.now.first c.shape-shape.ensures.packet.exists (rw c.first_byte.ensures at (sym c.is_updated.ensures ∙ c.if-is_updated.true))
