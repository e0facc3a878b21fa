use Rattle.std.proofs.Common.{map}
use Rattle.std.specs.List.{range_with_len}
use Rattle.epic_layout.specs.Contents.{hop_count}
use Rattle.epic_layout.specs.Spelling.{update_count}
use Rattle.epic_index.specs.Events.{sent_name_at}
use Rattle.epic_judge.specs.Walks.{update_at}
use Rattle.epic_judge.proofs.ByPieces.{message_is}
use Rattle.epic_judge.proofs.dest_bytes.is_sent_message.Goals as goal

pub returns : goal.returns
returns c =
    message_is c.args.sent.now (map (update_at c.args.index.now.network c.args.sent.now (sent_name_at c.args.index.now.history c.args.number)) (range_with_len 0 (update_count c.args.sent.now.first (hop_count c.args.sent.now)))) c.args.message.now _ _ _
    c.behind_ends-ends.ensures c.behind_all_sent-updates.ensures c.is_payload.ensures
