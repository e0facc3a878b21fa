use Rattle.std.proofs.Common.{◌≡◌, take}
use Rattle.std.specs.Prelude.{option_copied}
use Rattle.std.specs.List.{flat_map, range_with_len}
use Rattle.epic_layout.specs.Contents.{hop_count}
use Rattle.epic_layout.specs.Spelling.{update_count}
use Rattle.epic_index.specs.Events.{sent_name_at}
use Rattle.epic_judge.specs.Compared.{behind}
use Rattle.epic_judge.specs.Walks.{update_at}
use Rattle.epic_judge.proofs.dest_bytes.behind_all_sent.Given as goal

abbrev pub invariant-loop-hop : goal.invariant-loop-hop
invariant-loop-hop l =
    let updates = update_at l.index.network l.sent (sent_name_at l.index.history l.number) in
    option_copied l.more ≡ behind (flat_map updates (take l.hop (range_with_len 0 (update_count l.sent.first (hop_count l.sent))))) (option_copied l.initial.rest)
