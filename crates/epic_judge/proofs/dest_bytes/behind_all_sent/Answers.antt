use Rattle.std.proofs.Common.{◌≡◌, ◌<◌, ◌≤◌, length, sym, ap, ◌∙◌, arith}
use Rattle.std.specs.Prelude.{option_copied}
use Rattle.std.specs.List.{range_with_len}
use Rattle.std.proofs.lemmas.List.FromFn.{length-range_with_len}
use Rattle.epic_layout.specs.Contents.{hop_count}
use Rattle.epic_layout.specs.Spelling.{update_count}
use Rattle.epic_index.specs.Events.{sent_name_at}
use Rattle.epic_judge.specs.Compared.{behind}
use Rattle.epic_judge.specs.Walks.{update_at}
use Rattle.epic_judge.proofs.ByPieces.{behind_all, behind_more, behind_nothing, concat_rows, in_range}
use Rattle.epic_judge.proofs.dest_bytes.behind_all_sent.Goals as goal

pub loop-hop-init : goal.loop-hop-init
loop-hop-init c = sym (behind_nothing (option_copied c.args.rest))

pub loop-hop-preserved : goal.loop-hop-preserved
loop-hop-preserved c =
    let s = c.args.sent.now in
    let n = update_count s.first (hop_count s) in
    let updates = update_at c.args.index.now.network s (sent_name_at c.args.index.now.history c.args.number) in
    let inside : c.loop-hop.hop < n = omega (arith, c.loop-hop-test.true, c.update_count-count.ensures.value) in
    let below : c.loop-hop.hop < length (range_with_len 0 n) = omega (arith, inside, length-range_with_len 0 n) in
    behind_more updates (range_with_len 0 n) c.loop-hop.hop 0 (option_copied c.args.rest) (option_copied c.loop-hop.more) (option_copied c.behind_sent-more.result) below c.loop-hop.invariant
    (c.behind_sent-more.ensures ∙ ap (λ j. behind (updates j) (option_copied c.loop-hop.more)) (in_range n c.loop-hop.hop inside))

pub returns : goal.returns
returns c =
    let s = c.args.sent.now in
    let n = update_count s.first (hop_count s) in
    let updates = update_at c.args.index.now.network s (sent_name_at c.args.index.now.history c.args.number) in
    let after : length (range_with_len 0 n) ≤ c.loop-hop.hop = omega (arith, c.loop-hop-test.false, c.update_count-count.ensures.value, length-range_with_len 0 n) in
    behind_all updates (range_with_len 0 n) c.loop-hop.hop (option_copied c.args.rest) (option_copied c.loop-hop.more) after c.loop-hop.invariant
    ∙ ap (λ m. behind m (option_copied c.args.rest)) (concat_rows updates (range_with_len 0 n))
