use Rattle.std.proofs.Common.{◌≡◌, ◌<◌, ◌≤◌, length, sym, ap, ◌∙◌, arith}
use Rattle.std.specs.Prelude.{option_copied}
use Rattle.epic_layout.specs.Contents.{shape}
use Rattle.epic_layout.specs.Route.{no_segment}
use Rattle.epic_layout.specs.Spelling.{segment_bytes}
use Rattle.epic_judge.specs.Compared.{behind}
use Rattle.epic_judge.proofs.ByPieces.{behind_all, behind_more, behind_nothing}
use Rattle.epic_judge.proofs.dest_bytes.behind_segments.Goals as goal

pub loop-i-init : goal.loop-i-init
loop-i-init c = sym (behind_nothing (option_copied c.args.rest))

pub loop-i-preserved : goal.loop-i-preserved
unfolding shape
loop-i-preserved c =
    let all = c.args.packet.now.route.segments in
    let count : c.shape-count.result.segments ≡ length all = c.shape-count.ensures.segments in
    let below : c.loop-i.i < length all = grind (arith, count, c.loop-i-test.true) in
    behind_more segment_bytes all c.loop-i.i no_segment (option_copied c.args.rest) (option_copied c.loop-i.more) (option_copied c.behind-more.result) below c.loop-i.invariant
    (c.behind-more.ensures ∙ ap (λ v. behind v (option_copied c.loop-i.more)) c.segment_head.ensures)

pub returns : goal.returns
unfolding shape
returns c =
    let all = c.args.packet.now.route.segments in
    let count : c.shape-count.result.segments ≡ length all = c.shape-count.ensures.segments in
    let after : length all ≤ c.loop-i.i = grind (arith, count, c.loop-i-test.false) in
    behind_all segment_bytes all c.loop-i.i (option_copied c.args.rest) (option_copied c.loop-i.more) after c.loop-i.invariant
