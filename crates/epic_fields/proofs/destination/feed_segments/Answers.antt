use Rattle.std.proofs.Common.{◌≡◌, ◌<◌, ◌≤◌, length, ap, ◌∙◌, arith}
use Rattle.epic_layout.specs.Contents.{shape}
use Rattle.epic_layout.specs.Route.{no_segment}
use Rattle.epic_layout.specs.Spelling.{segment_bytes}
use Rattle.epic_fields.proofs.FedLemmas.{fed, fed_all, fed_more}
use Rattle.epic_fields.proofs.destination.feed_segments.Goals as goal

pub loop-i-preserved : goal.loop-i-preserved
unfolding shape
loop-i-preserved c =
    let segments = c.args.packet.now.route.segments in
    let count : c.shape-count.result.segments ≡ length segments = c.shape-count.ensures.segments in
    let below : c.loop-i.i < length segments = grind (arith, count, c.loop-i-test.true) in
    fed_more segment_bytes segments c.loop-i.i no_segment c.args.state.now c.loop-i.state c.update.new.self below c.loop-i.invariant
    (c.update.ensures ∙ ap (fed c.loop-i.state) c.segment_head.ensures)

pub returns : goal.returns
unfolding shape
returns c =
    let segments = c.args.packet.now.route.segments in
    let count : c.shape-count.result.segments ≡ length segments = c.shape-count.ensures.segments in
    let past : length segments ≤ c.loop-i.i = grind (arith, count, c.loop-i-test.false) in
    fed_all segment_bytes segments c.loop-i.i c.args.state.now c.loop-i.state past c.loop-i.invariant
