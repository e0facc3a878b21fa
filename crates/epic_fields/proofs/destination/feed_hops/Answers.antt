use Rattle.std.proofs.Common.{◌≡◌, ◌<◌, ◌≤◌, length, ap, ◌∙◌, arith}
use Rattle.epic_layout.specs.Contents.{shape}
use Rattle.epic_layout.specs.Route.{no_hop, hop}
use Rattle.epic_layout.specs.Spelling.{hop_bytes}
use Rattle.epic_fields.proofs.FedLemmas.{fed, fed_all, fed_more}
use Rattle.epic_fields.proofs.destination.feed_hops.Goals as goal

pub loop-j-preserved : goal.loop-j-preserved
unfolding shape hop
loop-j-preserved c =
    let hops = c.args.packet.now.route.hops in
    let count : c.shape-count.result.hops ≡ length hops = c.shape-count.ensures.hops in
    let below : c.loop-j.j < length hops = grind (arith, count, c.loop-j-test.true) in
    fed_more hop_bytes hops c.loop-j.j no_hop c.args.state.now c.loop-j.state c.update.new.self below c.loop-j.invariant
    (c.update.ensures ∙ ap (fed c.loop-j.state) c.hop_head.ensures)

pub returns : goal.returns
unfolding shape
returns c =
    let hops = c.args.packet.now.route.hops in
    let count : c.shape-count.result.hops ≡ length hops = c.shape-count.ensures.hops in
    let past : length hops ≤ c.loop-j.j = grind (arith, count, c.loop-j-test.false) in
    fed_all hop_bytes hops c.loop-j.j c.args.state.now c.loop-j.state past c.loop-j.invariant
