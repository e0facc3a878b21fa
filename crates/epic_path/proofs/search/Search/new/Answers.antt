use Rattle.std.proofs.Common.{refl, sym, ◌∙◌}
use Rattle.epic_path.proofs.LinkLaws.{core_links_more, core_links_none, last_links_more, last_links_none}
use Rattle.epic_path.proofs.search.Search.new.Goals as goal

pub loop-segment-init : goal.loop-segment-init
loop-segment-init c = (refl, refl, λ at. c.new.ensures at ∙ sym (core_links_none at), λ at. c.new-2.ensures at ∙ sym (last_links_none c.args.to at))

pub loop-segment-preserved : goal.loop-segment-preserved
loop-segment-preserved c = (
  c.in_ok-add.ensures.to ∙ c.loop-segment.invariant.0,
  c.in_ok-add.ensures.most ∙ c.loop-segment.invariant.1,
  λ at.
      let kept = c.loop-segment.invariant.2 at in
      let added = c.in_ok-add.ensures.cores at in
      let more = core_links_more at c.args.segments.now c.loop-segment.segment-index c.segment-item.result c.loop-segment-test.true c.segment-item.is in
      cc,
  λ at.
      let kept = c.loop-segment.invariant.3 at in
      let added = c.in_ok-add.ensures.downs at in
      let more = last_links_more c.args.to at c.args.segments.now c.loop-segment.segment-index c.segment-item.result c.loop-segment-test.true c.segment-item.is in
      let same = c.loop-segment.invariant.0 in
      cc,
)
