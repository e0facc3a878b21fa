use Rattle.std.proofs.Common.{sym, ◌∙◌, arith}
use Rattle.epic_path.proofs.JoinLemmas.{walk_more, walk_stops, walk_ends}
use Rattle.epic_path.proofs.joining.walk.Goals as goal

pub returns-in_default : goal.returns-in_default
returns-in_default c =
    walk_stops c.loop-index.legs.items c.loop-index.at c.args.segments.now c.loop-index.index _ c.loop-index-test.true c.index-segments-index.is (sym c.in_default.is ∙ c.leg_from.ensures)
    ∙ c.loop-index.invariant.0

pub loop-index-preserved : goal.loop-index-preserved
loop-index-preserved c = (
  walk_more c.loop-index.legs.items _ c.loop-index.at _ c.args.segments.now c.loop-index.index _ c.in-Some.leg c.loop-index-test.true c.index-segments-index.is (sym c.in-Some.is ∙ c.leg_from.ensures) c.push.ensures.items c.leg_end-at.ensures
      ∙ c.loop-index.invariant.0,
  omega arith,
)

pub returns : goal.returns
returns c = walk_ends c.loop-index.legs.items c.loop-index.at c.args.segments.now c.loop-index.index c.loop-index-test.false ∙ c.loop-index.invariant.0
