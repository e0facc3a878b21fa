use Rattle.epic_ends.proofs.PathLists.{hops_more, room}
use Rattle.epic_ends.proofs.path_parts.hops_of.Goals as goal

pub push_leg-requires : goal.push_leg-requires
push_leg-requires c = room c.as_slice-legs.result.now c.args.path.now.legs.items c.loop-leg.leg-index c.leg-item.result c.loop-leg.hops.items c.loop-leg-test.true c.leg-item.is c.loop-leg.invariant c.as_slice-legs.ensures.value c.args.path.now.lawful

pub loop-leg-preserved : goal.loop-leg-preserved
loop-leg-preserved c = hops_more c.as_slice-legs.result.now c.loop-leg.leg-index c.leg-item.result c.loop-leg.hops.items _ c.loop-leg-test.true c.leg-item.is c.loop-leg.invariant c.push_leg.ensures
