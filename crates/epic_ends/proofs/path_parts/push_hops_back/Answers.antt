use Rattle.std.proofs.Common.{refl}
use Rattle.epic_ends.proofs.PathLists.{back_more}
use Rattle.epic_ends.proofs.path_parts.push_hops_back.Goals as goal

pub loop-i-preserved : goal.loop-i-preserved
loop-i-preserved c = back_more c.args.all.now.items c.loop-i.all.items _ c.args.hops.now c.loop-i.i _ _ c.loop-i-test.true c.loop-i.invariant refl c.push.ensures.items
