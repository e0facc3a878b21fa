use Rattle.epic_index.proofs.OriginKeys.{again_here, again_not}
use Rattle.epic_index.proofs.origins.add_again.Goals as goal

pub returns-then-has : goal.returns-then-has
returns-then-has c = again_here c.args.origins.now.rows.keys c.args.again.now.keys _ c.args.key _ c.has.ensures c.if-has.true c.push.ensures.keys

pub returns-else-has : goal.returns-else-has
returns-else-has c = again_not c.args.origins.now.rows.keys c.args.again.now.keys c.args.key _ c.has.ensures c.if-has.false
