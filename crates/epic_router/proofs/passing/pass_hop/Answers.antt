use Rattle.epic_router.proofs.PassedHops.{one_on}
use Rattle.epic_router.proofs.passing.pass_hop.Goals as goal

pub returns : goal.returns
returns c = λ t a g right. one_on t a g c.args.bytes.now c.pass.new.bytes c.args.update.now c.pass.ensures.packet c.pass.ensures.spelled right
