use Rattle.std.proofs.Common.{subst}
use Rattle.epic_model.specs.Judged.{VerdictsHold}
use Rattle.epic_model.specs.Steps.{next}
use Rattle.epic_world.specs.Refining.{state_of}
use Rattle.epic_world.specs.Standing.{Standing}
use Rattle.epic_world.proofs.world.World.judges.Goals as goal

pub returns : goal.returns
returns c =
    let w = c.self.inside in
    subst (λ (v : Standing). let n = next v.network v.state c.args.command.now in VerdictsHold v.network n.answer n.passages) c.self.view_is
    (c.verdicts_are_right.ensures w.topo (state_of w.moment w.steps w.ledger.history) c.args.command.now
    c.is_topology.ensures c.fits.ensures c.self.invariant.world)
