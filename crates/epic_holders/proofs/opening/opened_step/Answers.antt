use Rattle.std.proofs.Common.{◌∙◌, arith}
use Rattle.epic_ledger.specs.Facts.{facts_of}
use Rattle.epic_holders.proofs.Steps.{next_least, whole_least}
use Rattle.epic_holders.proofs.opening.opened_step.Goals as goal

pub loop-index-preserved : goal.loop-index-preserved
loop-index-preserved c =
    let h = c.args.ledger.now.history in
    next_least (facts_of h) c.args.x.now h.events c.loop-index.index c.event_at.result.now c.event_at.ensures.here c.loop-index.least
    c.sooner_at-least.result c.sooner_at-least.ensures
    ∙ c.loop-index.invariant

pub returns : goal.returns
unfolding facts_of
returns c =
    let h = c.args.ledger.now.history in
    whole_least (facts_of h) c.args.x.now h.events c.loop-index.index c.loop-index.least _ (omega (arith, c.events-index-end.ensures.value)) c.loop-index.invariant
