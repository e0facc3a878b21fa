use Rattle.std.proofs.Common.{sym, ◌∙◌, arith}
use Rattle.epic_ledger.specs.Facts.{facts_of}
use Rattle.epic_audit.proofs.Walked.{any_here}
use Rattle.epic_holders.specs.Found.{is_sender_at}
use Rattle.epic_holders.proofs.Sent.{senders_are, none_left}
use Rattle.epic_holders.proofs.holding.any_sender.Goals as goal

pub returns-then-is_sender_at : goal.returns-then-is_sender_at
returns-then-is_sender_at c =
    let h = c.args.ledger.now.history in
    sym
    (sym (senders_are h c.args.x.now c.args.holder.now)
    ∙ any_here (is_sender_at (facts_of h).issues c.args.x.now c.args.holder.now h.emissions) h.events c.loop-index.index c.event_at.result.now
    c.event_at.ensures.here c.loop-index.invariant (sym c.is_sender_at.ensures ∙ c.if-is_sender_at.true))

pub returns : goal.returns
returns c =
    let h = c.args.ledger.now.history in
    sym
    (sym (senders_are h c.args.x.now c.args.holder.now)
    ∙ none_left (is_sender_at (facts_of h).issues c.args.x.now c.args.holder.now h.emissions) h.events c.loop-index.index (omega (arith, c.events-index-end.ensures.value)) c.loop-index.invariant)
