use Rattle.std.proofs.Common.{◌∙◌, ap}
use Rattle.std.specs.Prelude.{option_and_then}
use Rattle.epic_ledger.specs.Facts.{as_send, facts_of, sent_name}
use Rattle.epic_index.specs.Events.{sent_name_at, send_at}
use Rattle.epic_index.proofs.Happening.{got_some, got_none}
use Rattle.epic_index.proofs.happened.name_sent.Goals as goal

pub returns-in-Some : goal.returns-in-Some
unfolding sent_name_at send_at
returns-in-Some c =
    let h = c.args.ledger.now.history in
    c.name_by.ensures
    ∙ ap (option_and_then (λ s. sent_name (facts_of h).issues s c.args.hop)) (got_some (as_send h.emissions) h c.args.no _ c.in-Some.event c.event_at.ensures.value c.in-Some.is)

pub returns-in-None : goal.returns-in-None
unfolding sent_name_at send_at
returns-in-None c =
    let h = c.args.ledger.now.history in
    ap (option_and_then (λ s. sent_name (facts_of h).issues s c.args.hop)) (got_none (as_send h.emissions) h c.args.no _ c.event_at.ensures.value c.in-None.is)
