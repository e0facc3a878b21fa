use Rattle.std.proofs.Common.{◌∙◌, ap}
use Rattle.std.specs.Prelude.{option_map}
use Rattle.epic_ledger.specs.Facts.{as_send}
use Rattle.epic_index.specs.Events.{sent_at, send_at}
use Rattle.epic_index.proofs.Happening.{got_some, got_none}
use Rattle.epic_index.proofs.happened.sent.Goals as goal

pub returns-in-Some : goal.returns-in-Some
unfolding sent_at send_at
returns-in-Some c =
    let h = c.args.ledger.now.history in
    c.sent_by.ensures ∙ ap (option_map (λ s. (s.emission, s.packet))) (got_some (as_send h.emissions) h c.args.no _ c.in-Some.event c.event_at.ensures.value c.in-Some.is)

pub returns-in-None : goal.returns-in-None
unfolding sent_at send_at
returns-in-None c =
    let h = c.args.ledger.now.history in
    ap (option_map (λ s. (s.emission, s.packet))) (got_none (as_send h.emissions) h c.args.no _ c.event_at.ensures.value c.in-None.is)
