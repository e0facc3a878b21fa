use Rattle.std.proofs.Common.{◌∙◌, ap}
use Rattle.std.specs.Prelude.{option_map}
use Rattle.epic_ledger.specs.Facts.{as_pass, pass_name}
use Rattle.epic_index.specs.Events.{passed_at, pass_at}
use Rattle.epic_index.proofs.Happening.{got_some, got_none}
use Rattle.epic_index.proofs.happened.passed.Goals as goal

pub returns-in-Some : goal.returns-in-Some
unfolding passed_at pass_at
returns-in-Some c =
    let h = c.args.ledger.now.history in
    c.passed_by.ensures ∙ ap (option_map (λ w. (pass_name w, w.hop, w.packet))) (got_some (as_pass h.emissions) h c.args.no _ c.in-Some.event c.event_at.ensures.value c.in-Some.is)

pub returns-in-None : goal.returns-in-None
unfolding passed_at pass_at
returns-in-None c =
    let h = c.args.ledger.now.history in
    ap (option_map (λ w. (pass_name w, w.hop, w.packet))) (got_none (as_pass h.emissions) h c.args.no _ c.event_at.ensures.value c.in-None.is)
