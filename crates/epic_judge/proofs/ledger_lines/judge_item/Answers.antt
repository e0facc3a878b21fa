use Rattle.std.proofs.Common.{◌≡◌, true, refl, ap, sym, subst, ◌∙◌}
use Rattle.epic_num.specs.Levels.{is_first_byte}
use Rattle.epic_layout.specs.Layout.{fault}
use Rattle.epic_ledger.specs.Facts.{facts_of}
use Rattle.epic_record.specs.declared.item.Item.{Item}
use Rattle.epic_record.specs.declared.item.Item.TheVariants as items
use Rattle.epic_record.specs.LedgerFile.{is_placed}
use Rattle.epic_record.specs.VerdictLines.{accepted_by}
use Rattle.epic_judge.specs.Reaching.{AreJudged, IsReached}
use Rattle.epic_judge.specs.Sound.{history_more}
use Rattle.epic_judge.proofs.Placed.{emission_faultless, on_ok}
use Rattle.epic_judge.proofs.SoundLaws.{event_fits, known_as, sound_known}
use Rattle.epic_judge.proofs.ledger_lines.judge_item.Goals as goal

pub add_event-requires-clause-fits : goal.add_event-requires-clause-fits
add_event-requires-clause-fits c =
    let x = c.args.index.now in
    event_fits x.network x.history c.in-Event.event c.requires.sound (subst (λ (i : Item). is_placed x.network x.history i ≡ true) c.in-Event.is c.requires.placed)

pub add_event-requires-clause-known : goal.add_event-requires-clause-known
add_event-requires-clause-known c =
    let x = c.args.index.now in
    known_as x.network x.history c.in-Event.event (subst (λ (i : Item). is_placed x.network x.history i ≡ true) c.in-Event.is c.requires.placed)

pub returns-in-Ok-clause-history : goal.returns-in-Ok-clause-history
returns-in-Ok-clause-history c =
    c.in-Ok.ensures.history ∙ ap (history_more c.args.index.now.history) (sym c.in-Event.is)

pub returns-in-Ok-clause-reached : goal.returns-in-Ok-clause-reached
returns-in-Ok-clause-reached c =
    let x = c.args.index.now in
    subst (λ (i : Item). AreJudged x.network (facts_of x.history) (accepted_by i) c.args.progress c.args.progress) (sym c.in-Event.is) refl

pub add_emission-requires : goal.add_emission-requires
add_emission-requires c =
    let x = c.args.index.now in
    record {
      faultless =
          ap (fault is_first_byte) c.as_slice.ensures
          ∙ emission_faultless x.network x.history c.in-Emission.no c.in-Emission.place c.in-Emission.bytes (subst (λ (i : Item). is_placed x.network x.history i ≡ true) c.in-Emission.is c.requires.placed);
    }

pub returns-in-Ok-add_emission-clause-history : goal.returns-in-Ok-add_emission-clause-history
returns-in-Ok-add_emission-clause-history c =
    let h = c.args.index.now.history in
    c.in-Ok-add_emission.ensures.history
    ∙ (ap (λ bytes. history_more h (items.Emission c.in-Emission.no c.in-Emission.place bytes)) c.as_slice.ensures ∙ ap (history_more h) (sym c.in-Emission.is))

pub returns-in-Ok-add_emission-clause-reached : goal.returns-in-Ok-add_emission-clause-reached
returns-in-Ok-add_emission-clause-reached c =
    let x = c.args.index.now in
    subst (λ (i : Item). AreJudged x.network (facts_of x.history) (accepted_by i) c.args.progress c.args.progress) (sym c.in-Emission.is) refl

pub judge_hop-requires-clause-facts : goal.judge_hop-requires-clause-facts
judge_hop-requires-clause-facts c = let x = c.args.index.now in sound_known x.network x.history c.requires.sound

pub judge_hop-requires-clause-placed : goal.judge_hop-requires-clause-placed
judge_hop-requires-clause-placed c =
    let x = c.args.index.now in
    let is = c.in-AcceptHop.is ∙ ap (λ bytes. items.AcceptHop c.in-AcceptHop.a c.in-AcceptHop.generation c.in-AcceptHop.hop bytes) (sym c.as_slice-in-AcceptHop.ensures) in
    subst (λ (i : Item). is_placed x.network x.history i ≡ true) is c.requires.placed

pub returns-in-AcceptHop-clause-history : goal.returns-in-AcceptHop-clause-history
returns-in-AcceptHop-clause-history c =
    let h = c.args.index.now.history in
    on_ok c.judge_hop.result (h ≡ history_more h c.args.item) (ap (history_more h) (sym c.in-AcceptHop.is))

pub returns-in-AcceptHop-clause-reached : goal.returns-in-AcceptHop-clause-reached
returns-in-AcceptHop-clause-reached c =
    let x = c.args.index.now in
    let is = c.in-AcceptHop.is ∙ ap (λ bytes. items.AcceptHop c.in-AcceptHop.a c.in-AcceptHop.generation c.in-AcceptHop.hop bytes) (sym c.as_slice-in-AcceptHop.ensures) in
    subst (λ (i : Item). IsReached x.network (facts_of x.history) (accepted_by i) c.args.progress c.judge_hop.result) (sym is) c.judge_hop.ensures

pub judge_dest-requires-clause-facts : goal.judge_dest-requires-clause-facts
judge_dest-requires-clause-facts c = let x = c.args.index.now in sound_known x.network x.history c.requires.sound

pub judge_dest-requires-clause-placed : goal.judge_dest-requires-clause-placed
judge_dest-requires-clause-placed c =
    let x = c.args.index.now in
    let is = c.in-AcceptDest.is ∙ ap (λ bytes. items.AcceptDest c.in-AcceptDest.host bytes) (sym c.as_slice-in-AcceptDest.ensures) in
    subst (λ (i : Item). is_placed x.network x.history i ≡ true) is c.requires.placed

pub returns-clause-history : goal.returns-clause-history
returns-clause-history c =
    let h = c.args.index.now.history in
    on_ok c.judge_dest.result (h ≡ history_more h c.args.item) (ap (history_more h) (sym c.in-AcceptDest.is))

pub returns-clause-reached : goal.returns-clause-reached
returns-clause-reached c =
    let x = c.args.index.now in
    let is = c.in-AcceptDest.is ∙ ap (λ bytes. items.AcceptDest c.in-AcceptDest.host bytes) (sym c.as_slice-in-AcceptDest.ensures) in
    subst (λ (i : Item). IsReached x.network (facts_of x.history) (accepted_by i) c.args.progress c.judge_dest.result) (sym is) c.judge_dest.ensures
