use Rattle.std.proofs.Common.{◌≡◌, ◌++◌, true, List, [], ap, sym, subst, ◌∙◌}
use Rattle.std.specs.Prelude.{if◌then◌else◌, is_some, IfOk, OnOk}
use Rattle.std.specs.List.{All}
use Rattle.epic_ledger.specs.Facts.{facts_of}
use Rattle.epic_ledger.specs.History.{History}
use Rattle.epic_text.specs.Notes.{Noted}
use Rattle.epic_text.specs.Report.{bytes_in, emission_bytes}
use Rattle.epic_app.specs.Noting.{Coming, all_offered, coming, noted_along, notes_after, passes_after, shows_notes, some_alarms}
use Rattle.epic_app.specs.Policed.{ArePoliced, IsNotablePass}
use Rattle.epic_app.proofs.NotingLaws.{no_alarms, unshown}
use Rattle.epic_app.proofs.noting.answer_notes.Goals as goal

pub returns-then-not-shows_notes-clause-notes : goal.returns-then-not-shows_notes-clause-notes
unfolding notes_after
returns-then-not-shows_notes-clause-notes c = λ offers policed.
    let f = facts_of c.args.world.now.state.history in
    let hidden = sym c.shows_notes.ensures ∙ c.if-not-shows_notes.true in
    c.new.ensures.items
    ∙ sym (ap (λ b. if b then noted_along c.args.show.now c.args.world.now.network f c.args.number c.args.world.now.state.moment offers
    (passes_after c.args.command.now c.args.answer.now c.args.world.now.state) else []) hidden)

pub returns-then-not-shows_notes-clause-alarm : goal.returns-then-not-shows_notes-clause-alarm
returns-then-not-shows_notes-clause-alarm c =
    let hidden = sym c.shows_notes.ensures ∙ c.if-not-shows_notes.true in
    sym (no_alarms c.args.show.now c.args.world.now.network (facts_of c.args.world.now.state.history)
    (passes_after c.args.command.now c.args.answer.now c.args.world.now.state) (unshown c.args.show.now.makers (is_some c.args.show.now.police) hidden))

pub passes_notes-requires : goal.passes_notes-requires
unfolding passes_after
passes_notes-requires c =
    let emissions = emission_bytes c.args.world.now.state.history.emissions in
    let came = c.bytes_in-came.ensures ∙ ap (λ (h : History). bytes_in (emission_bytes h.emissions) c.args.command.now) c.ledger.ensures.history in
    let same : coming emissions c.bytes_in-came.result.now c.passes_told.result.now ≡ passes_after c.args.command.now c.args.answer.now c.args.world.now.state
    = λ k. coming emissions (came k) (c.passes_told.ensures k) in
    record { notable = subst (λ (xs : List Coming). All (IsNotablePass c.args.world.now.network) xs) (sym same) c.requires.notable }

pub returns-clause-notes : goal.returns-clause-notes
unfolding notes_after passes_after
returns-clause-notes c = λ offers policed.
    let t = c.args.world.now.network in
    let s = c.args.world.now.state in
    let emissions = emission_bytes s.history.emissions in
    let came = c.bytes_in-came.ensures ∙ ap (λ (h : History). bytes_in (emission_bytes h.emissions) c.args.command.now) c.ledger.ensures.history in
    let same : coming emissions c.bytes_in-came.result.now c.passes_told.result.now ≡ passes_after c.args.command.now c.args.answer.now s
    = λ k. coming emissions (came k) (c.passes_told.ensures k) in
    let shown : shows_notes c.args.show.now ≡ true = sym c.shows_notes.ensures ∙ c.if-not-shows_notes.false in
    let notes : List Coming → List Noted = λ xs. noted_along c.args.show.now t (facts_of s.history) c.args.number s.moment offers xs in
    let all : notes (coming emissions c.bytes_in-came.result.now c.passes_told.result.now) ≡ notes_after c.args.show.now t c.args.number offers c.args.command.now c.args.answer.now s
    = ap notes same ∙ sym (ap (λ b. if b then notes (passes_after c.args.command.now c.args.answer.now s) else []) shown) in
    subst (λ (xs : List Noted). IfOk c.passes_notes.result (λ r. r.notes.items ≡ xs)) all (c.passes_notes.ensures.notes offers policed)

pub returns-clause-alarm : goal.returns-clause-alarm
unfolding passes_after
returns-clause-alarm c =
    let t = c.args.world.now.network in
    let s = c.args.world.now.state in
    let emissions = emission_bytes s.history.emissions in
    let came = c.bytes_in-came.ensures ∙ ap (λ (h : History). bytes_in (emission_bytes h.emissions) c.args.command.now) c.ledger.ensures.history in
    let same : coming emissions c.bytes_in-came.result.now c.passes_told.result.now ≡ passes_after c.args.command.now c.args.answer.now s
    = λ k. coming emissions (came k) (c.passes_told.ensures k) in
    subst (λ (xs : List Coming). IfOk c.passes_notes.result (λ r. r.alarm ≡ some_alarms c.args.show.now t (facts_of s.history) xs)) same c.passes_notes.ensures.alarm

pub returns-clause-police : goal.returns-clause-police
unfolding passes_after
returns-clause-police c = λ offers policed.
    let t = c.args.world.now.network in
    let s = c.args.world.now.state in
    let emissions = emission_bytes s.history.emissions in
    let came = c.bytes_in-came.ensures ∙ ap (λ (h : History). bytes_in (emission_bytes h.emissions) c.args.command.now) c.ledger.ensures.history in
    let same : coming emissions c.bytes_in-came.result.now c.passes_told.result.now ≡ passes_after c.args.command.now c.args.answer.now s
    = λ k. coming emissions (came k) (c.passes_told.ensures k) in
    subst (λ (xs : List Coming). OnOk c.passes_notes.result (ArePoliced t c.args.show.now.police c.passes_notes.new.police (offers ++ all_offered s.moment xs) s.moment)) same
    (c.passes_notes.ensures.police offers policed)
