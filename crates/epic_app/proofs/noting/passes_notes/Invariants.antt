use Rattle.std.proofs.Common.{◌≡◌, ◌++◌, List, drop, take}
use Rattle.epic_ledger.specs.Facts.{facts_of}
use Rattle.epic_policer.specs.Policing.{Offer}
use Rattle.epic_text.specs.Report.{emission_bytes}
use Rattle.epic_app.specs.Noting.{all_offered, coming, noted_along, some_alarms}
use Rattle.epic_app.specs.Policed.{ArePoliced}
use Rattle.epic_app.proofs.noting.passes_notes.Given as goal

-- The passes that are left come as they did at first. Of those before them it was noted what there is to note, and what they offer was offered.
abbrev pub invariant-loop-passed : goal.invariant-loop-passed
invariant-loop-passed l =
    let emissions = emission_bytes l.world.state.history.emissions in
    let all = coming emissions l.came l.passes in
    let done = take l.passed-index all in
    let t = l.world.network in
    let f = facts_of l.world.state.history in
    let moment = l.world.state.moment in
    (coming emissions l.next (drop l.passed-index l.passes) ≡ drop l.passed-index all)
    × ((offers : List Offer) → ArePoliced t l.show.police l.initial.police offers moment
    → (l.notes.items ≡ noted_along l.show t f l.number moment offers done)
    × ArePoliced t l.show.police l.police (offers ++ all_offered moment done) moment)
    × (l.alarm ≡ some_alarms l.show t f done)
