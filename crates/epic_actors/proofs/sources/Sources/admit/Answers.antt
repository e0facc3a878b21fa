use Rattle.std.proofs.Common.{◌≡◌, ◌<◌, ◌^◌, true, false, sym, subst, ap, ◌∙◌}
use Rattle.std.specs.Prelude.{None, Some, IfSome, is_some}
use Rattle.epic_ends.specs.Sources.{Sender}
use Rattle.epic_ledger.specs.Facts.{sends_in}
use Rattle.epic_model.specs.Keeping.{latest_sent}
use Rattle.epic_actors.specs.Sources.{SourcesStandFor, source_of}
use Rattle.epic_actors.proofs.SourceTables.{table, found, own_is, answer_is}
use Rattle.epic_actors.proofs.sources.Sources.admit.Goals as goal
use Rattle.epic_actors.proofs.sources.Sources.admit.Goals.{In-Some}

before : (c : In-Some) → SourcesStandFor (table c.self.inside.by_name) c.args.ledger.now.history
before c = subst (λ v. SourcesStandFor v c.args.ledger.now.history) (sym c.self.view_is) c.requires.stand

was : (c : In-Some) → source_of (table c.self.inside.by_name) c.args.src ≡ Some c.in-Some.source.now
was c = found c.self.inside.by_name c.args.src ∙ sym c.in-Some.ensures.value

own : (c : In-Some) → c.in-Some.source.now ≡ record { host = c.args.src; last = latest_sent (sends_in c.args.ledger.now.history) c.args.src }
own c = own_is c.self.inside.by_name c.args.src c.in-Some.source.now c.args.ledger.now.history (was c) (before c)

pub admit-requires : goal.admit-requires
admit-requires c =
    let d = (goal.at.admit-requires c).In-Some in
    subst (λ (x : Sender). IfSome x.last (λ last. last < 2 ^ 63)) (sym (own d)) c.requires.last

pub unreachable-requires : goal.unreachable-requires
unreachable-requires c =
    let none : source_of (table c.self.inside.by_name) c.args.src ≡ None = found c.self.inside.by_name c.args.src ∙ sym c.in-None.ensures.value in
    let some : false ≡ true = sym (ap (λ v. is_some (source_of v c.args.src)) (sym c.self.view_is) ∙ ap is_some none) ∙ c.requires.ready in
    absurd (cc)

pub returns : goal.returns
returns c =
    let d = (goal.at.returns c).In-Some in
    λ steps. c.admit.ensures ∙ answer_is _ _ _ _ _ _ _ _ _ _ _ (own d) c.requires.keys steps
