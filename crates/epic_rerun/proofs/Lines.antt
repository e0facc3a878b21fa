-- The lines of verdicts are those of what passages tell.
use Rattle.std.proofs.Common.{◌≡◌, ℕ, ◌+◌, List, [], ◌∷◌, ◌++◌, length, map, drop, refl, sym, ap, ◌∙◌, append-nil}
use Rattle.std.specs.Prelude.{flat_map}
use Rattle.std.proofs.lemmas.List.Concat.{flat_map-append}
use Rattle.epic_topo.specs.Network.{Network}
use Rattle.epic_ledger.specs.declared.event.Event.{Event}
use Rattle.epic_ledger.specs.History.{Emission, History}
use Rattle.epic_model.specs.Traces.{Passage}
use Rattle.epic_record.specs.declared.item.Item.TheVariants as items
use Rattle.epic_record.specs.Passing.{accepted_items, emitted_from, new_items, pass_items}
use Rattle.epic_record.specs.VerdictLines.{accepted_by, acceptances, verdict_text}
use Rattle.epic_rerun.specs.Ledgers.{passage_items, passage_verdicts}
use Rattle.epic_rerun.proofs.Placing.{Told, lines_both}

emitted_none : (number : ℕ) (es : List Emission) → flat_map accepted_by (emitted_from number es) ≡ []
emitted_none number [] = refl
emitted_none number (e ∷ es) = emitted_none (number + 1) es

happened_none : (vs : List Event) → flat_map accepted_by (map (λ e. items.Event e) vs) ≡ []
happened_none [] = refl
happened_none (e ∷ vs) = happened_none vs

-- what is new in a ledger tells no acceptance
none_accepted : (h g : History) → acceptances (new_items h g) ≡ []
unfolding acceptances new_items
none_accepted h g =
    let es = emitted_from (length h.emissions + 1) (drop (length h.emissions) g.emissions) in
    let vs = map (λ e. items.Event e) (drop (length h.events) g.events) in
    flat_map-append accepted_by es vs
    ∙ (λ i. emitted_none (length h.emissions + 1) (drop (length h.emissions) g.emissions) i ++ happened_none (drop (length h.events) g.events) i)

pub no_lines : (t : Network) (h g : History) → [] ≡ verdict_text t (acceptances (new_items h g)) []
unfolding verdict_text
no_lines t h g = ap (λ accs. verdict_text t accs []) (sym (none_accepted h g))

-- a passage's lines are those of its acceptances
pub passage_lines : (t : Network) (x : Passage) → passage_verdicts t x ≡ verdict_text t (acceptances (passage_items x)) x.happened.verdicts
unfolding acceptances pass_items
passage_lines t x =
    let accepted = accepted_items x.place x.came x.happened.result in
    let new = new_items x.before x.happened.history in
    ap (λ accs. verdict_text t accs x.happened.verdicts)
    (sym (append-nil (acceptances accepted))
    ∙ (ap (λ accs. acceptances accepted ++ accs) (sym (none_accepted x.before x.happened.history)) ∙ sym (flat_map-append accepted_by accepted new)))

-- the lines of passages, and of one before them
abbrev pub AreLined : Network → List Passage → Type 0
AreLined t xs =
    flat_map (passage_verdicts t) xs ≡ verdict_text t (acceptances (flat_map passage_items xs)) (flat_map (λ x. x.happened.verdicts) xs)

pub none_lined : (t : Network) → AreLined t []
unfolding acceptances verdict_text
none_lined t = refl

pub one_lined : (t : Network) (h g : History) (x : Passage) (xs : List Passage) → Told t h (passage_items x) x.happened.verdicts g → AreLined t xs
    → AreLined t (x ∷ xs)
one_lined t h g x xs told lined =
    (λ i. passage_lines t x i ++ lined i)
    ∙ sym (lines_both t h g (passage_items x) (flat_map passage_items xs) x.happened.verdicts (flat_map (λ y. y.happened.verdicts) xs) told)
