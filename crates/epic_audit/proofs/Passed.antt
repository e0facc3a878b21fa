-- What is asked of accepted hops, and what walks along the events find.
use Rattle.std.proofs.Common.{◌≡◌, ℕ, ◌+◌, Bool, true, false, ◌||◌, cond, List, [], ◌∷◌, take, drop, Option, Some, None, find, slice_get, refl, ap, sym, ◌∙◌}
use Rattle.std.specs.Prelude.{filter_map, is_some, option_map, option_and_then, if◌then◌else◌}
use Rattle.std.specs.List.{list_any, position, cons_option}
use Rattle.std.specs.Borrow.{Bor}
use Rattle.std.specs.Option.{option_map_or, option_or, option_copied}
use Rattle.std.proofs.lemmas.Option.{same_Some}
use Rattle.epic_num.specs.declared.hop.HopName.{HopName}
use Rattle.epic_layout.specs.Contents.{Contents}
use Rattle.epic_num.specs.Chains.{Issue}
use Rattle.epic_layout.specs.Layout.{parse}
use Rattle.epic_ledger.specs.History.{History, Emission, emission_at}
use Rattle.epic_ledger.specs.Facts.{Pass, as_pass, facts_of, issues_in, packet_at, pass_name}
use Rattle.epic_ledger.specs.Lawful.{Fits, IsLawful}
use Rattle.epic_ledger.specs.declared.event.Event.{Event}
use Rattle.epic_ledger.specs.declared.event.Event.TheVariants as event
use Rattle.epic_ledger.specs.Queries.{is_pass_of, pass_of}
use Rattle.epic_topo.specs.Network.{Network}
use Rattle.epic_audit.specs.Searches.{is_passed, twin_at, find_map, PassFits}
use Rattle.epic_audit.specs.Verdicts.{is_twin_pass, twin_pass}
use Rattle.epic_audit.specs.declared.uncovered.Uncovered.{Uncovered}
use Rattle.epic_audit.proofs.Narrowed.{said}
use Rattle.epic_audit.proofs.Walked.{drop_there}
use Rattle.epic_audit.proofs.Finds.{found_at, missing_at, missing, none_there, any_there}

some_place : {X : Type 0} (q : X → Bool) (xs : List X) → is_some (position q xs) ≡ list_any q xs
some_place q xs = by (position q xs) (list_any q xs) refl refl
  where
    by : (o : Option ℕ) (b : Bool) → position q xs ≡ o → list_any q xs ≡ b → is_some o ≡ b
    by None false e k = refl
    by (Some i) true e k = refl
    by None true e k =
        let there = any_there q xs k in
        let fails = missing q xs (missing_at q xs e) there.0 there.1 there.2 in
        let passes = there.3 in
        absurd (cc)
    by (Some i) false e k =
        let there = found_at q xs i e in
        let fails = none_there q xs k i there.0 there.1 in
        let passes = there.2 in
        absurd (cc)

any_answer : {X Y : Type 0} (h : X → Option Y) (q : Y → Bool) (xs : List X) → list_any (λ x. option_map_or q (h x) false) xs ≡ list_any q (filter_map h xs)
any_answer h q [] = refl
any_answer {X} {Y} h q (x ∷ xs) = by (h x) (any_answer h q xs)
  where
    by : (o : Option Y) → list_any (λ y. option_map_or q (h y) false) xs ≡ list_any q (filter_map h xs)
        → (option_map_or q o false || list_any (λ y. option_map_or q (h y) false) xs) ≡ list_any q (cons_option o (filter_map h xs))
    by None rest = rest
    by (Some y) rest = ap (λ (b : Bool). q y || b) rest

pub passed_is : (h : History) (x : HopName) (p : Contents) (i : ℕ) → is_some (pass_of h p.first x p.src p.ts i) ≡ is_passed (facts_of h) x p i
unfolding pass_of is_passed facts_of
passed_is h x p i =
    some_place (λ e. option_map_or (is_pass_of p.first x p.src p.ts i) (as_pass h.emissions e) false) h.events
    ∙ any_answer (as_pass h.emissions) (is_pass_of p.first x p.src p.ts i) h.events

-- ---- events

fits_of : (es : List Emission) (issues : List Issue) (e : Event) → Fits es issues e → PassFits es e
fits_of es issues (event.Issue step number name parent) h = tt
fits_of es issues (event.Fetch step source owner epoch) h = tt
fits_of es issues (event.Send step emission segments) h = tt
fits_of es issues (event.Pass step a hop generation emission) h = h
fits_of es issues (event.Arrive step host src ts hops checked) h = tt
fits_of es issues (event.Reveal step holder) h = tt
fits_of es issues (event.Roll step a generation) h = tt

pub event_fits : (h : History) (n : ℕ) (r : Option (Bor Event)) (e : Bor Event) → IsLawful h → option_copied r ≡ slice_get h.events n → r ≡ Some e
    → PassFits h.emissions e.now
event_fits h n r e lawful at is =
    fits_of h.emissions (issues_in (take n h.events)) e.now (lawful.fit n e.now (sym at ∙ ap option_copied is))

pub event_here : (h : History) (n : ℕ) (r : Option (Bor Event)) (e : Bor Event) → option_copied r ≡ slice_get h.events n → r ≡ Some e
    → drop n h.events ≡ e.now ∷ drop (n + 1) h.events
event_here h n r e at is = drop_there h.events n e.now (sym at ∙ ap option_copied is)

-- what an emission that is there says
pub packet_is : (es : List Emission) (n : ℕ) (p : Contents) → Some p ≡ option_map said (emission_at es n) → p ≡ packet_at es n
unfolding packet_at
packet_is es n p e =
    elim (emission_at es n) as (λ o. Some p ≡ option_map said o → p ≡ parse (option_map_or (λ x. x.bytes) o [])) [
      | None ↦ λ s. absurd (cc)
      | Some x ↦ λ s. same_Some p (parse x.bytes) s
    ] e

-- ---- the first twin

twin_at_is : (t : Network) (p : Contents) (u : Uncovered) (es : List Emission) (e : Event)
    → twin_at t p u es e ≡ option_and_then (λ w. if is_twin_pass t p u w then Some (pass_name w) else None) (as_pass es e)
unfolding twin_at
twin_at_is t p u es e = refl

pub twins_are : (t : Network) (h : History) (p : Contents) (u : Uncovered) → find_map (twin_at t p u h.emissions) h.events ≡ twin_pass t (facts_of h) p u
unfolding twin_pass facts_of
twins_are t h p u = by h.events
  where
    step : (b : Bool) (w : Pass) (es : List Event) → find_map (twin_at t p u h.emissions) es ≡ option_map pass_name (find (is_twin_pass t p u) (filter_map (as_pass h.emissions) es))
        → option_or (if b then Some (pass_name w) else None) (find_map (twin_at t p u h.emissions) es)
        ≡ option_map pass_name (cond b (Some w) (find (is_twin_pass t p u) (filter_map (as_pass h.emissions) es)))
    step true w es rest = refl
    step false w es rest = rest

    here : (o : Option Pass) (es : List Event) → find_map (twin_at t p u h.emissions) es ≡ option_map pass_name (find (is_twin_pass t p u) (filter_map (as_pass h.emissions) es))
        → option_or (option_and_then (λ w. if is_twin_pass t p u w then Some (pass_name w) else None) o) (find_map (twin_at t p u h.emissions) es)
        ≡ option_map pass_name (find (is_twin_pass t p u) (cons_option o (filter_map (as_pass h.emissions) es)))
    here None es rest = rest
    here (Some w) es rest = step (is_twin_pass t p u w) w es rest

    by : (es : List Event) → find_map (twin_at t p u h.emissions) es ≡ option_map pass_name (find (is_twin_pass t p u) (filter_map (as_pass h.emissions) es))
    by [] = refl
    by (e ∷ es) = ap (λ (o : Option HopName). option_or o (find_map (twin_at t p u h.emissions) es)) (twin_at_is t p u h.emissions e) ∙ here (as_pass h.emissions e) es (by es)
