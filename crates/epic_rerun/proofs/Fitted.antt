-- The parts of a ledger fit their types.
use Rattle.std.proofs.Common.{◌≡◌, ℕ, suc, ◌-◌, ◌<◌, ◌≤◌, ◌^◌, List, [], ◌∷◌, length, get_or, slice_get, Option, None, Some, refl, sym, subst, ◌∙◌, ⊎_elim, arith}
use Rattle.std.specs.Prelude.{◌==◌, filter_map}
use Rattle.std.specs.List.{All, cons_option}
use Rattle.std.specs.Option.{option_map_or}
use Rattle.std.proofs.lemmas.Bool.{cases_Bool, cond-false, cond-true}
use Rattle.std.proofs.lemmas.List.Elements.{All-cons, All-head, All-nil, All-push, All-tail}
use Rattle.std.proofs.lemmas.Option.{get_or_from_slice_get, same_Some, slice_get-get_or, slice_get_within}
use Rattle.epic_num.specs.Chains.{Issue, issue_at}
use Rattle.epic_layout.specs.Contents.{HoldsBytes, IsBytes}
use Rattle.epic_layout.specs.Layout.{parse}
use Rattle.epic_layout.proofs.Limits.{HoldsBytes-parse}
use Rattle.epic_topo.specs.Network.{Network}
use Rattle.epic_ledger.specs.declared.event.Event.{Event}
use Rattle.epic_ledger.specs.declared.event.Event.TheVariants as event
use Rattle.epic_ledger.specs.Facts.{Pass, Reveal, Sent, as_issue, as_pass, as_reveal, as_send, facts_of, packet_at, pass_name, passes_in}
use Rattle.epic_ledger.specs.History.{Emission, History, emission_at}
use Rattle.epic_audit.proofs.Growth.{lawful_packets}
use Rattle.epic_model.specs.Sound.{IsSound}
use Rattle.epic_record.specs.declared.item.Item.{Item}
use Rattle.epic_record.specs.declared.item.Item.TheVariants as items
use Rattle.epic_reread.specs.Fitting.{HopFits, LedgerFits}
use Rattle.epic_reread.specs.LedgerFitting.{EventFits, ItemFits, PlaceFits}
use Rattle.epic_reread.proofs.PacketBytes.{hop_fits}
use Rattle.epic_rerun.proofs.Placing.{after_item, after_items}

-- an emission's place fits its types, and its bytes are bytes
abbrev pub EmissionFits : Emission → Type 0
EmissionFits e = PlaceFits e.place × IsBytes e.bytes

pub record Fitted (h : History) : Type 0 where
  pub events : All EventFits h.events
  pub emissions : All EmissionFits h.emissions

fitted_item : (h : History) (item : Item) → ItemFits item → Fitted h → Fitted (after_item h item)
unfolding ItemFits
fitted_item h (items.Event e) is f = record { events = All-push EventFits h.events e f.events is; emissions = f.emissions }
fitted_item h (items.Emission number due bytes) is f =
    record { events = f.events; emissions = All-push EmissionFits h.emissions (record { place = due; bytes = bytes }) f.emissions (is.1, is.2) }
fitted_item h (items.AcceptHop a generation hop bytes) is f = f
fitted_item h (items.AcceptDest host bytes) is f = f

pub fitted_after : (h : History) (told : List Item) → All ItemFits told → Fitted h → Fitted (after_items h told)
fitted_after h [] is f = f
fitted_after h (item ∷ more) is f =
    fitted_after (after_item h item) more (All-tail ItemFits item more is) (fitted_item h item (All-head ItemFits item more is) f)

-- ---- parts of lists

parts_all : {X Y : Type 0} (f : X → Option Y) (P : X → Type 0) (Q : Y → Type 0) → ((x : X) → P x → (y : Y) → f x ≡ Some y → Q y)
    → (xs : List X) → All P xs → All Q (filter_map f xs)
parts_all f P Q each [] h = All-nil Q
parts_all {X} {Y} f P Q each (x ∷ xs) h = by (parts_all f P Q each xs (All-tail P x xs h)) (f x) refl
  where
    by : All Q (filter_map f xs) → (o : Option Y) → f x ≡ o → All Q (cons_option o (filter_map f xs))
    by rest None e = rest
    by rest (Some y) e = All-cons Q y (filter_map f xs) (each x (All-head P x xs h) y e) rest

pub few_parts : {X Y : Type 0} (f : X → Option Y) (xs : List X) → length (filter_map f xs) ≤ length xs
few_parts f [] = omega arith
few_parts {X} {Y} f (x ∷ xs) = by (few_parts f xs) (f x)
  where
    by : length (filter_map f xs) ≤ length xs → (o : Option Y) → length (cons_option o (filter_map f xs)) ≤ suc (length xs)
    by rest None = omega (arith, rest)
    by rest (Some y) = omega (arith, rest)

pub emission_all : (P : Emission → Type 0) (es : List Emission) → All P es → (number : ℕ) (x : Emission) → emission_at es number ≡ Some x → P x
unfolding emission_at
emission_all P es all number x at =
    ⊎_elim
    (λ z. (let none = sym (cond-true (number == 0) None (slice_get es (number - 1)) z) ∙ at in absurd (cc)))
    (λ nz. (let there = sym (cond-false (number == 0) None (slice_get es (number - 1)) nz) ∙ at in
    subst P (get_or_from_slice_get es (number - 1) x x there) (all (number - 1) x (slice_get_within es (number - 1) x there))))
    (cases_Bool (number == 0))

pub issue_all : (P : Issue → Type 0) (is : List Issue) → All P is → (number : ℕ) (x : Issue) → issue_at is number ≡ Some x → P x
unfolding issue_at
issue_all P is all number x at =
    ⊎_elim
    (λ z. (let none = sym (cond-true (number == 0) None (slice_get is (number - 1)) z) ∙ at in absurd (cc)))
    (λ nz. (let there = sym (cond-false (number == 0) None (slice_get is (number - 1)) nz) ∙ at in
    subst P (get_or_from_slice_get is (number - 1) x x there) (all (number - 1) x (slice_get_within is (number - 1) x there))))
    (cases_Bool (number == 0))

holds_at : (es : List Emission) → All EmissionFits es → (number : ℕ) → HoldsBytes (packet_at es number)
unfolding packet_at
holds_at es all number = by (emission_at es number) refl
  where
    by : (o : Option Emission) → emission_at es number ≡ o → HoldsBytes (parse (option_map_or (λ e. e.bytes) o []))
    by None e = HoldsBytes-parse [] (All-nil (λ b. b < 256))
    by (Some x) e = HoldsBytes-parse x.bytes (emission_all EmissionFits es all number x e).1

-- ---- what a ledger says

issue_fits : (e : Event) → EventFits e → (i : Issue) → as_issue e ≡ Some i → HopFits i.name
unfolding EventFits as_issue
issue_fits (event.Issue step number name parent) fits i is = subst (λ (k : Issue). HopFits k.name) (same_Some _ i is) fits.2
issue_fits (event.Fetch step source owner epoch) fits i is = absurd (cc)
issue_fits (event.Send step emission segments) fits i is = absurd (cc)
issue_fits (event.Pass step a hop generation emission) fits i is = absurd (cc)
issue_fits (event.Arrive step host src ts hops checked) fits i is = absurd (cc)
issue_fits (event.Reveal step who) fits i is = absurd (cc)
issue_fits (event.Roll step a generation) fits i is = absurd (cc)

send_fits : (es : List Emission) (e : Event) → EventFits e → (s : Sent) → as_send es e ≡ Some s → s.emission < 2 ^ 32
unfolding EventFits as_send
send_fits es (event.Send step emission segments) fits s is = subst (λ (k : Sent). k.emission < 2 ^ 32) (same_Some _ s is) fits.1
send_fits es (event.Issue step number name parent) fits s is = absurd (cc)
send_fits es (event.Fetch step source owner epoch) fits s is = absurd (cc)
send_fits es (event.Pass step a hop generation emission) fits s is = absurd (cc)
send_fits es (event.Arrive step host src ts hops checked) fits s is = absurd (cc)
send_fits es (event.Reveal step who) fits s is = absurd (cc)
send_fits es (event.Roll step a generation) fits s is = absurd (cc)

reveal_fits : (e : Event) → EventFits e → (r : Reveal) → as_reveal e ≡ Some r → r.step < 2 ^ 32
unfolding EventFits as_reveal
reveal_fits (event.Reveal step who) fits r is = subst (λ (k : Reveal). k.step < 2 ^ 32) (same_Some _ r is) fits.0
reveal_fits (event.Issue step number name parent) fits r is = absurd (cc)
reveal_fits (event.Fetch step source owner epoch) fits r is = absurd (cc)
reveal_fits (event.Send step emission segments) fits r is = absurd (cc)
reveal_fits (event.Pass step a hop generation emission) fits r is = absurd (cc)
reveal_fits (event.Arrive step host src ts hops checked) fits r is = absurd (cc)
reveal_fits (event.Roll step a generation) fits r is = absurd (cc)

abbrev PassFits : Pass → Type 0
PassFits w = (w.generation < 2 ^ 32) × HoldsBytes w.packet

pass_fits : (es : List Emission) → All EmissionFits es → (e : Event) → EventFits e → (w : Pass) → as_pass es e ≡ Some w → PassFits w
unfolding EventFits as_pass
pass_fits es all (event.Pass step a hop generation emission) fits w is = subst PassFits (same_Some _ w is) (fits.2, holds_at es all emission)
pass_fits es all (event.Issue step number name parent) fits w is = absurd (cc)
pass_fits es all (event.Fetch step source owner epoch) fits w is = absurd (cc)
pass_fits es all (event.Send step emission segments) fits w is = absurd (cc)
pass_fits es all (event.Arrive step host src ts hops checked) fits w is = absurd (cc)
pass_fits es all (event.Reveal step who) fits w is = absurd (cc)
pass_fits es all (event.Roll step a generation) fits w is = absurd (cc)

module _ (t : Network) (h : History) (step : ℕ) (sound : IsSound t h step) (fitted : Fitted h) where
  pub issues_fit : All (λ i. HopFits i.name) (filter_map as_issue h.events)
  issues_fit = parts_all as_issue EventFits (λ i. HopFits i.name) issue_fits h.events fitted.events

  passes_fit : All (λ w. HopFits (pass_name w)) (passes_in h)
  unfolding pass_name facts_of
  passes_fit k d below =
      let w = get_or (passes_in h) k d in
      let there = slice_get-get_or (passes_in h) k d below in
      let own = parts_all (as_pass h.emissions) EventFits PassFits (pass_fits h.emissions fitted.emissions) h.events fitted.events k d below in
      let fits = hop_fits w.packet w.hop ((lawful_packets h sound.lawful).passed k w there) own.1 (sound.kept.passes k w there).within in
      record { generation = own.0; body = fits.0; link = fits.1 }

  pub ledger_fits : length h.events < 2 ^ 32 → LedgerFits (facts_of h)
  unfolding facts_of
  ledger_fits few = record {
    few_issues = omega (arith, few, few_parts as_issue h.events);
    issues = issues_fit;
    sends = parts_all (as_send h.emissions) EventFits (λ s. s.emission < 2 ^ 32) (send_fits h.emissions) h.events fitted.events;
    passes = passes_fit;
    reveals = parts_all as_reveal EventFits (λ r. r.step < 2 ^ 32) reveal_fits h.events fitted.events;
  }
