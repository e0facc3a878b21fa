-- What one event or one emission more tells.
use Rattle.std.proofs.Common.{◌≡◌, ℕ, ◌+◌, ◌<◌, ◌≤◌, inl, inr, true, false, cond, List, [], ◌∷◌, ◌++◌, length, drop, map, replicate, Some, refl, sym, ap, subst, ◌∙◌, append-nil, arith}
use Rattle.std.specs.Prelude.{◌==◌, ◌&&◌, nat_le, option_map}
use Rattle.std.specs.Option.{option_map_or}
use Rattle.std.proofs.lemmas.Bool.{and_from, cond-false, cond-true, cond_both, eq-eqb, ne_eqb}
use Rattle.std.proofs.lemmas.Bool.Decides.{nat_tests}
use Rattle.std.proofs.lemmas.List.Elements.{All-cons, All-nil}
use Rattle.std.proofs.lemmas.List.Sums.{sum_by-cons}
use Rattle.epic_num.specs.declared.hop.HopName.{HopName}
use Rattle.epic_num.specs.declared.name.AsId.{AsId}
use Rattle.epic_num.specs.declared.passed.Place.{Place}
use Rattle.epic_num.specs.Chains.{Issue, issue_at, name_of}
use Rattle.epic_num.proofs.ChainLaws.{issue_at-append, issue_at-next}
use Rattle.epic_layout.specs.Contents.{IsBytes}
use Rattle.epic_topo.specs.Lawful.{IsTopology}
use Rattle.epic_topo.specs.Network.{Network, has}
use Rattle.epic_fields.specs.Issues.{IsChild, IsKept, IsRoot, IssuesKept}
use Rattle.epic_fields.specs.Tags.{link}
use Rattle.epic_ledger.specs.declared.event.Event.{Event}
use Rattle.epic_ledger.specs.declared.event.Event.TheVariants as event
use Rattle.epic_ledger.specs.Facts.{as_issue, issues_in}
use Rattle.epic_ledger.specs.History.{Emission, History}
use Rattle.epic_ledger.specs.OneMore.{with_emission, with_event}
use Rattle.epic_model.specs.Passing.{is_roll, rolls}
use Rattle.epic_record.specs.declared.item.Item.{Item}
use Rattle.epic_record.specs.declared.item.Item.TheVariants as items
use Rattle.epic_record.specs.LedgerFile.{goes_on, is_event_placed, is_placed}
use Rattle.epic_record.specs.Passing.{emitted_from, new_items}
use Rattle.epic_reread.specs.Fitting.{HopFits}
use Rattle.epic_reread.specs.LedgerFitting.{EventFits, ItemFits}
use Rattle.epic_reread.proofs.PacketBytes.{is_bytes}
use Rattle.epic_reread.proofs.TagsAreBytes.{link_is, zeros}
use Rattle.epic_rerun.proofs.Placing.{Told, one_more, told_both, told_none}

-- ---- what is new

behind : {A : Type 0} (xs es : List A) → drop (length xs) (xs ++ es) ≡ es
behind [] es = refl
behind (x ∷ xs) es = behind xs es

pub new_some : (h g : History) (es : List Emission) (vs : List Event) → g.emissions ≡ h.emissions ++ es → g.events ≡ h.events ++ vs
    → new_items h g ≡ emitted_from (length h.emissions + 1) es ++ map (λ e. items.Event e) vs
unfolding new_items
new_some h g es vs emissions events =
    let some = ap (drop (length h.emissions)) emissions ∙ behind h.emissions es in
    let more = ap (drop (length h.events)) events ∙ behind h.events vs in
    λ i. emitted_from (length h.emissions + 1) (some i) ++ map (λ e. items.Event e) (more i)

pub new_none : (h : History) → new_items h h ≡ []
new_none h = new_some h h [] [] (sym (append-nil h.emissions)) (sym (append-nil h.events))

-- ---- one thing

-- the second tells no acceptance
pub told_then : (t : Network) (h g k : History) (xs ys : List Item) (vs : _) → Told t h xs vs g → Told t g ys [] k → Told t h (xs ++ ys) vs k
told_then t h g k xs ys vs a b = subst (λ us. Told t h (xs ++ ys) us k) (append-nil vs) (told_both t h g k xs ys vs [] a b)

pub told_event : (t : Network) (h : History) (e : Event) → EventFits e → is_event_placed t h e ≡ true → Told t h (items.Event e ∷ []) [] (with_event h e)
unfolding ItemFits
told_event t h e fits placed = record {
  placed = (placed, tt);
  fits = All-cons ItemFits (items.Event e) [] fits (All-nil ItemFits);
  given = tt;
  ends = refl;
}

pub told_emission : (t : Network) (h : History) (number : ℕ) (due : Place) (bytes : List ℕ) → ItemFits (items.Emission number due bytes)
    → is_placed t h (items.Emission number due bytes) ≡ true
    → Told t h (items.Emission number due bytes ∷ []) [] (with_emission h (record { place = due; bytes = bytes }))
told_emission t h number due bytes fits placed = record {
  placed = (placed, tt);
  fits = All-cons ItemFits (items.Emission number due bytes) [] fits (All-nil ItemFits);
  given = tt;
  ends = refl;
}

-- ---- what a step tells that has no passages

pub nothing_told : (t : Network) (h : History) → Told t h (new_items h h) [] h
nothing_told t h = subst (λ told. Told t h told [] h) (sym (new_none h)) (told_none t h)

pub event_told : (t : Network) (h : History) (e : Event) → EventFits e → is_event_placed t h e ≡ true
    → Told t h (new_items h (with_event h e)) [] (with_event h e)
event_told t h e fits placed =
    subst (λ told. Told t h told [] (with_event h e)) (sym (new_some h (with_event h e) [] (e ∷ []) (sym (append-nil h.emissions)) refl))
    (told_event t h e fits placed)

-- ---- generations

pub rolls_few : (events : List Event) (a : AsId) → rolls events a ≤ length events
rolls_few [] a = omega arith
rolls_few (e ∷ events) a =
    let rest = rolls_few events a in
    let here : cond (is_roll a e) 1 0 ≤ 1 = cond_both (is_roll a e) 1 0 (λ n. n ≤ 1) (λ _. omega arith) (λ _. omega arith) in
    omega (arith, rest, here, sum_by-cons (λ x. cond (is_roll a x) 1 0) e events)

-- ---- issues

module _ (t : Network) (h : History) (step : ℕ) (x : HopName) (parent : ℕ) where
  number : ℕ
  number = length (issues_in h.events) + 1

  issue : Issue
  issue = record { name = x; parent = parent }

  abbrev pub issue_event : Event
  issue_event = event.Issue step (length (issues_in h.events) + 1) x parent

  issues_are : issues_in (h.events ++ issue_event ∷ []) ≡ issues_in h.events ++ issue ∷ []
  unfolding as_issue issue
  issues_are = one_more as_issue h.events (event.Issue step (length (issues_in h.events) + 1) x parent) issue refl

  -- the issue goes on from an earlier one, or begins a chain
  on_root : IsRoot issue → goes_on (issues_in h.events) x parent ≡ true
  unfolding issue
  on_root root =
      cond-true (parent == 0) (x.body.pos == 1) (option_map_or (λ before. x.body.pos == before.body.pos + 1) (name_of (issues_in h.events) parent) false)
      (eq-eqb parent 0 root.no_parent)
      ∙ eq-eqb x.body.pos 1 root.position

  before_is : (k : IsChild t (issues_in (h.events ++ issue_event ∷ [])) number issue) → issue_at (issues_in h.events) parent ≡ Some k.parent
  unfolding issue number
  before_is k =
      let issues = issues_in h.events in
      let early = k.earlier in
      sym (issue_at-append issues (issue ∷ []) parent (omega (arith, early)))
      ∙ (ap (λ is. issue_at is parent) (sym issues_are) ∙ k.is_parent)

  on_child : IsChild t (issues_in (h.events ++ issue_event ∷ [])) number issue → goes_on (issues_in h.events) x parent ≡ true
  unfolding issue name_of
  on_child k =
      let rest = option_map_or (λ (before : HopName). x.body.pos == before.body.pos + 1) (name_of (issues_in h.events) parent) false in
      cond-false (parent == 0) (x.body.pos == 1) rest (ne_eqb parent 0 k.some_parent)
      ∙ (ap (λ o. option_map_or (λ (before : HopName). x.body.pos == before.body.pos + 1) (option_map (λ (i : Issue). i.name) o) false) (before_is k)
      ∙ eq-eqb x.body.pos (k.parent.name.body.pos + 1) k.position)

  module _ (kept : IssuesKept t (issues_in (h.events ++ issue_event ∷ []))) (few : x.body.pos ≤ 16) where
    here : IsKept t (issues_in (h.events ++ issue_event ∷ [])) number issue
    unfolding number
    here = kept (length (issues_in h.events) + 1) issue (ap (λ is. issue_at is (length (issues_in h.events) + 1)) issues_are ∙ issue_at-next (issues_in h.events) issue)

    pub issue_placed : is_event_placed t h issue_event ≡ true
    unfolding is_event_placed issue
    issue_placed =
        let next = length (issues_in h.events) + 1 == length (issues_in h.events) + 1 in
        let low : nat_le x.body.pos 16 ≡ true = grind (arith, nat_tests) in
        let goes : goes_on (issues_in h.events) x parent ≡ true = elim here.placed [
          | inl root ↦ on_root root
          | inr child ↦ on_child child
        ] in
        and_from (next && has t x.asn && nat_le x.body.pos 16) (goes_on (issues_in h.events) x parent)
        (and_from (next && has t x.asn) (nat_le x.body.pos 16)
        (and_from next (has t x.asn) (eq-eqb (length (issues_in h.events) + 1) (length (issues_in h.events) + 1) refl) here.known) low)
        goes

    -- its link tag is bytes, where those of the issues before it are
    pub link_bytes : IsTopology t → ((n : ℕ) (i : Issue) → issue_at (issues_in h.events) n ≡ Some i → HopFits i.name) → IsBytes x.body.link
    unfolding issue
    link_bytes topology before = elim here.placed [
      | inl root ↦ subst IsBytes (sym root.no_link) (is_bytes (replicate 8 0) (zeros 8))
      | inr child ↦
          (let fits = before parent child.parent (before_is child) in
          subst IsBytes (sym child.linked) (is_bytes (link t child.parent.name) (link_is t child.parent.name topology fits.body fits.link)))
    ]

    -- it goes on from an earlier issue, or from none
    pub parent_early : parent < length (issues_in h.events) + 1
    unfolding issue number
    parent_early = elim here.placed [
      | inl root ↦ (let none = root.no_parent in omega (arith, none))
      | inr child ↦ child.earlier
    ]
