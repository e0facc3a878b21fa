-- What the place of a line says of the ledger with it.
use Rattle.std.proofs.Common.{◌≡◌, inl, inr, ℕ, zero, suc, ◌+◌, ◌-◌, ◌<◌, ◌≤◌, add-one, Bool, true, false, List, [], ◌∷◌, ◌++◌, length, refl, sym, ap, subst, ◌∙◌, arith, length-append, append-nil}
use Rattle.std.specs.Prelude.{◌==◌, nat_lt, Option, Some, None, option_map, slice_get, slice_index_or, IsSome, IsTrue, filter_map, if◌then◌else◌}
use Rattle.std.specs.List.{All, cons_option}
use Rattle.std.specs.Option.{option_map_or}
use Rattle.std.proofs.lemmas.Bool.{and_parts, cases_order}
use Rattle.std.proofs.lemmas.Bool.Decides.{nat_tests}
use Rattle.std.proofs.lemmas.List.Elements.{All-append, All-cons, All-head, All-nil, All-tail, filter_map-append}
use Rattle.std.proofs.lemmas.Option.{none-some, same_Some}
use Rattle.epic_num.specs.declared.hop.HopName.{HopName}
use Rattle.epic_num.specs.Chains.{Issue, chain, issue_at, last_names, name_of}
use Rattle.epic_num.proofs.ChainLaws.{chain-append, issue_at-append, issue_at-next, issue_at-past, last_names-append}
use Rattle.epic_layout.specs.declared.head.SegmentHead.{SegmentHead}
use Rattle.epic_layout.specs.Contents.{hop_count}
use Rattle.epic_layout.specs.Route.{no_segment}
use Rattle.epic_topo.specs.Network.{Network, has}
use Rattle.epic_ledger.specs.declared.event.Event.{Event}
use Rattle.epic_ledger.specs.declared.event.Event.TheVariants as event
use Rattle.epic_ledger.specs.Facts.{Pass, as_issue, as_pass, facts_of, issues_in, packet_at}
use Rattle.epic_ledger.specs.History.{Emission, History, emission_at}
use Rattle.epic_ledger.specs.Lawful.{Fits}
use Rattle.epic_ledger.specs.OneMore.{with_event}
use Rattle.epic_ledger.proofs.Growing.{emission_at-suc}
use Rattle.epic_index.specs.Twins.{HasKnownAs}
use Rattle.epic_record.specs.declared.item.Item.{Item}
use Rattle.epic_record.specs.declared.item.Item.TheVariants as items
use Rattle.epic_record.specs.LedgerFile.{are_lasts, goes_on, is_event_placed, is_newest, is_placed}
use Rattle.epic_judge.specs.Known.{AreKnown}
use Rattle.epic_judge.specs.Sound.{AreChained, IsEventKnown, IsSound, history_more}

-- ---- ASes of the network

issued_known : (t : Network) (es : List Event) → All (IsEventKnown t) es → All (λ i. IsTrue (has t i.name.asn)) (issues_in es)
unfolding as_issue
issued_known t [] h = All-nil (λ (i : Issue). IsTrue (has t i.name.asn))
issued_known t (e ∷ es) h = by e (All-head (IsEventKnown t) e es h) (issued_known t es (All-tail (IsEventKnown t) e es h))
  where
    by : (d : Event) → IsEventKnown t d → All (λ i. IsTrue (has t i.name.asn)) (issues_in es) → All (λ i. IsTrue (has t i.name.asn)) (issues_in (d ∷ es))
    by (event.Issue step number x parent) k rest = All-cons (λ (i : Issue). IsTrue (has t i.name.asn)) (record { name = x; parent = parent }) (issues_in es) k rest
    by (event.Fetch step source owner epoch) k rest = rest
    by (event.Send step emission segments) k rest = rest
    by (event.Pass step a hop generation emission) k rest = rest
    by (event.Arrive step host src ts hops checked) k rest = rest
    by (event.Reveal step who) k rest = rest
    by (event.Roll step a generation) k rest = rest

passed_known : (t : Network) (emissions : List Emission) (es : List Event) → All (IsEventKnown t) es → All (λ w. IsTrue (has t w.asn)) (filter_map (as_pass emissions) es)
unfolding as_pass
passed_known t emissions [] h = All-nil (λ (w : Pass). IsTrue (has t w.asn))
passed_known t emissions (e ∷ es) h = by e (All-head (IsEventKnown t) e es h) (passed_known t emissions es (All-tail (IsEventKnown t) e es h))
  where
    by : (d : Event) → IsEventKnown t d → All (λ w. IsTrue (has t w.asn)) (filter_map (as_pass emissions) es) → All (λ w. IsTrue (has t w.asn)) (filter_map (as_pass emissions) (d ∷ es))
    by (event.Pass step a hop generation emission) k rest =
        All-cons (λ (w : Pass). IsTrue (has t w.asn))
        (record { asn = a; generation = generation; hop = hop; emission = emission; packet = packet_at emissions emission })
        (filter_map (as_pass emissions) es) k rest
    by (event.Issue step number x parent) k rest = rest
    by (event.Fetch step source owner epoch) k rest = rest
    by (event.Send step emission segments) k rest = rest
    by (event.Arrive step host src ts hops checked) k rest = rest
    by (event.Reveal step who) k rest = rest
    by (event.Roll step a generation) k rest = rest

pub sound_known : (t : Network) (h : History) → IsSound t h → AreKnown t (facts_of h)
unfolding facts_of
sound_known t h s = record { issued = issued_known t h.events s.known; passed = passed_known t h.emissions h.events s.known }

-- ---- chains

-- what an issue goes on from has a chain that is one hop shorter
record Continues (issues : List Issue) (x : HopName) (parent : ℕ) : Type 0 where
  before : ℕ
  position : x.body.pos ≡ suc before
  there : parent ≤ length issues
  long : length (last_names issues before parent) ≡ before

equal : (m n : ℕ) → (m == n) ≡ true → m ≡ n
equal m n h = grind (arith, nat_tests)

-- an issue that is there has a number
numbered : (issues : List Issue) (n : ℕ) (i : Issue) → issue_at issues n ≡ Some i → n ≤ length issues
numbered issues n i at =
    elim (cases_order n (length issues)) [
      | inl same ↦ omega (arith, same)
      | inr order ↦ elim order [ inl lt ↦ omega (arith, lt) | inr gt ↦ absurd (none-some i (sym (issue_at-past issues n gt) ∙ at)) ]
    ]

begins : (issues : List Issue) (x : HopName) (parent : ℕ) → x.body.pos ≡ 1 → parent ≡ 0 → Continues issues x parent
unfolding last_names
begins issues x parent first none = record { before = 0; position = first; there = omega (arith, none); long = refl }

continues : (issues : List Issue) (x : HopName) (parent : ℕ) (i : Issue) → AreChained issues → issue_at issues parent ≡ Some i → x.body.pos ≡ i.name.body.pos + 1
    → Continues issues x parent
unfolding chain
continues issues x parent i c at next = record {
  before = i.name.body.pos;
  position = omega (arith, next);
  there = numbered issues parent i at;
  long = sym (ap (λ o. length (option_map_or (λ (k : Issue). last_names issues k.name.body.pos parent) o [])) at) ∙ c.long parent i at;
}

continued : (issues : List Issue) (x : HopName) (parent : ℕ) → AreChained issues → goes_on issues x parent ≡ true → Continues issues x parent
unfolding name_of
continued issues x parent c h = by (parent == 0) refl h
  where
    at : (o : Option Issue) → issue_at issues parent ≡ o → option_map_or (λ before. x.body.pos == before.body.pos + 1) (option_map (λ i. i.name) o) false ≡ true → Continues issues x parent
    at None there k = absurd (cc)
    at (Some i) there k = continues issues x parent i c there (equal x.body.pos (i.name.body.pos + 1) k)

    by : (b : Bool) → (parent == 0) ≡ b → (if b then x.body.pos == 1 else option_map_or (λ before. x.body.pos == before.body.pos + 1) (option_map (λ i. i.name) (issue_at issues parent)) false) ≡ true → Continues issues x parent
    by true is k = begins issues x parent (equal x.body.pos 1 k) (equal parent 0 is)
    by false is k = at (issue_at issues parent) refl k

-- every parent is among the issues, as epic_num says it
parents : (issues : List Issue) → AreChained issues → (n : ℕ) (i : Issue) → issue_at issues n ≡ Some i → i.parent ≤ length issues
parents issues c n i at = c.there n i at

more_long : (issues : List Issue) (i : Issue) → length (issues ++ i ∷ []) ≡ length issues + 1
more_long issues i = length-append issues (i ∷ [])

-- one hop more than the chain before
one_hop : (issues : List Issue) (before n : ℕ) (i : Issue) → issue_at issues n ≡ Some i → length (last_names issues (suc before) n) ≡ length (last_names issues before i.parent) + 1
unfolding last_names
one_hop issues before n i at =
    ap (λ o. length (option_map_or (λ (k : Issue). last_names issues before k.parent ++ k.name ∷ []) o [])) at
    ∙ length-append (last_names issues before i.parent) (i.name ∷ [])

chain_at : (issues : List Issue) (n : ℕ) (i : Issue) → issue_at issues n ≡ Some i → chain issues n ≡ last_names issues i.name.body.pos n
unfolding chain
chain_at issues n i at = ap (λ o. option_map_or (λ (k : Issue). last_names issues k.name.body.pos n) o []) at

new_long : (issues : List Issue) (x : HopName) (parent : ℕ) → AreChained issues → Continues issues x parent
    → (i : Issue) → i ≡ record { name = x; parent = parent } → length (chain (issues ++ i ∷ []) (length issues + 1)) ≡ i.name.body.pos
new_long issues x parent c on i is =
    let all = issues ++ i ∷ [] in
    let n = length issues + 1 in
    let at : issue_at all n ≡ Some i = issue_at-next issues i in
    let pos : i.name.body.pos ≡ suc on.before = ap (λ (k : Issue). k.name.body.pos) is ∙ on.position in
    let from : i.parent ≡ parent = ap (λ (k : Issue). k.parent) is in
    let under : length (last_names all on.before i.parent) ≡ on.before =
    ap (λ k. length (last_names all on.before k)) from
    ∙ (ap length (last_names-append issues (i ∷ []) (parents issues c) on.before parent on.there) ∙ on.long) in
    ap length (chain_at all n i at)
    ∙ (ap (λ k. length (last_names all k n)) pos
    ∙ (one_hop all on.before n i at
    ∙ (ap (λ k. k + 1) under ∙ (add-one' on.before ∙ sym pos))))
  where
    add-one' : (k : ℕ) → k + 1 ≡ suc k
    add-one' k = omega arith

-- with one issue more
chained_more : (issues : List Issue) (x : HopName) (parent : ℕ) → AreChained issues → Continues issues x parent → AreChained (issues ++ record { name = x; parent = parent } ∷ [])
chained_more issues x parent c on = record {
  there = λ n j at. by n j at (λ (k : Issue). k.parent ≤ length all) (λ old. omega (arith, c.there n j old, more_long issues i)) (λ is last. subst (λ (k : Issue). k.parent ≤ length all) is (omega (arith, on.there, more_long issues i)));
  long = λ n j at.
      by n j at (λ (k : Issue). length (chain all n) ≡ k.name.body.pos)
      (λ old. ap length (chain-append issues (i ∷ []) (parents issues c) n (numbered issues n j old)) ∙ c.long n j old)
      (λ is last. subst (λ (k : Issue). length (chain all n) ≡ k.name.body.pos) is (ap (λ k. length (chain all k)) last ∙ new_long issues x parent c on i refl));
}
  where
    i : Issue
    i = record { name = x; parent = parent }

    all : List Issue
    all = issues ++ i ∷ []

    -- an issue of these is old, or the new one
    by : (n : ℕ) (j : Issue) → issue_at all n ≡ Some j → (P : Issue → Type 0) → (issue_at issues n ≡ Some j → P j) → (i ≡ j → n ≡ length issues + 1 → P j) → P j
    by n j at P old last =
        elim (cases_order n (length issues + 1)) [
          | inl same ↦ last (same_Some i j (sym (issue_at-next issues i) ∙ (ap (issue_at all) (sym same) ∙ at))) same
          | inr order ↦
              elim order [
                | inl lt ↦ old (sym (issue_at-append issues (i ∷ []) n (omega (arith, lt))) ∙ at)
                | inr gt ↦ absurd (none-some j (sym (issue_at-past all n (omega (arith, gt, more_long issues i))) ∙ at))
              ]
        ]

-- ---- the ledger with one line more

issues_same : (events : List Event) (e : Event) → as_issue e ≡ None → issues_in (events ++ e ∷ []) ≡ issues_in events
issues_same events e none =
    filter_map-append as_issue events (e ∷ [])
    ∙ (ap (λ o. issues_in events ++ cons_option o []) none ∙ append-nil (issues_in events))

with_known : (t : Network) (h : History) (e : Event) → IsSound t h → IsEventKnown t e → All (IsEventKnown t) (h.events ++ e ∷ [])
with_known t h e s k = All-append (IsEventKnown t) h.events (e ∷ []) s.known (All-cons (IsEventKnown t) e [] k (All-nil (IsEventKnown t)))

other : (t : Network) (h : History) (e : Event) → IsSound t h → IsEventKnown t e → as_issue e ≡ None → IsSound t (with_event h e)
other t h e s k none = record { known = with_known t h e s k; chained = subst AreChained (sym (issues_same h.events e none)) s.chained }

event_sound : (t : Network) (h : History) (e : Event) → IsSound t h → is_event_placed t h e ≡ true → IsSound t (with_event h e)
unfolding is_event_placed as_issue
event_sound t h (event.Issue step number x parent) s p =
    let on = and_parts _ _ p in
    let k = and_parts _ _ (and_parts _ _ on.0).0 in
    record {
      known = with_known t h (event.Issue step number x parent) s k.1;
      chained =
          subst AreChained (sym (filter_map-append as_issue h.events (event.Issue step number x parent ∷ [])))
          (chained_more (issues_in h.events) x parent s.chained (continued (issues_in h.events) x parent s.chained on.1));
    }
event_sound t h (event.Fetch step source owner epoch) s p = other t h (event.Fetch step source owner epoch) s tt refl
event_sound t h (event.Send step emission segments) s p = other t h (event.Send step emission segments) s tt refl
event_sound t h (event.Pass step a hop generation emission) s p =
    other t h (event.Pass step a hop generation emission) s (and_parts _ _ (and_parts _ _ p).0).0 refl
event_sound t h (event.Arrive step host src ts hops checked) s p = other t h (event.Arrive step host src ts hops checked) s tt refl
event_sound t h (event.Reveal step who) s p = other t h (event.Reveal step who) s tt refl
event_sound t h (event.Roll step a generation) s p = other t h (event.Roll step a generation) s tt refl

pub sound_more : (t : Network) (h : History) (item : Item) → IsSound t h → is_placed t h item ≡ true → IsSound t (history_more h item)
sound_more t h (items.Event e) s p = event_sound t h e s p
sound_more t h (items.Emission number due bytes) s p = record { known = s.known; chained = s.chained }
sound_more t h (items.AcceptHop a generation hop bytes) s p = s
sound_more t h (items.AcceptDest host bytes) s p = s

pub sound_none : (t : Network) (h : History) → h.events ≡ [] → IsSound t h
unfolding issue_at
sound_none t h is = record {
  known = subst (λ es. All (IsEventKnown t) es) (sym is) (All-nil (IsEventKnown t));
  chained =
      subst (λ es. AreChained (issues_in es)) (sym is)
      (record { there = λ n i at. absurd (none-some i (sym (issue_at-past [] n (past n i at)) ∙ at)); long = λ n i at. absurd (none-some i (sym (issue_at-past [] n (past n i at)) ∙ at)) });
}
  where
    past : (n : ℕ) (i : Issue) → issue_at [] n ≡ Some i → 0 < n
    past zero i at = absurd (cc)
    past (suc n) i at = omega arith

-- ---- an event that fits

issue_there : (issues : List Issue) (number count : ℕ) → option_map_or (λ x. x.body.pos == count) (name_of issues number) false ≡ true
    → (i : Issue) × (issue_at issues number ≡ Some i) × (i.name.body.pos ≡ count)
unfolding name_of
issue_there issues number count h = by (issue_at issues number) refl h
  where
    by : (o : Option Issue) → issue_at issues number ≡ o → option_map_or (λ x. x.body.pos == count) (option_map (λ i. i.name) o) false ≡ true
        → (i : Issue) × (issue_at issues number ≡ Some i) × (i.name.body.pos ≡ count)
    by None at k = absurd (cc)
    by (Some i) at k = (i, at, equal i.name.body.pos count k)

-- the issues are the last ones of the segments
record AreLast (issues : List Issue) (numbers : List ℕ) (heads : List SegmentHead) : Type 0 where
  count : length numbers ≡ length heads
  issued : (i : ℕ) → i < length numbers → IsSome (issue_at issues (slice_index_or numbers i 0))
  chains : (i : ℕ) → i < length numbers → length (chain issues (slice_index_or numbers i 0)) ≡ (slice_index_or heads i no_segment).count

are_last : (issues : List Issue) (numbers : List ℕ) (heads : List SegmentHead) → AreChained issues → are_lasts issues numbers heads ≡ true → AreLast issues numbers heads
are_last issues [] [] c h = record { count = refl; issued = λ i in'. absurd (omega (arith, in')); chains = λ i in'. absurd (omega (arith, in')) }
are_last issues [] (head ∷ heads) c h = absurd (cc)
are_last issues (number ∷ more) [] c h = absurd (cc)
are_last issues (number ∷ more) (head ∷ heads) c h =
    let both = and_parts _ _ h in
    by (issue_there issues number head.count both.0) (are_last issues more heads c both.1)
  where
    by : (i : Issue) × (issue_at issues number ≡ Some i) × (i.name.body.pos ≡ head.count) → AreLast issues more heads → AreLast issues (number ∷ more) (head ∷ heads)
    by one rest = record { count = ap suc rest.count; issued = issued'; chains = chains' }
      where
        issued' : (i : ℕ) → i < suc (length more) → IsSome (issue_at issues (slice_index_or (number ∷ more) i 0))
        issued' zero in' = subst (λ (o : Option Issue). IsSome o) (sym one.1) refl
        issued' (suc i) in' = rest.issued i (omega (arith, in'))

        chains' : (i : ℕ) → i < suc (length more) → length (chain issues (slice_index_or (number ∷ more) i 0)) ≡ (slice_index_or (head ∷ heads) i no_segment).count
        chains' zero in' = c.long number one.0 one.1 ∙ one.2
        chains' (suc i) in' = rest.chains i (omega (arith, in'))

some_at : {A : Type 0} (xs : List A) (n : ℕ) → n < length xs → IsSome (slice_get xs n)
some_at [] n h = absurd (omega arith)
some_at (x ∷ xs) zero h = refl
some_at (x ∷ xs) (suc n) h = some_at xs n (omega arith)

-- the newest emission is there
newest_there : (emissions : List Emission) (number : ℕ) → is_newest emissions number ≡ true → IsSome (emission_at emissions number)
newest_there emissions zero h = absurd (cc)
newest_there emissions (suc n) h =
    subst (λ (o : Option Emission). IsSome o) (sym (emission_at-suc emissions n))
    (some_at emissions n (omega (arith, equal (suc n) (length emissions) (and_parts _ _ h).1)))

below : (m n : ℕ) → nat_lt m n ≡ true → m < n
below m n h = grind (arith, nat_tests)

pub event_fits : (t : Network) (h : History) (e : Event) → IsSound t h → is_event_placed t h e ≡ true → Fits h.emissions (issues_in h.events) e
unfolding is_event_placed
event_fits t h (event.Issue step number x parent) s p =
    let on = and_parts _ _ p in
    let next = equal number (length (issues_in h.events) + 1) (and_parts _ _ (and_parts _ _ on.0).0).0 in
    record { next = next; earlier = omega (arith, next, (continued (issues_in h.events) x parent s.chained on.1).there) }
event_fits t h (event.Fetch step source owner epoch) s p = tt
event_fits t h (event.Send step emission segments) s p =
    let both = and_parts _ _ p in
    let last = are_last (issues_in h.events) segments.items (packet_at h.emissions emission).route.segments s.chained both.1 in
    record { there = newest_there h.emissions emission both.0; count = last.count; issued = last.issued; chains = last.chains }
event_fits t h (event.Pass step a hop generation emission) s p =
    let both = and_parts _ _ p in
    record {
      there = newest_there h.emissions emission (and_parts _ _ both.0).1;
      within = below hop (hop_count (packet_at h.emissions emission)) both.1;
    }
event_fits t h (event.Arrive step host src ts hops checked) s p = tt
event_fits t h (event.Reveal step who) s p = tt
event_fits t h (event.Roll step a generation) s p = tt

pub known_as : (t : Network) (h : History) (e : Event) → is_event_placed t h e ≡ true → HasKnownAs t e
unfolding is_event_placed
known_as t h (event.Issue step number x parent) p = (and_parts _ _ (and_parts _ _ (and_parts _ _ p).0).0).1
known_as t h (event.Fetch step source owner epoch) p = tt
known_as t h (event.Send step emission segments) p = tt
known_as t h (event.Pass step a hop generation emission) p = (and_parts _ _ (and_parts _ _ p).0).0
known_as t h (event.Arrive step host src ts hops checked) p = tt
known_as t h (event.Reveal step who) p = tt
known_as t h (event.Roll step a generation) p = tt
