-- What is known of the lines of a ledger file says where a line may stand.
use Rattle.std.proofs.Common.{◌≡◌, ℕ, ◌+◌, ◌-◌, ◌<◌, zero, suc, cond, true, false, List, [], ◌∷◌, ◌++◌, map, length, refl, ap, sym, ◌∙◌, subst, arith, length-append, append-nil}
use Rattle.std.specs.Prelude.{◌==◌, ◌&&◌, nat_lt, Bool, filter_map, slice_get, Option, Some, None, option_map}
use Rattle.std.specs.List.{cons_option}
use Rattle.std.specs.Option.{option_map_or}
use Rattle.std.proofs.lemmas.Bool.Decides.{nat_tests}
use Rattle.std.proofs.lemmas.List.{length-map}
use Rattle.std.proofs.lemmas.List.Elements.{filter_map-append}
use Rattle.std.proofs.lemmas.Option.{slice_get-map}
use Rattle.std.proofs.Math.Dec.{eqb-suc-zero}
use Rattle.epic_num.specs.declared.hop.HopName.{HopName}
use Rattle.epic_num.specs.Chains.{Issue, issue_at, name_of}
use Rattle.epic_num.specs.declared.passed.Place.{Place}
use Rattle.epic_layout.specs.declared.head.SegmentHead.{SegmentHead}
use Rattle.epic_topo.specs.Network.{Network, has}
use Rattle.epic_layout.specs.Contents.{hop_count}
use Rattle.epic_layout.specs.Layout.{parse}
use Rattle.epic_ledger.proofs.Growing.{emission_at-suc}
use Rattle.epic_ledger.specs.declared.event.Event.{Event}
use Rattle.epic_ledger.specs.declared.event.Event.TheVariants as event
use Rattle.epic_ledger.specs.Facts.{as_issue, issues_in, packet_at}
use Rattle.epic_ledger.specs.History.{Emission, History, emission_at}
use Rattle.epic_record.specs.declared.item.Item.{Item}
use Rattle.epic_record.specs.declared.item.Item.TheVariants as items
use Rattle.epic_record.specs.LedgerFile.{are_lasts, as_emission, as_event, due_as, goes_on, history_in, is_packet, is_event_placed, is_newest, is_placed}
use Rattle.epic_record.specs.Places.{IsSeen, Seen, are_ends, continues, counts_of, event_fits, item_fits, is_newest_seen, position_at, positions_of, seen_after, seen_event}

one_less : (n : ℕ) → suc n - 1 ≡ n
one_less n = omega arith

twice : (o : Option Issue) → option_map (λ (i : Issue). i.name.body.pos) o ≡ option_map (λ (x : HopName). x.body.pos) (option_map (λ (i : Issue). i.name) o)
twice None = refl
twice (Some i) = refl

position_is : (issues : List Issue) (n : ℕ) → position_at (positions_of issues) n ≡ option_map (λ (x : HopName). x.body.pos) (name_of issues n)
unfolding name_of issue_at
position_is issues zero = refl
position_is issues (suc n) =
    rw (eqb-suc-zero n, one_less n) (slice_get-map (λ (i : Issue). i.name.body.pos) issues n ∙ twice (slice_get issues n))

through : (g : ℕ → Bool) (o : Option HopName) → option_map_or g (option_map (λ (x : HopName). x.body.pos) o) false ≡ option_map_or (λ (x : HopName). g x.body.pos) o false
through g None = refl
through g (Some x) = refl

-- what a test says of the position of an issue
tested : (g : ℕ → Bool) (issues : List Issue) (n : ℕ) → option_map_or g (position_at (positions_of issues) n) false ≡ option_map_or (λ (x : HopName). g x.body.pos) (name_of issues n) false
tested g issues n = ap (λ o. option_map_or g o false) (position_is issues n) ∙ through g (name_of issues n)

continues_is : (issues : List Issue) (x : HopName) (parent : ℕ) → continues (positions_of issues) x.body.pos parent ≡ goes_on issues x parent
continues_is issues x parent =
    elim (parent == 0) as (λ (b : Bool). cond b (x.body.pos == 1) (option_map_or (λ before. x.body.pos == before + 1) (position_at (positions_of issues) parent) false) ≡ cond b (x.body.pos == 1) (option_map_or (λ before. x.body.pos == before.body.pos + 1) (name_of issues parent) false)) [
      | true ↦ refl
      | false ↦ tested (λ before. x.body.pos == before + 1) issues parent
    ]

are_ends_is : (issues : List Issue) (numbers : List ℕ) (heads : List SegmentHead) → are_ends (positions_of issues) numbers (map (λ (s : SegmentHead). s.count) heads) ≡ are_lasts issues numbers heads
are_ends_is issues [] [] = refl
are_ends_is issues [] (head ∷ heads) = refl
are_ends_is issues (number ∷ more) [] = refl
are_ends_is issues (number ∷ more) (head ∷ heads) =
    ap (λ b. b && are_ends (positions_of issues) more (map (λ (s : SegmentHead). s.count) heads)) (tested (λ position. position == head.count) issues number)
    ∙ ap (λ b. option_map_or (λ (x : HopName). x.body.pos == head.count) (name_of issues number) false && b) (are_ends_is issues more heads)

-- two tests are one where they are one under a third
under : (b x y : Bool) → (b ≡ true → x ≡ y) → (b && x) ≡ (b && y)
under true x y h = h refl
under false x y h = refl

second_holds : (b c : Bool) → (b && c) ≡ true → c ≡ true
second_holds true c h = h
second_holds false c h = absurd (cc)

newest_there : (number count : ℕ) → (nat_lt 0 number && number == count) ≡ true → (0 < count) × (count ≡ number)
newest_there number count h = (grind (arith, nat_tests), grind (arith, nat_tests))

module _ (t : Network) (seen : Seen) (h : History) (s : IsSeen seen h) where
  newest_is : (emission : ℕ) → is_newest_seen seen emission ≡ is_newest h.emissions emission
  newest_is emission = ap (λ n. nat_lt 0 emission && emission == n) s.emissions

  ends_are : (emission : ℕ) (numbers : List ℕ) → is_newest h.emissions emission ≡ true
      → are_ends seen.positions numbers seen.counts ≡ are_lasts (issues_in h.events) numbers (packet_at h.emissions emission).route.segments
  ends_are emission numbers newest =
      let there = newest_there emission (length h.emissions) newest in
      let counts = s.counts there.0 ∙ ap (λ n. counts_of (packet_at h.emissions n)) (s.emissions ∙ there.1) in
      ap (λ ps. are_ends ps numbers seen.counts) s.positions
      ∙ ap (λ cs. are_ends (positions_of (issues_in h.events)) numbers cs) counts
      ∙ are_ends_is (issues_in h.events) numbers (packet_at h.emissions emission).route.segments

  hops_are : (emission hop : ℕ) → is_newest h.emissions emission ≡ true
      → nat_lt hop seen.hops ≡ nat_lt hop (length (packet_at h.emissions emission).route.hops)
  hops_are emission hop newest =
      let there = newest_there emission (length h.emissions) newest in
      ap (nat_lt hop) (s.hops there.0 ∙ ap (λ n. length (packet_at h.emissions n).route.hops) (s.emissions ∙ there.1))

  issue_fits : (number : ℕ) (x : HopName) (parent : ℕ)
      → (number == length seen.positions + 1) ≡ (number == length (issues_in h.events) + 1)
  issue_fits number x parent =
      ap (λ ps. number == length ps + 1) s.positions
      ∙ ap (λ n. number == n + 1) (length-map (issues_in h.events) (λ (i : Issue). i.name.body.pos))

  pub event_fits_is : (e : Event) → event_fits t seen e ≡ is_event_placed t h e
  unfolding event_fits is_event_placed
  event_fits_is (event.Issue step number x parent) =
      rw (issue_fits number x parent, s.positions, continues_is (issues_in h.events) x parent) refl
  event_fits_is (event.Fetch step source owner epoch) = refl
  event_fits_is (event.Send step emission segments) =
      ap (λ b. b && are_ends seen.positions segments.items seen.counts) (newest_is emission)
      ∙ under (is_newest h.emissions emission) _ _ (ends_are emission segments.items)
  event_fits_is (event.Pass step a hop generation emission) =
      ap (λ b. has t a && b && nat_lt hop seen.hops) (newest_is emission)
      ∙ under (has t a && is_newest h.emissions emission) _ _ (λ (both : _). hops_are emission hop (second_holds (has t a) (is_newest h.emissions emission) both))
  event_fits_is (event.Arrive step host src ts hops checked) = refl
  event_fits_is (event.Reveal step who) = refl
  event_fits_is (event.Roll step a generation) = refl

  pub item_fits_is : (item : Item) → item_fits t seen item ≡ is_placed t h item
  unfolding item_fits
  item_fits_is (items.Event e) = event_fits_is e
  item_fits_is (items.Emission number due bytes) = rw (s.emissions) refl
  item_fits_is (items.AcceptHop a generation hop bytes) = refl
  item_fits_is (items.AcceptDest host bytes) = refl

-- ---- one line more

positions_more : (issues : List Issue) (i : Issue) → positions_of (issues ++ i ∷ []) ≡ positions_of issues ++ i.name.body.pos ∷ []
positions_more [] i = refl
positions_more (x ∷ issues) i = ap (λ ps. x.name.body.pos ∷ ps) (positions_more issues i)

issues_same : (events : List Event) (e : Event) → as_issue e ≡ None → issues_in (events ++ e ∷ []) ≡ issues_in events
issues_same events e none =
    filter_map-append as_issue events (e ∷ [])
    ∙ ap (λ o. issues_in events ++ cons_option o []) none
    ∙ append-nil (issues_in events)

-- the ledger with an event more
abbrev with_event : History → Event → History
with_event h e = record { events = h.events ++ e ∷ []; emissions = h.emissions }

no_issue : (seen : Seen) (h : History) (e : Event) → IsSeen seen h → as_issue e ≡ None → IsSeen seen (with_event h e)
no_issue seen h e s none = record {
  positions = s.positions ∙ sym (ap positions_of (issues_same h.events e none));
  emissions = s.emissions;
  counts = s.counts;
  hops = s.hops;
}

event_more : (seen : Seen) (h : History) (e : Event) → IsSeen seen h → IsSeen (seen_event seen e) (with_event h e)
unfolding seen_event as_issue
event_more seen h (event.Issue step number x parent) s = record {
  positions =
      ap (λ ps. ps ++ x.body.pos ∷ []) s.positions
      ∙ sym (positions_more (issues_in h.events) (record { name = x; parent = parent }))
      ∙ sym (ap positions_of (filter_map-append as_issue h.events (event.Issue step number x parent ∷ [])));
  emissions = s.emissions;
  counts = s.counts;
  hops = s.hops;
}
event_more seen h (event.Fetch step source owner epoch) s = no_issue seen h (event.Fetch step source owner epoch) s refl
event_more seen h (event.Send step emission segments) s = no_issue seen h (event.Send step emission segments) s refl
event_more seen h (event.Pass step a hop generation emission) s = no_issue seen h (event.Pass step a hop generation emission) s refl
event_more seen h (event.Arrive step host src ts hops checked) s = no_issue seen h (event.Arrive step host src ts hops checked) s refl
event_more seen h (event.Reveal step who) s = no_issue seen h (event.Reveal step who) s refl
event_more seen h (event.Roll step a generation) s = no_issue seen h (event.Roll step a generation) s refl

at_end : (es : List Emission) (e : Emission) → slice_get (es ++ e ∷ []) (length es) ≡ Some e
at_end [] e = refl
at_end (x ∷ es) e = at_end es e

newest_packet : (es : List Emission) (e : Emission) (n : ℕ) → n ≡ length es + 1 → packet_at (es ++ e ∷ []) n ≡ parse e.bytes
unfolding packet_at
newest_packet es e n is =
    let later : n ≡ suc (length es) = omega (arith, is) in
    ap (λ m. parse (option_map_or (λ (x : Emission). x.bytes) (emission_at (es ++ e ∷ []) m) [])) later
    ∙ ap (λ o. parse (option_map_or (λ (x : Emission). x.bytes) o [])) (emission_at-suc (es ++ e ∷ []) (length es) ∙ at_end es e)

-- the ledger with an emission more
abbrev with_emission : History → Place → List ℕ → History
with_emission h due bytes = record { events = h.events; emissions = h.emissions ++ record { place = due; bytes = bytes } ∷ [] }

emission_more : (seen : Seen) (h : History) (number : ℕ) (due : Place) (bytes : List ℕ) → IsSeen seen h → number ≡ seen.emissions + 1
    → IsSeen (seen_after seen (items.Emission number due bytes)) (with_emission h due bytes)
unfolding seen_after
emission_more seen h number due bytes s is =
    let e : Emission = record { place = due; bytes = bytes } in
    let next : number ≡ length h.emissions + 1 = is ∙ ap (λ n. n + 1) s.emissions in
    let packet = newest_packet h.emissions e number next in
    record {
      positions = s.positions;
      emissions = next ∙ sym (length-append h.emissions (e ∷ []));
      counts = λ some. sym (ap counts_of packet);
      hops = λ some. sym (ap hop_count packet);
    }

first_holds : (b c : Bool) → (b && c) ≡ true → b ≡ true
first_holds true c h = refl
first_holds false c h = h

equal : (m n : ℕ) → (m == n) ≡ true → m ≡ n
equal m n h = grind (arith, nat_tests)

-- the ledger of lines and one more
told_event : (before : List Item) (e : Event) → with_event (history_in before) e ≡ history_in (before ++ items.Event e ∷ [])
unfolding history_in as_event as_emission
told_event before e =
    let events = sym (filter_map-append as_event before (items.Event e ∷ [])) in
    let emissions = sym (filter_map-append as_emission before (items.Event e ∷ []) ∙ append-nil (filter_map as_emission before)) in
    λ i. record { events = events i; emissions = emissions i }

told_emission : (before : List Item) (number : ℕ) (due : Place) (bytes : List ℕ)
    → with_emission (history_in before) due bytes ≡ history_in (before ++ items.Emission number due bytes ∷ [])
unfolding history_in as_event as_emission
told_emission before number due bytes =
    let item = items.Emission number due bytes in
    let events = sym (filter_map-append as_event before (item ∷ []) ∙ append-nil (filter_map as_event before)) in
    let emissions = sym (filter_map-append as_emission before (item ∷ [])) in
    λ i. record { events = events i; emissions = emissions i }

told_nothing : (before : List Item) (item : Item) → as_event item ≡ None → as_emission item ≡ None → history_in before ≡ history_in (before ++ item ∷ [])
unfolding history_in
told_nothing before item no_event no_emission =
    let events = sym (filter_map-append as_event before (item ∷ []) ∙ ap (λ o. filter_map as_event before ++ cons_option o []) no_event ∙ append-nil (filter_map as_event before)) in
    let emissions = sym (filter_map-append as_emission before (item ∷ []) ∙ ap (λ o. filter_map as_emission before ++ cons_option o []) no_emission ∙ append-nil (filter_map as_emission before)) in
    λ i. record { events = events i; emissions = emissions i }

pub seen_more : (t : Network) (seen : Seen) (before : List Item) (item : Item) → IsSeen seen (history_in before) → item_fits t seen item ≡ true
    → IsSeen (seen_after seen item) (history_in (before ++ item ∷ []))
unfolding seen_after item_fits as_event as_emission
seen_more t seen before (items.Event e) s fits =
    subst (λ h. IsSeen (seen_event seen e) h) (told_event before e) (event_more seen (history_in before) e s)
seen_more t seen before (items.Emission number due bytes) s fits =
    let next : number ≡ seen.emissions + 1 = equal number (seen.emissions + 1) (first_holds (number == seen.emissions + 1) (has t (due_as due)) (first_holds (number == seen.emissions + 1 && has t (due_as due)) (is_packet bytes) fits)) in
    subst (λ h. IsSeen (seen_after seen (items.Emission number due bytes)) h) (told_emission before number due bytes)
    (emission_more seen (history_in before) number due bytes s next)
seen_more t seen before (items.AcceptHop a generation hop bytes) s fits =
    subst (λ h. IsSeen seen h) (told_nothing before (items.AcceptHop a generation hop bytes) refl refl) s
seen_more t seen before (items.AcceptDest host bytes) s fits =
    subst (λ h. IsSeen seen h) (told_nothing before (items.AcceptDest host bytes) refl refl) s

-- nothing is known before the first line
pub seen_none : (seen : Seen) → seen.positions ≡ [] → seen.emissions ≡ 0 → IsSeen seen (history_in [])
unfolding history_in
seen_none seen positions emissions = record {
  positions = positions;
  emissions = emissions;
  counts = λ some. absurd (omega (arith, some));
  hops = λ some. absurd (omega (arith, some));
}
