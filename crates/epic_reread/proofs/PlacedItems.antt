-- What may stand in a ledger can be written.
use Rattle.std.proofs.Common.{◌≡◌, ℕ, ◌+◌, ◌<◌, ◌^◌, zero, suc, true, false, List, [], ◌∷◌, ◌++◌, length, refl, ap, sym, ◌∙◌, subst, arith, append-nil}
use Rattle.std.specs.Prelude.{◌==◌, ◌&&◌, nat_lt, nat_le, Bool, filter_map, is_none, slice_get, Option, Some, None}
use Rattle.std.specs.List.{All, cons_option}
use Rattle.std.specs.Option.{option_map_or}
use Rattle.std.proofs.lemmas.Bool.Decides.{nat_tests}
use Rattle.std.proofs.lemmas.List.Elements.{All-append, All-cons, All-head, All-nil, All-tail, filter_map-append}
use Rattle.epic_num.specs.declared.key_name.Holder.{Holder}
use Rattle.epic_num.specs.declared.key_name.Holder.TheVariants as holder
use Rattle.epic_num.specs.declared.name.HostId.{HostId}
use Rattle.epic_num.specs.declared.passed.Place.{Place}
use Rattle.epic_num.specs.declared.passed.Place.TheVariants as place
use Rattle.epic_num.specs.Chains.{Issue, name_of}
use Rattle.epic_num.specs.Levels.{is_first_byte}
use Rattle.epic_num.specs.Messages.{IsHost}
use Rattle.epic_num.specs.Names.{IsHostFrom, IsReadableHost}
use Rattle.epic_num.specs.Same.{same_host}
use Rattle.epic_layout.specs.declared.head.SegmentHead.{SegmentHead}
use Rattle.epic_layout.specs.Contents.{IsPacket, hop_count}
use Rattle.epic_layout.specs.Layout.{fault, parse}
use Rattle.epic_topo.specs.Lawful.{IsTopology}
use Rattle.epic_topo.specs.Network.{Network, has}
use Rattle.epic_topo.proofs.Linked.{names_readable}
use Rattle.epic_ledger.specs.declared.event.Event.{Event}
use Rattle.epic_ledger.specs.declared.event.Event.TheVariants as event
use Rattle.epic_ledger.specs.Facts.{issues_in, packet_at}
use Rattle.epic_ledger.specs.History.{Emission, History}
use Rattle.epic_ledger.specs.Lawful.{IsEmission}
use Rattle.epic_ledger.proofs.Growing.{emission_at-suc, spelled_in}
use Rattle.epic_text.specs.RunScript.{HolderFits}
use Rattle.epic_record.specs.declared.item.Item.{Item}
use Rattle.epic_record.specs.declared.item.Item.TheVariants as items
use Rattle.epic_record.specs.LedgerFile.{are_lasts, as_emission, due_as, goes_on, history_in, holder_as, is_event_placed, is_newest, is_packet, is_placed}
use Rattle.epic_reread.specs.LedgerFitting.{EventFits, ItemFits, PlaceFits, PlacedItemsCanBeWritten, PlacedLedgersAreReadBack}
use Rattle.epic_reread.specs.LedgerRereading.{AreLastIssues, ArePlaced, CanBeWritten, IsNamedEvent, IsNamedHolder, IsNamedPlace}
use Rattle.epic_reread.proofs.LedgerFiles.{ledgers_read}

first : (b c : Bool) → (b && c) ≡ true → b ≡ true
first true c h = refl
first false c h = h

second : (b c : Bool) → (b && c) ≡ true → c ≡ true
second true c h = h
second false c h = absurd (cc)

-- ---- packets

faultless : (bytes : List ℕ) → is_packet bytes ≡ true → fault is_first_byte bytes ≡ None
faultless bytes h = by (fault is_first_byte bytes) h
  where
    by : {A : Type 0} (o : Option A) → is_none o ≡ true → o ≡ None
    by None h = refl
    by (Some x) h = absurd (cc)

packet_there : (es : List Emission) (k : ℕ) → All IsEmission es → k < length es → IsPacket (parse (option_map_or (λ (e : Emission). e.bytes) (slice_get es k) []))
packet_there [] k all l = absurd (omega (arith, l))
packet_there (e ∷ es) zero all l = (All-head IsEmission e es all).packet
packet_there (e ∷ es) (suc k) all l = packet_there es k (All-tail IsEmission e es all) (omega (arith, l))

newest_packet : (es : List Emission) (n : ℕ) → All IsEmission es → is_newest es n ≡ true → IsPacket (packet_at es n)
unfolding packet_at
newest_packet es zero all h = absurd (cc)
newest_packet es (suc k) all h =
    let there : k < length es = grind (arith, nat_tests) in
    subst (λ o. IsPacket (parse (option_map_or (λ (e : Emission). e.bytes) o []))) (sym (emission_at-suc es k)) (packet_there es k all there)

lasts_length : (issues : List Issue) (numbers : List ℕ) (heads : List SegmentHead) → are_lasts issues numbers heads ≡ true → length numbers ≡ length heads
lasts_length issues [] [] h = refl
lasts_length issues [] (head ∷ heads) h = absurd (cc)
lasts_length issues (n ∷ numbers) [] h = absurd (cc)
lasts_length issues (n ∷ numbers) (head ∷ heads) h =
    ap suc (lasts_length issues numbers heads (second (option_map_or (λ x. x.body.pos == head.count) (name_of issues n) false) (are_lasts issues numbers heads) h))

-- ---- items

from_any : (src : HostId) → IsHost src → IsHostFrom 0 src
from_any src fits = ((fits.asn, omega arith, omega arith), fits.host)

module _ (t : Network) (topology : IsTopology t) where
  host_named : (host : HostId) → IsHost host → has t host.asn ≡ true → IsReadableHost host
  host_named host fits there = (names_readable t topology host.asn there, fits.host)

  holder_named : (who : Holder) → HolderFits who → has t (holder_as who) ≡ true → IsNamedHolder who
  holder_named (holder.As a) fits there = names_readable t topology a there
  holder_named (holder.Host h) fits there = host_named h fits there

  place_named : (due : Place) → PlaceFits due → has t (due_as due) ≡ true → IsNamedPlace due
  place_named (place.Router a iface) fits there = (names_readable t topology a there, fits)
  place_named (place.Host host) fits there = host_named host fits there

  lasts_named : (h : History) (emission : ℕ) (numbers : List ℕ) → All IsEmission h.emissions → All (λ n. n < 2 ^ 32) numbers
      → is_newest h.emissions emission ≡ true
      → are_lasts (issues_in h.events) numbers (packet_at h.emissions emission).route.segments ≡ true
      → AreLastIssues numbers
  lasts_named h emission numbers all each newest lasts =
      let route = (newest_packet h.emissions emission all newest).route in
      let same = lasts_length (issues_in h.events) numbers (packet_at h.emissions emission).route.segments lasts in
      let least = route.some_segment in
      let most = route.few_segments in
      record {
        some = omega (arith, same, least);
        few = omega (arith, same, most);
        each = each;
      }

  event_named : (h : History) (e : Event) → All IsEmission h.emissions → EventFits e → is_event_placed t h e ≡ true → IsNamedEvent e
  unfolding EventFits IsNamedEvent is_event_placed
  event_named h (event.Issue step number x parent) all fits is =
      let next = number == length (issues_in h.events) + 1 in
      let two = next && has t x.asn in
      let low = nat_le x.body.pos 16 in
      let there = second next (has t x.asn) (first two low (first (two && low) (goes_on (issues_in h.events) x parent) is)) in
      let name = fits.2 in (
        fits.0,
        fits.1,
        record {
          asn = names_readable t topology x.asn there;
          generation = name.generation;
          body = name.body;
          link = name.link;
        },
        fits.3,
      )
  event_named h (event.Fetch step source owner epoch) all fits is =
      (fits.0, names_readable t topology source (first (has t source) (has t owner) is), names_readable t topology owner (second (has t source) (has t owner) is), fits.1)
  event_named h (event.Send step emission segments) all fits is =
      let newest = is_newest h.emissions emission in
      let lasts = are_lasts (issues_in h.events) segments.items (packet_at h.emissions emission).route.segments in
      (fits.0, fits.1, lasts_named h emission segments.items all fits.2 (first newest lasts is) (second newest lasts is))
  event_named h (event.Pass step a hop generation emission) all fits is =
      let newest = is_newest h.emissions emission in
      let there = first (has t a) newest (first (has t a && newest) (nat_lt hop (hop_count (packet_at h.emissions emission))) is) in
      (fits.0, names_readable t topology a there, fits.1, fits.2, fits.3)
  event_named h (event.Arrive step host src ts hops checked) all fits is =
      let there = first (has t host.asn) (nat_le 2 hops) (first (has t host.asn && nat_le 2 hops) (nat_le hops 32) is) in
      (fits.0, host_named host fits.1 there, from_any src fits.2, fits.3, fits.4)
  event_named h (event.Reveal step who) all fits is = (fits.0, holder_named who fits.1 is)
  event_named h (event.Roll step a generation) all fits is = (fits.0, names_readable t topology a is, fits.1)

  item_named : (h : History) (item : Item) → All IsEmission h.emissions → ItemFits item → is_placed t h item ≡ true → CanBeWritten item
  unfolding ItemFits CanBeWritten
  item_named h (items.Event e) all fits is = event_named h e all fits is
  item_named h (items.Emission number due bytes) all fits is =
      let next = number == length h.emissions + 1 in
      let there = second next (has t (due_as due)) (first (next && has t (due_as due)) (is_packet bytes) is) in
      (fits.0, place_named due fits.1 there, fits.2)
  item_named h (items.AcceptHop a generation hop bytes) all fits is =
      let there = first (has t a) (is_packet bytes) (first (has t a && is_packet bytes) (nat_lt hop (hop_count (parse bytes))) is) in
      (names_readable t topology a there, fits.0, fits.1, fits.2)
  item_named h (items.AcceptDest host bytes) all fits is =
      let there = first (has t host.asn) (is_packet bytes) (first (has t host.asn && is_packet bytes) (same_host (parse bytes).dst host) is) in
      (host_named host fits.0 there, fits.1)

-- ---- ledgers

emissions_stay : (before : List Item) (item : Item) → as_emission item ≡ None → All IsEmission (history_in before).emissions
    → All IsEmission (history_in (before ++ item ∷ [])).emissions
unfolding history_in
emissions_stay before item none all =
    subst (All IsEmission)
    (sym (filter_map-append as_emission before (item ∷ [])
    ∙ ap (λ o. filter_map as_emission before ++ cons_option o []) none
    ∙ append-nil (filter_map as_emission before)))
    all

emissions_more : (t : Network) (before : List Item) (item : Item) → ItemFits item → is_placed t (history_in before) item ≡ true
    → All IsEmission (history_in before).emissions → All IsEmission (history_in (before ++ item ∷ [])).emissions
unfolding history_in as_emission ItemFits
emissions_more t before (items.Event e) fits is all = emissions_stay before (items.Event e) refl all
emissions_more t before (items.Emission number due bytes) fits is all =
    let e : Emission = record { place = due; bytes = bytes } in
    let next = number == length (filter_map as_emission before) + 1 in
    let whole = faultless bytes (second (next && has t (due_as due)) (is_packet bytes) is) in
    subst (All IsEmission) (sym (filter_map-append as_emission before (items.Emission number due bytes ∷ [])))
    (All-append IsEmission (filter_map as_emission before) (e ∷ []) all (All-cons IsEmission e [] (spelled_in e fits.2 whole) (All-nil IsEmission)))
emissions_more t before (items.AcceptHop a generation hop bytes) fits is all =
    emissions_stay before (items.AcceptHop a generation hop bytes) refl all
emissions_more t before (items.AcceptDest host bytes) fits is all = emissions_stay before (items.AcceptDest host bytes) refl all

each_named : (t : Network) → IsTopology t → (before told : List Item) → All IsEmission (history_in before).emissions
    → All ItemFits told → ArePlaced t before told → All CanBeWritten told
each_named t topology before [] all fits is = All-nil CanBeWritten
each_named t topology before (item ∷ more) all fits is =
    let one = All-head ItemFits item more fits in
    All-cons CanBeWritten item more (item_named t topology (history_in before) item all one is.0)
    (each_named t topology (before ++ item ∷ []) more (emissions_more t before item one is.0 all) (All-tail ItemFits item more fits) is.1)

pub placed_can_be_written : PlacedItemsCanBeWritten
placed_can_be_written t h item topology all fits is = item_named t topology h item all fits is

pub placed_ledgers_read : PlacedLedgersAreReadBack
unfolding history_in
placed_ledgers_read t told topology fits is small =
    ledgers_read t told (each_named t topology [] told (All-nil IsEmission) fits is) is small
