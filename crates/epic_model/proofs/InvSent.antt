-- A packet that is sent keeps what every ledger keeps.
use Rattle.std.proofs.Common.{◌≡◌, ℕ, zero, suc, ◌+◌, ◌-◌, ◌<◌, ◌≤◌, ◌⊎◌, inl, inr, true, false, List, [], ◌∷◌, ◌++◌, length, get_or, take, map, max, Option, None, Some, Ok, refl, ap, sym, subst, ◌∙◌, ⊎_elim, arith}
use Rattle.std.specs.Prelude.{◌==◌, IsTrue, slice_get, slice_index_or, option_map, IsSome}
use Rattle.std.specs.List.{All}
use Rattle.std.specs.Option.{option_map_or}
use Rattle.std.proofs.lemmas.Bool.{cond-true, cond-false, cases_Bool, eq-eqb}
use Rattle.std.proofs.lemmas.List.{length-map}
use Rattle.std.proofs.lemmas.List.Elements.{All-from_get_or, All-cons, All-nil, All-push}
use Rattle.std.proofs.lemmas.Option.{same_Some, slice_get-map, slice_get-get_or}
use Rattle.arrayvec.specs.ArrayVec.{ArrayVec}
use Rattle.epic_num.specs.declared.hop.HopName.{HopName}
use Rattle.epic_num.specs.declared.hop.Level.{Level}
use Rattle.epic_num.specs.declared.name.HostId.{HostId}
use Rattle.epic_num.specs.declared.passed.Place.TheVariants.{Router}
use Rattle.epic_num.specs.declared.segment.Leg.{Leg}
use Rattle.epic_num.specs.declared.segment.SegHop.{SegHop}
use Rattle.epic_num.specs.declared.segment.Segment.{Segment}
use Rattle.epic_num.specs.Bodies.{IsBody}
use Rattle.epic_num.specs.Chains.{Issue, issue_at, name_of, ancestor, chain, is_ended}
use Rattle.epic_num.specs.Levels.{first_byte}
use Rattle.epic_num.specs.Paths.{is_lawful, path_start, path_end}
use Rattle.epic_num.specs.Same.{same_host}
use Rattle.epic_num.specs.Segments.{is_well_formed}
use Rattle.epic_num.proofs.SameLaws.{same_host-Decides}
use Rattle.epic_layout.specs.Contents.{Contents, IsPacket, unfilled}
use Rattle.epic_layout.specs.Layout.{parse}
use Rattle.epic_layout.specs.PathRoutes.{head_of, route_of}
use Rattle.epic_layout.specs.Route.{no_segment}
use Rattle.epic_layout.specs.Spelling.{spelling}
use Rattle.epic_layout.proofs.OneSpelling.{packets_are_spelled}
use Rattle.epic_topo.specs.Network.{Network, has}
use Rattle.epic_fields.specs.Issues.{IssuesKept}
use Rattle.epic_beacon.specs.declared.beacon.Beacon.{Beacon}
use Rattle.epic_beacon.specs.Chained.{AreChained}
use Rattle.epic_beacon.specs.Segments.{name_of_hop, segment, IsSegment}
use Rattle.epic_beacon.specs.Told.{beacons_in}
use Rattle.epic_beacon.proofs.Formed.{segment_is}
use Rattle.epic_beacon.proofs.Issued.{issue_there}
use Rattle.epic_beacon.proofs.Sigmas.{segments_have_sigmas}
use Rattle.epic_beacon.proofs.Told.{issues_in_beacons}
use Rattle.epic_path.proofs.WalkLaws.{joins_are_lawful}
use Rattle.epic_ends.specs.Admitting.{next_ts}
use Rattle.epic_ends.specs.Sending.{no_hop, packet_over, sent_packet, made_packet}
use Rattle.epic_ends.specs.SentPackets.{HaveSigmas, AreInRange}
use Rattle.epic_ends.proofs.Made.{sent_packets_are_made, made_packets_are_spelled}
use Rattle.epic_ledger.specs.History.{History, Emission, step_of}
use Rattle.epic_router.specs.Checks.{is_turn}
use Rattle.epic_ledger.specs.Facts.{Facts, Sent, as_issue, as_send, facts_of, issues_in, sends_in, packet_at}
use Rattle.epic_ledger.specs.Lawful.{FitsSend, IsEmission}
use Rattle.epic_ledger.specs.OneMore.{with_event, with_emission}
use Rattle.epic_ledger.specs.declared.event.Event.{Event}
use Rattle.epic_ledger.specs.declared.event.Event.TheVariants as event
use Rattle.epic_ledger.proofs.Growing.{emission_at-append, packet_at-append}
use Rattle.epic_audit.specs.Events.{IsUnsent}
use Rattle.epic_audit.specs.Kept.{IsKeptSend}
use Rattle.epic_audit.proofs.Growth.{emissions_add_nothing}
use Rattle.epic_audit.proofs.Lists.{one_more, old_or_last}
use Rattle.epic_model.specs.Keeping as keeping
use Rattle.epic_model.specs.Keeping.{IsOnWay, ArePast, IsDue, Inv, IsSendable, InvSends, NextIsUnsent, latest_sent, sent_at}
use Rattle.epic_model.specs.Sound.{IsSound}
use Rattle.epic_model.specs.Sends.{IsOver, AreOver, IsRouted}
use Rattle.epic_model.specs.Twice.{BeginWell}
use Rattle.epic_model.specs.Windows.{router_entry, host_entry, NoneTwice}
use Rattle.epic_model.proofs.Grown.{emission_next, packet_next, entry_stays}
use Rattle.epic_model.proofs.InvKept.{sound_on, once_on, begins_on}
use Rattle.epic_model.proofs.Longer.{AreThere, none_behind}
use Rattle.epic_model.proofs.Remembered.{once_same}
use Rattle.epic_model.proofs.Riding.{lawful_there}
use Rattle.epic_model.proofs.SentKept.{chain_of, over_long, ended_issue, kept_send, routed}
use Rattle.epic_model.proofs.SoundPasses.{one_emission}
use Rattle.epic_model.proofs.Travelled.{named_issue}

-- ---- the segments of issues

-- each number has its segment
abbrev AreSegmentsOf : List Beacon → List ℕ → List Segment → Type 0
AreSegmentsOf bs [] [] = Unit {0}
AreSegmentsOf bs (n ∷ numbers) (s ∷ segments) = (segment bs n ≡ Ok s) × AreSegmentsOf bs numbers segments
AreSegmentsOf bs [] (s ∷ segments) = ⊥
AreSegmentsOf bs (n ∷ numbers) [] = ⊥

segments_of : (bs : List Beacon) (numbers : List ℕ) (segments : List Segment) → map (segment bs) numbers ≡ map (λ s. Ok s) segments → AreSegmentsOf bs numbers segments
segments_of bs [] [] e = tt
segments_of bs [] (s ∷ segments) e = absurd (cc)
segments_of bs (n ∷ numbers) [] e = absurd (cc)
segments_of bs (n ∷ numbers) (s ∷ segments) e = (cc, segments_of bs numbers segments cc)

module _ (t : Network) (issues : List Issue) (chained : AreChained (beacons_in t issues)) (kept : IssuesKept t issues)
    (in_range : keeping.AreInRange issues) where
  bs : List Beacon
  bs = beacons_in t issues

  is_segment : (n : ℕ) (s : Segment) → segment bs n ≡ Ok s → IsSegment bs n s
  unfolding bs
  is_segment n s e = segment_is (beacons_in t issues) n s chained e

  formed : (numbers : List ℕ) (segments : List Segment) → AreSegmentsOf bs numbers segments
      → All (λ s. IsTrue (is_well_formed s)) segments × All (λ s. length s.hops.items ≤ 16) segments
  formed [] [] of = (All-nil (λ s. IsTrue (is_well_formed s)), All-nil (λ (s : Segment). length s.hops.items ≤ 16))
  formed [] (s ∷ segments) of = absurd of
  formed (n ∷ numbers) [] of = absurd of
  formed (n ∷ numbers) (s ∷ segments) of =
      let is = is_segment n s of.0 in
      let rest = formed numbers segments of.1 in
      (All-cons (λ s. IsTrue (is_well_formed s)) s segments is.well_formed rest.0, All-cons (λ (s : Segment). length s.hops.items ≤ 16) s segments is.few rest.1)

  -- the issue of the segment is ended
  ended_of : (n : ℕ) (s : Segment) → segment bs n ≡ Ok s → is_ended issues n ≡ true
  unfolding is_ended bs
  ended_of n s e =
      let is = is_segment n s e in
      let there = ap (λ l. issue_at l n) (sym (issues_in_beacons t issues)) ∙ issue_there (beacons_in t issues) n is.last is.is_last in
      ap (λ o. option_map_or (λ (i : Issue). i.name.body.out == 0) o false) there ∙ eq-eqb is.last.name.body.out 0 is.ended

  over_one : (n : ℕ) (leg : Leg) → segment bs n ≡ Ok leg.segment → IsOver issues n leg
  unfolding bs
  over_one n leg e = record {
    ended = ended_of n leg.segment e;
    names = (is_segment n leg.segment e).names ∙ ap (λ l. chain l n) (issues_in_beacons t issues);
  }

  over_all : (numbers : List ℕ) (legs : List Leg) → AreSegmentsOf bs numbers (map (λ l. l.segment) legs) → AreOver issues numbers legs
  over_all [] [] of = tt
  over_all [] (l ∷ legs) of = absurd of
  over_all (n ∷ numbers) [] of = absurd of
  over_all (n ∷ numbers) (l ∷ legs) of = (over_one n l of.0, over_all numbers legs of.1)

  sigmas : (numbers : List ℕ) (legs : List Leg) → AreSegmentsOf bs numbers (map (λ l. l.segment) legs) → HaveSigmas t legs
  unfolding bs
  sigmas [] [] of = tt
  sigmas [] (l ∷ legs) of = absurd of
  sigmas (n ∷ numbers) [] of = absurd of
  sigmas (n ∷ numbers) (l ∷ legs) of = (segments_have_sigmas t issues n l.segment of.0, sigmas numbers legs of.1)

  -- each name of a chain is an issue's
  hop_range : (n : ℕ) (leg : Leg) → IsOver issues n leg → All (λ h. IsBody h.body) leg.segment.hops.items
  hop_range n leg over =
      let c = chain_of t issues n kept over.ended in
      let hops = leg.segment.hops.items in
      let many : length hops ≡ c.most = sym (length-map hops name_of_hop) ∙ (ap length over.names ∙ c.long) in
      All-from_get_or (λ (h : SegHop). IsBody h.body) hops no_hop
      (λ m h. (let d = get_or hops m no_hop in
      let named : name_of issues (ancestor issues n (c.most - 1 - m)) ≡ Some (name_of_hop d)
      = sym (c.each m (omega (arith, h, many))) ∙ (ap (λ l. slice_get l m) (sym over.names) ∙ (slice_get-map name_of_hop hops m ∙ ap (option_map name_of_hop) (slice_get-get_or hops m no_hop h))) in
      let i = named_issue issues (ancestor issues n (c.most - 1 - m)) (name_of_hop d) named in
      subst IsBody (ap (λ (y : HopName). y.body) i.1.1) (in_range (ancestor issues n (c.most - 1 - m)) i.0 i.1.0)))

  ranges : (numbers : List ℕ) (legs : List Leg) → AreOver issues numbers legs → AreInRange legs
  ranges [] [] over = tt
  ranges [] (l ∷ legs) over = absurd over
  ranges (n ∷ numbers) [] over = absurd over
  ranges (n ∷ numbers) (l ∷ legs) over = (hop_range n l over.0, ranges numbers legs over.1)

-- passes stay beside one another among more emissions
begins_more : (es more : List Emission) (events : List Event) → AreThere (record { events = events; emissions = es }) → BeginWell es events → BeginWell (es ++ more) events
begins_more es more events there begin e a j pass no_turn =
    begin e a j pass (ap (λ c. is_turn c j) (sym (packet_at-append es more e (there pass.index (event.Pass pass.step a j pass.generation e) pass.there))) ∙ no_turn)

-- each issue is there, and its chain is as long as the leg's segment
all_issued : (issues : List Issue) (numbers : List ℕ) (legs : List Leg) → AreOver issues numbers legs → (i : ℕ) → i < length numbers
    → IsSome (issue_at issues (slice_index_or numbers i 0))
    × (length (chain issues (slice_index_or numbers i 0)) ≡ (slice_index_or (map head_of legs) i no_segment).count)
unfolding head_of
all_issued issues [] legs over i small = absurd (omega (arith, small))
all_issued issues (n ∷ numbers) [] over i small = absurd over
all_issued issues (n ∷ numbers) (l ∷ legs) over zero small =
    let k = ended_issue issues n over.0.ended in (
      subst (λ (o : Option Issue). IsSome o) (sym k.1) refl,
      sym (ap length over.0.names) ∙ length-map l.segment.hops.items name_of_hop,
    )
all_issued issues (n ∷ numbers) (l ∷ legs) over (suc i) small = all_issued issues numbers legs over.1 i (omega (arith, small))

module _ (t : Network) (h : History) (now step first : ℕ) (src dst : HostId) (ts : ℕ) (numbers : ArrayVec ℕ) (legs : List Leg) (payload : List ℕ)
    (inv : Inv t h now step) (over : AreOver (issues_in h.events) numbers.items legs) (is : IsTrue (is_lawful legs))
    (starts_at : path_start legs ≡ src.asn) (ends_at : path_end legs ≡ dst.asn) (known : has t src.asn ≡ true)
    (packet : IsPacket (made_packet t legs first src dst ts payload))
    (reads : parse (spelling (made_packet t legs first src dst ts payload)) ≡ made_packet t legs first src dst ts payload)
    (unsent : IsUnsent (sends_in h) (made_packet t legs first src dst ts payload)) where
  p : Contents
  p = made_packet t legs first src dst ts payload

  x : Emission
  x = record { place = Router (made_packet t legs first src dst ts payload).src.asn 0; bytes = spelling (made_packet t legs first src dst ts payload) }

  e : Event
  e = event.Send step (length h.emissions + 1) numbers

  due_known : IsDue t (Router (made_packet t legs first src dst ts payload).src.asn 0)
  unfolding made_packet packet_over unfilled
  due_known = known

  emission_is : IsEmission x
  unfolding x
  emission_is = record { packet = subst IsPacket (sym reads) packet; faultless = (packets_are_spelled (made_packet t legs first src dst ts payload) packet).faultless }

  at_number : packet_at (h.emissions ++ x ∷ []) (length h.emissions + 1) ≡ made_packet t legs first src dst ts payload
  unfolding x
  at_number = packet_next h.emissions x ∙ reads

  sends_same : sends_in (with_emission h x) ≡ sends_in h
  unfolding facts_of
  sends_same = ap (λ (f : Facts). f.sends) (emissions_add_nothing h x inv.sound.lawful)

  segments_are : (made_packet t legs first src dst ts payload).route.segments ≡ map head_of legs
  unfolding made_packet packet_over unfilled route_of
  segments_are = refl

  new : Sent
  new = record { emission = length h.emissions + 1; segments = numbers.items; packet = packet_at (h.emissions ++ x ∷ []) (length h.emissions + 1) }

  with_packet : Contents → Sent
  with_packet q = record { emission = length h.emissions + 1; segments = numbers.items; packet = q }

  fits : FitsSend (h.emissions ++ x ∷ []) (issues_in h.events) (length h.emissions + 1) numbers.items
  fits =
      let all = all_issued (issues_in h.events) numbers.items legs over in
      let segments : (packet_at (h.emissions ++ x ∷ []) (length h.emissions + 1)).route.segments ≡ map head_of legs
      = ap (λ (q : Contents). q.route.segments) at_number ∙ segments_are in
      record {
        there = subst (λ (o : Option Emission). IsSome o) (sym (emission_next h.emissions x)) refl;
        count = over_long (issues_in h.events) numbers.items legs over ∙ (sym (length-map legs head_of) ∙ ap length (sym segments));
        issued = λ i small. (all i small).0;
        chains = λ i small. (all i small).1 ∙ ap (λ ss. (slice_index_or ss i no_segment).count) (sym segments);
      }

  new_kept : IsKeptSend t (issues_in h.events) new
  unfolding new with_packet facts_of
  new_kept =
      subst (λ q. IsKeptSend t (issues_in h.events) (with_packet q)) (sym at_number)
      (kept_send t (issues_in h.events) (length h.emissions + 1) first src dst ts numbers.items legs payload inv.sound.kept.issues over is starts_at ends_at)

  new_routed : IsRouted (issues_in h.events) new
  unfolding new with_packet facts_of
  new_routed =
      subst (λ q. IsRouted (issues_in h.events) (with_packet q)) (sym at_number)
      (routed t (issues_in h.events) (length h.emissions + 1) first src dst ts numbers.items legs payload inv.sound.kept.issues over is starts_at ends_at)

  new_unsent : IsUnsent (sends_in (with_emission h x)) (packet_at (h.emissions ++ x ∷ []) (length h.emissions + 1))
  new_unsent = subst (IsUnsent (sends_in (with_emission h x))) (sym at_number) (subst (λ ss. IsUnsent ss (made_packet t legs first src dst ts payload)) (sym sends_same) unsent)

  sound_with : IsSound t (with_emission h x) step
  sound_with = one_emission t h x step emission_is inv.sound

  sound_now : IsSound t (with_event (with_emission h x) e) step
  unfolding e new step_of
  sound_now = sound_on t (with_emission h x) step (event.Send step (length h.emissions + 1) numbers) fits (record { kept = new_kept; unsent = new_unsent }) refl sound_with

  once_with : NoneTwice (with_emission h x)
  once_with = record {
    routers = λ a. once_same (router_entry h.emissions a) (router_entry (h.emissions ++ x ∷ []) a) h.events
        (λ n d at. entry_stays h.emissions (x ∷ []) a (issues_in (take n h.events)) d (inv.sound.lawful.fit n d at)) (inv.once.routers a);
    hosts = inv.once.hosts;
  }

  once_now : NoneTwice (with_event (with_emission h x) e)
  unfolding e router_entry host_entry
  once_now = once_on (with_emission h x) (event.Send step (length h.emissions + 1) numbers) (λ a. refl) (λ d. refl) once_with

  only : {Y : Type 0} (f : Event → Option Y) → f e ≡ None → (n : ℕ) (d : Event) → slice_get (e ∷ []) n ≡ Some d → f d ≡ None
  only f none zero d at = ap f (sym (same_Some e d at)) ∙ none
  only f none (suc n) d at = absurd (cc)

  no_issue : as_issue e ≡ None
  unfolding e as_issue
  no_issue = refl

  issues_now : issues_in (h.events ++ e ∷ []) ≡ issues_in h.events
  issues_now = none_behind as_issue h.events (e ∷ []) (only as_issue no_issue)

  as_new : as_send (h.emissions ++ x ∷ []) e ≡ Some new
  unfolding e as_send new
  as_new = refl

  sends_now : sends_in (with_event (with_emission h x) e) ≡ sends_in (with_emission h x) ++ new ∷ []
  sends_now = one_more (as_send (h.emissions ++ x ∷ [])) h.events e new as_new

  on_way_now : (n : ℕ) (s : Sent) → slice_get (sends_in (with_event (with_emission h x) e)) n ≡ Some s → IsOnWay (with_event (with_emission h x) e) s
  unfolding x new
  on_way_now n s at =
      elim (old_or_last (sends_in (with_emission h x)) new s n (ap (λ l. slice_get l n) (sym sends_now) ∙ at)) [
        | inl old ↦
            (let was = inv.sends n s (ap (λ l. slice_get l n) (sym sends_same) ∙ old) in
            record {
              routed = subst (λ l. IsRouted l s) (sym issues_now) was.routed;
              due = emission_at-append h.emissions (x ∷ []) s.emission (subst (λ (o : Option Emission). IsSome o) (sym was.due) refl) ∙ was.due;
            })
        | inr last ↦
            subst (IsOnWay (with_event (with_emission h x) e)) last.1 (record {
              routed = subst (λ l. IsRouted l new) (sym issues_now) new_routed;
              due = emission_next h.emissions x ∙ ap (λ (q : Contents). Some (record { place = Router q.src.asn 0; bytes = spelling q })) (sym at_number);
            })
      ]

  -- what was sent is what was sent before, or this packet
  sends_split : (n : ℕ) (s : Sent) → slice_get (sends_in (sent_at step h numbers (made_packet t legs first src dst ts payload))) n ≡ Some s
      → (slice_get (sends_in h) n ≡ Some s) ⊎ (s.packet ≡ made_packet t legs first src dst ts payload)
  unfolding sent_at x e new
  sends_split n s at =
      elim (old_or_last (sends_in (with_emission h x)) new s n (ap (λ l. slice_get l n) (sym sends_now) ∙ at)) [
        | inl old ↦ inl (ap (λ l. slice_get l n) (sym sends_same) ∙ old)
        | inr last ↦ inr (ap (λ (r : Sent). r.packet) (sym last.1) ∙ at_number)
      ]

  inv_with : Inv t (sent_at step h numbers (made_packet t legs first src dst ts payload)) now step
  unfolding sent_at x e
  inv_with = record {
    sound = sound_now;
    once = once_now;
    sends = on_way_now;
    past = subst (ArePast now) (sym issues_now) inv.past;
    in_range = subst keeping.AreInRange (sym issues_now) inv.in_range;
    chained = subst (λ l. AreChained (beacons_in t l)) (sym issues_now) inv.chained;
    places = All-push (λ (y : Emission). IsDue t y.place) h.emissions x inv.places due_known;
    begin = begins_on (h.emissions ++ x ∷ []) h.events (event.Send step (length h.emissions + 1) numbers) (λ b s k g number same. absurd (cc))
        (begins_more h.emissions (x ∷ []) h.events (lawful_there h inv.sound.lawful) inv.begin);
  }

-- what follows of what a source can send
record Sends (t : Network) (h : History) (version : ℕ) (level : Level) (src dst : HostId) (ts : ℕ) (numbers : List ℕ) (legs : List Leg) (payload : List ℕ) : Type 0 where
  pub over : AreOver (issues_in h.events) numbers legs
  pub lawful : IsTrue (is_lawful legs)
  pub starts : path_start legs ≡ src.asn
  pub same : sent_packet t legs version level src dst ts payload ≡ made_packet t legs (first_byte version level) src dst ts payload
  pub packet : IsPacket (made_packet t legs (first_byte version level) src dst ts payload)
  pub reads : parse (spelling (made_packet t legs (first_byte version level) src dst ts payload)) ≡ made_packet t legs (first_byte version level) src dst ts payload

sends : (t : Network) (h : History) (now step version : ℕ) (level : Level) (src dst : HostId) (ts : ℕ) (numbers : List ℕ) (legs : List Leg) (payload : List ℕ)
    → IsSendable t h version level src dst ts numbers legs payload → Inv t h now step → Sends t h version level src dst ts numbers legs payload
unfolding facts_of bs
sends t h now step version level src dst ts numbers legs payload s inv =
    let issues = issues_in h.events in
    let beacons = beacons_in t issues in
    let kept = inv.sound.kept.issues in
    let of = segments_of beacons numbers s.segments s.ended in
    let good = formed t issues inv.chained kept inv.in_range numbers s.segments of in
    let j = joins_are_lawful src.asn s.segments legs good.0 good.1 s.path in
    let of_legs = subst (AreSegmentsOf beacons numbers) (sym j.over) of in
    let over = over_all t issues inv.chained kept inv.in_range numbers legs of_legs in
    let spelled = made_packets_are_spelled t legs (first_byte version level) src dst ts payload s.exists s.src_fits s.dst_fits s.ts_fits s.payload_fits j.lawful
    (ranges t issues inv.chained kept inv.in_range numbers legs over) in
    record {
      over = over;
      lawful = j.lawful;
      starts = j.starts;
      same = sent_packets_are_made t legs version level src dst ts payload (sigmas t issues inv.chained kept inv.in_range numbers legs of_legs);
      packet = spelled.0;
      reads = spelled.1;
    }

-- it is a packet within the limits, and is read back from its bytes
pub sends_read : (t : Network) (h : History) (now step version : ℕ) (level : Level) (src dst : HostId) (ts : ℕ) (numbers : List ℕ) (legs : List Leg) (payload : List ℕ)
    → IsSendable t h version level src dst ts numbers legs payload → Inv t h now step
    → IsPacket (sent_packet t legs version level src dst ts payload)
    × (parse (spelling (sent_packet t legs version level src dst ts payload)) ≡ sent_packet t legs version level src dst ts payload)
sends_read t h now step version level src dst ts numbers legs payload s inv =
    let of = sends t h now step version level src dst ts numbers legs payload s inv in
    subst (λ p. IsPacket p × (parse (spelling p) ≡ p)) (sym of.same) (of.packet, of.reads)

pub inv_sends : InvSends
inv_sends t h now step version level src dst ts numbers legs payload topology s unsent inv =
    let of = sends t h now step version level src dst ts numbers.items legs payload s inv in
    subst (λ p. Inv t (sent_at step h numbers p) now step) (sym of.same)
    (inv_with t h now step (first_byte version level) src dst ts numbers legs payload inv of.over of.lawful of.starts s.leads s.known of.packet of.reads
    (subst (IsUnsent (sends_in h)) of.same unsent))

-- what was sent is what was sent before, or this packet
pub sends_after : (t : Network) (h : History) (now step version : ℕ) (level : Level) (src dst : HostId) (ts : ℕ) (numbers : ArrayVec ℕ) (legs : List Leg) (payload : List ℕ)
    → IsSendable t h version level src dst ts numbers.items legs payload → IsUnsent (sends_in h) (sent_packet t legs version level src dst ts payload)
    → Inv t h now step → (n : ℕ) (x : Sent)
    → slice_get (sends_in (sent_at step h numbers (sent_packet t legs version level src dst ts payload))) n ≡ Some x
    → (slice_get (sends_in h) n ≡ Some x) ⊎ (x.packet ≡ sent_packet t legs version level src dst ts payload)
sends_after t h now step version level src dst ts numbers legs payload s unsent inv =
    let of = sends t h now step version level src dst ts numbers.items legs payload s inv in
    subst (λ p. (n : ℕ) (x : Sent) → slice_get (sends_in (sent_at step h numbers p)) n ≡ Some x → (slice_get (sends_in h) n ≡ Some x) ⊎ (x.packet ≡ p)) (sym of.same)
    (sends_split t h now step (first_byte version level) src dst ts numbers legs payload inv of.over of.lawful of.starts s.leads s.known of.packet of.reads
    (subst (IsUnsent (sends_in h)) of.same unsent))

-- ---- the next timestamp

-- the greatest of one and of others, if any
least_most : (ts : ℕ) (o : Option ℕ) → ts ≤ option_map_or (max ts) o ts
least_most ts None = omega arith
least_most ts (Some m) = omega arith

-- the greatest is at least each that was sent
latest_most : (sends : List Sent) (src : HostId) (n : ℕ) (s : Sent) → slice_get sends n ≡ Some s → s.packet.src ≡ src
    → (m : ℕ) × ((latest_sent sends src ≡ Some m) × (s.packet.ts ≤ m))
latest_most [] src n s at same = absurd (cc)
latest_most (c ∷ sends) src zero s at same =
    let is : c ≡ s = same_Some c s at in
    let here : same_host c.packet.src src ≡ true = (same_host-Decides c.packet.src src).1 (ap (λ (d : Sent). d.packet.src) is ∙ same) in
    let most = least_most c.packet.ts (latest_sent sends src) in
    let times : c.packet.ts ≡ s.packet.ts = ap (λ (d : Sent). d.packet.ts) is in (
      option_map_or (max c.packet.ts) (latest_sent sends src) c.packet.ts,
      (
        cond-true (same_host c.packet.src src) (Some (option_map_or (max c.packet.ts) (latest_sent sends src) c.packet.ts)) (latest_sent sends src) here,
        omega (arith, most, times),
      ),
    )
latest_most (c ∷ sends) src (suc n) s at same =
    let rest = latest_most sends src n s at same in
    ⊎_elim
    (λ here. (let known = ap (λ o. option_map_or (max c.packet.ts) o c.packet.ts) rest.1.0 in
    let most = rest.1.1 in (
      option_map_or (max c.packet.ts) (latest_sent sends src) c.packet.ts,
      (
        cond-true (same_host c.packet.src src) (Some (option_map_or (max c.packet.ts) (latest_sent sends src) c.packet.ts)) (latest_sent sends src) here,
        omega (arith, known, most),
      ),
    )))
    (λ other. (rest.0, (cond-false (same_host c.packet.src src) (Some (option_map_or (max c.packet.ts) (latest_sent sends src) c.packet.ts)) (latest_sent sends src) other ∙ rest.1.0, rest.1.1)))
    (cases_Bool (same_host c.packet.src src))

pub next_is_unsent : NextIsUnsent
next_is_unsent sends now p is n s at src ts =
    let latest = latest_most sends p.src n s at src in
    (let next : p.ts ≡ max now (latest.0 + 1) = is ∙ ap (λ o. next_ts o now) latest.1.0 in
    let most = latest.1.1 in omega (arith, next, most, ts))
