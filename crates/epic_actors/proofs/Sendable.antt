-- What a world knows of a packet that its source doesn't refuse.
use Rattle.std.proofs.Common.{◌≡◌, ℕ, suc, ◌+◌, ◌-◌, ◌*◌, ◌<◌, ◌≤◌, ◌^◌, max, Bool, true, false, not, List, [], ◌∷◌, ◌++◌, length, get_or, map, Option, None, Some, Ok, Err, refl, ap, sym, subst, ◌∙◌, ⊎_elim, arith, mul-le-mul_right}
use Rattle.std.proofs.Math.Nat.{mul-le-mul_left}
use Rattle.std.specs.Prelude.{◌==◌, ◌&&◌, nat_lt, if◌then◌else◌, Result, IsTrue, IfSome, slice_get, option_map}
use Rattle.std.specs.List.{All}
use Rattle.std.specs.Option.{option_map_or}
use Rattle.std.proofs.lemmas.Bool.{and_parts, cases_Bool, cond-true, cond-false, eq-eqb, ltb-false}
use Rattle.std.proofs.lemmas.List.{length-map, take-append-le, take_all}
use Rattle.std.proofs.lemmas.List.Elements.{All-from_get_or, All-cons, All-nil}
use Rattle.std.proofs.lemmas.Option.{same_Some, slice_get-map, slice_get-get_or}
use Rattle.arrayvec.specs.ArrayVec.{ArrayVec}
use Rattle.epic_num.specs.declared.answer.Answer.TheVariants.{Sent as SentAnswer}
use Rattle.epic_num.specs.declared.answer.Refusal.TheVariants.{Full}
use Rattle.epic_num.specs.declared.hop.HopName.{HopName}
use Rattle.epic_num.specs.declared.hop.Level.{Level}
use Rattle.epic_num.specs.declared.name.HostId.{HostId}
use Rattle.epic_num.specs.declared.passed.Place.TheVariants.{Router}
use Rattle.epic_num.specs.declared.segment.Leg.{Leg}
use Rattle.epic_num.specs.declared.segment.SegHop.{SegHop}
use Rattle.epic_num.specs.declared.segment.Segment.{Segment}
use Rattle.epic_num.specs.declared.send_error.SendError.TheVariants.{WrongEnds, PayloadTooLong}
use Rattle.epic_num.specs.Chains.{Issue, issue_at, name_of, ancestor, chain, is_ended}
use Rattle.epic_num.specs.Levels.{first_byte, is_first_byte, is_tagged, width_of}
use Rattle.epic_num.specs.Messages.{IsHost}
use Rattle.epic_num.specs.Moments.{epoch_of}
use Rattle.epic_num.specs.Paths.{path_hops, path_start, path_end}
use Rattle.epic_num.specs.Same.{same_as, same_host}
use Rattle.epic_num.specs.Segments.{is_well_formed}
use Rattle.epic_num.specs.Tables.{first_row}
use Rattle.epic_num.proofs.SameLaws.{same_as-Decides}
use Rattle.epic_num.proofs.TableLaws.{all_passed, unless_ok}
use Rattle.epic_layout.specs.declared.wire.TheConstants.{MAX_PAYLOAD}
use Rattle.epic_layout.specs.Contents.{Contents, IsPacket, header_len, header_len_of, hop_count, unfilled}
use Rattle.epic_layout.specs.Layout.{parse}
use Rattle.epic_layout.specs.PathRoutes.{head_of, hop_head, route_of}
use Rattle.epic_layout.specs.Spelling.{spelling}
use Rattle.epic_layout.proofs.Faultless.{length-spelling}
use Rattle.epic_layout.proofs.Offsets.{width_most, dest_len_most}
use Rattle.epic_topo.specs.Lawful.{IsTopology}
use Rattle.epic_topo.specs.Network.{Network, has}
use Rattle.epic_fields.specs.Issues.{IssuesKept}
use Rattle.epic_beacon.specs.declared.beacon.Beacon.{Beacon}
use Rattle.epic_beacon.specs.declared.segment.SegmentError.{SegmentError}
use Rattle.epic_beacon.specs.Chained.{AreChained}
use Rattle.epic_beacon.specs.Segments.{name_of_hop, segment, IsSegment}
use Rattle.epic_beacon.specs.Told.{beacons_in}
use Rattle.epic_beacon.proofs.Formed.{segment_is}
use Rattle.epic_beacon.proofs.Issued.{issue_there}
use Rattle.epic_beacon.proofs.Told.{issues_in_beacons}
use Rattle.epic_path.proofs.WalkLaws.{joins_are_lawful}
use Rattle.epic_ends.specs.Admitting.{next_ts, end_rows, expiry_rows, key_rows, key_owners, send_rows, admitted}
use Rattle.epic_ends.specs.Sending.{no_hop, packet_over, sent_packet}
use Rattle.epic_ends.specs.SentPackets.{EachHop}
use Rattle.epic_ends.proofs.Legs.{length_count}
use Rattle.epic_ends.proofs.Made.{each_hop}
use Rattle.epic_ledger.specs.History.{History, emitted}
use Rattle.epic_ledger.specs.Facts.{Sent, facts_of, issues_in, sends_in}
use Rattle.epic_ledger.specs.Lawful.{FitsSend, IsLast}
use Rattle.epic_ledger.specs.OneMore.{with_emission, with_event}
use Rattle.epic_ledger.specs.declared.event.Event.{Event}
use Rattle.epic_ledger.specs.declared.event.Event.TheVariants as event
use Rattle.epic_audit.specs.Events.{IsUnsent}
use Rattle.epic_model.specs.Keeping.{Inv, IsSendable, latest_sent, sent_at}
use Rattle.epic_model.specs.Passing.{most_emitted}
use Rattle.epic_model.specs.State.{State}
use Rattle.epic_model.specs.Steps.{before_segments, segments_of, ts_next, has_keys, admission, emitted_by}
use Rattle.epic_model.specs.Traces.{refused}
use Rattle.epic_model.specs.World.{most_steps, IsWorld}
use Rattle.epic_model.proofs.InvSent.{inv_sends, next_is_unsent, sends_read}
use Rattle.epic_model.proofs.SentKept.{chain_of}
use Rattle.epic_model.proofs.Stepping.{later}
use Rattle.epic_model.proofs.Travelled.{named_issue}
use Rattle.epic_actors.specs.Sources.{IsLatest, IsPathOver, packet_len, most_bytes, state_at}
use Rattle.epic_actors.proofs.Latest.{latest_after}

-- ---- the segments of issues

-- each number has its segment
segments_there : (beacons : List Beacon) (numbers : List ℕ) (all : List Segment) → segments_of beacons numbers ≡ Ok all
    → map (segment beacons) numbers ≡ map (λ s. Ok s) all
unfolding segments_of
segments_there beacons [] all e = (let same : ◌≡◌ {A = List Segment} [] all = cc in ap (map (λ s. Ok s)) same)
segments_there beacons (number ∷ numbers) all e =
    by (segment beacons number) (segments_of beacons numbers) refl refl (λ others rest. segments_there beacons numbers others rest) e
  where
    by : (one : Result Segment SegmentError) (rest : Result (List Segment) ℕ) → segment beacons number ≡ one → segments_of beacons numbers ≡ rest
        → ((others : List Segment) → segments_of beacons numbers ≡ Ok others → map (segment beacons) numbers ≡ map (λ s. Ok s) others)
        → before_segments number one rest ≡ Ok all → map (segment beacons) (number ∷ numbers) ≡ map (λ s. Ok s) all
    by (Ok first) (Ok others) one rest again e =
        let same : first ∷ others ≡ all = cc in
        let tail = again others rest in
        (λ i. one i ∷ tail i) ∙ ap (map (λ s. Ok s)) same
    by (Ok first) (Err n) one rest again e = absurd (cc)
    by (Err x) rest one rest_is again e = absurd (cc)

-- what holds of each segment of an issue, holds of all of these
all_segments : (P : Segment → Type 0) (beacons : List Beacon) → ((n : ℕ) (s : Segment) → segment beacons n ≡ Ok s → P s)
    → (numbers : List ℕ) (segments : List Segment) → map (segment beacons) numbers ≡ map (λ s. Ok s) segments → All P segments
all_segments P beacons each [] [] e = All-nil P
all_segments P beacons each [] (s ∷ segments) e = absurd (cc)
all_segments P beacons each (n ∷ numbers) [] e = absurd (cc)
all_segments P beacons each (n ∷ numbers) (s ∷ segments) e = All-cons P s segments (each n s cc) (all_segments P beacons each numbers segments cc)

-- and of the hops of the legs over them
all_legs : (Q : SegHop → Type 0) (beacons : List Beacon) → ((n : ℕ) (s : Segment) → segment beacons n ≡ Ok s → All Q s.hops.items)
    → (numbers : List ℕ) (legs : List Leg) → map (segment beacons) numbers ≡ map (λ s. Ok s) (map (λ l. l.segment) legs) → EachHop Q legs
all_legs Q beacons each [] [] e = tt
all_legs Q beacons each [] (l ∷ legs) e = absurd (cc)
all_legs Q beacons each (n ∷ numbers) [] e = absurd (cc)
all_legs Q beacons each (n ∷ numbers) (l ∷ legs) e = (each n l.segment cc, all_legs Q beacons each numbers legs cc)

module _ (t : Network) (issues : List Issue) (chained : AreChained (beacons_in t issues)) (kept : IssuesKept t issues) where
  is_segment : (n : ℕ) (s : Segment) → segment (beacons_in t issues) n ≡ Ok s → IsSegment (beacons_in t issues) n s
  is_segment n s e = segment_is (beacons_in t issues) n s chained e

  ended_of : (n : ℕ) (s : Segment) → segment (beacons_in t issues) n ≡ Ok s → is_ended issues n ≡ true
  unfolding is_ended
  ended_of n s e =
      let is = is_segment n s e in
      let there = ap (λ l. issue_at l n) (sym (issues_in_beacons t issues)) ∙ issue_there (beacons_in t issues) n is.last is.is_last in
      ap (λ o. option_map_or (λ (i : Issue). i.name.body.out == 0) o false) there ∙ eq-eqb is.last.name.body.out 0 is.ended

  -- each hop is an issue's, whose AS is known
  hops_known : (n : ℕ) (s : Segment) → segment (beacons_in t issues) n ≡ Ok s → All (λ h. IsTrue (has t h.asn)) s.hops.items
  hops_known n s e =
      let c = chain_of t issues n kept (ended_of n s e) in
      let hops = s.hops.items in
      let names : map name_of_hop hops ≡ chain issues n = (is_segment n s e).names ∙ ap (λ l. chain l n) (issues_in_beacons t issues) in
      let many : length hops ≡ c.most = sym (length-map hops name_of_hop) ∙ (ap length names ∙ c.long) in
      All-from_get_or (λ (h : SegHop). IsTrue (has t h.asn)) hops no_hop
      (λ m h. (let d = get_or hops m no_hop in
      let named : name_of issues (ancestor issues n (c.most - 1 - m)) ≡ Some (name_of_hop d)
      = sym (c.each m (omega (arith, h, many))) ∙ (ap (λ l. slice_get l m) (sym names) ∙ (slice_get-map name_of_hop hops m ∙ ap (option_map name_of_hop) (slice_get-get_or hops m no_hop h))) in
      let i = named_issue issues (ancestor issues n (c.most - 1 - m)) (name_of_hop d) named in
      subst (λ (y : HopName). IsTrue (has t y.asn)) i.1.1 (kept (ancestor issues n (c.most - 1 - m)) i.0 i.1.0).known))

-- ---- timestamps

-- the greatest timestamp of a host is one of those that were sent
bounded : (sends : List Sent) (src : HostId) (most : ℕ) → ((n : ℕ) (x : Sent) → slice_get sends n ≡ Some x → x.packet.ts ≤ most)
    → (m : ℕ) → latest_sent sends src ≡ Some m → m ≤ most
bounded [] src most each m e = absurd (cc)
bounded (x ∷ sends) src most each m e =
    ⊎_elim
    (λ here. (let is = sym (cond-true (same_host x.packet.src src) (Some (option_map_or (max x.packet.ts) (latest_sent sends src) x.packet.ts)) (latest_sent sends src) here) ∙ e in
    let same = same_Some _ m is in
    subst (λ k. k ≤ most) same (greatest (latest_sent sends src) refl (λ k was. bounded sends src most (λ n y at. each (suc n) y at) k was))))
    (λ other. (let is = sym (cond-false (same_host x.packet.src src) (Some (option_map_or (max x.packet.ts) (latest_sent sends src) x.packet.ts)) (latest_sent sends src) other) ∙ e in
    bounded sends src most (λ n y at. each (suc n) y at) m is))
    (cases_Bool (same_host x.packet.src src))
  where
    greatest : (o : Option ℕ) → latest_sent sends src ≡ o → ((k : ℕ) → latest_sent sends src ≡ Some k → k ≤ most) → option_map_or (max x.packet.ts) o x.packet.ts ≤ most
    greatest None is again = each 0 x refl
    greatest (Some k) is again =
        let rest = again k is in
        let first = each 0 x refl in
        omega (arith, rest, first)

module _ (t : Network) (now steps : ℕ) (h : History) (w : IsWorld t (state_at now steps h)) (room : steps + 1 < most_steps) (src : HostId) where
  pub last_small : IfSome (latest_sent (sends_in h) src) (λ last. last < 2 ^ 63)
  last_small = by (latest_sent (sends_in h) src) refl
    where
      by : (o : Option ℕ) → latest_sent (sends_in h) src ≡ o → IfSome o (λ last. last < 2 ^ 63)
      by None e = tt
      by (Some m) e = (let few = bounded (sends_in h) src (now + steps) w.times m e in let fits = w.moment_fits in omega (arith, few, fits, room))

  next_small : next_ts (latest_sent (sends_in h) src) now < 2 ^ 64
  next_small = by (latest_sent (sends_in h) src) refl
    where
      by : (o : Option ℕ) → latest_sent (sends_in h) src ≡ o → next_ts o now < 2 ^ 64
      by None e = (let fits = w.moment_fits in omega (arith, fits))
      by (Some m) e = (let few = bounded (sends_in h) src (now + steps) w.times m e in let fits = w.moment_fits in omega (arith, few, fits, room))

-- ---- admission

-- what a source that doesn't refuse found
record Admitted (legs : List Leg) (dst : HostId) (payload : List ℕ) (next ts : ℕ) : Type 0 where
  leads : path_end legs ≡ dst.asn
  fits : length payload ≤ MAX_PAYLOAD
  ts_is : next ≡ ts

was_admitted : (t : Network) (now steps : ℕ) (h : History) (version : ℕ) (level : Level) (src dst : HostId) (payload : List ℕ) (legs : List Leg) (ts : ℕ)
    → admission t (state_at now steps h) version level src dst payload legs ≡ Ok ts → Admitted legs dst payload (next_ts (latest_sent (sends_in h) src) now) ts
unfolding admission admitted send_rows end_rows ts_next
was_admitted t now steps h version level src dst payload legs ts e =
    let s = state_at now steps h in
    let rows = send_rows (has_keys t s src) (epoch_of t.profile (ts_next s src)) legs (first_byte version level) src dst payload now in
    let told = unless_ok (first_row rows) (ts_next s src) ts e in
    let others = expiry_rows legs now ++ (if is_tagged (first_byte version level) then key_rows (has_keys t s src) (epoch_of t.profile (ts_next s src)) (key_owners legs dst) else []) in
    let ends = (all_passed (end_rows legs src dst payload) others told.0).0 in
    by (same_as (path_start legs) src.asn && same_as (path_end legs) dst.asn) (nat_lt MAX_PAYLOAD (length payload)) refl refl ends told.1
  where
    by : (a b : Bool) → (same_as (path_start legs) src.asn && same_as (path_end legs) dst.asn) ≡ a → nat_lt MAX_PAYLOAD (length payload) ≡ b
        → first_row ((not a, WrongEnds) ∷ (b, PayloadTooLong) ∷ []) ≡ None → next_ts (latest_sent (sends_in h) src) now ≡ ts → Admitted legs dst payload (next_ts (latest_sent (sends_in h) src) now) ts
    by true false ends short none is = record {
      leads = (same_as-Decides (path_end legs) dst.asn).0 (and_parts (same_as (path_start legs) src.asn) (same_as (path_end legs) dst.asn) ends).1;
      fits = ltb-false MAX_PAYLOAD (length payload) short;
      ts_is = is;
    }
    by true true ends short none is = absurd (cc)
    by false b ends short none is = absurd (cc)

-- ---- what is recorded

pub emitted_full : (s : State) (numbers : ArrayVec ℕ) (p : Contents) → nat_lt most_emitted (emitted s.history.emissions + length (spelling p)) ≡ true
    → emitted_by s numbers p ≡ refused s Full
unfolding emitted_by
emitted_full s numbers p full = cond-true (nat_lt most_emitted (emitted s.history.emissions + length (spelling p))) _ _ full

pub emitted_now : (s : State) (numbers : ArrayVec ℕ) (p : Contents) → nat_lt most_emitted (emitted s.history.emissions + length (spelling p)) ≡ false
    → emitted_by s numbers p ≡ record {
      answer = SentAnswer (length s.history.emissions + 1) p.ts;
      state = record s { steps = s.steps + 1; history = sent_at (s.steps + 1) s.history numbers p };
      passages = [];
    }
unfolding emitted_by
emitted_now s numbers p room = cond-false (nat_lt most_emitted (emitted s.history.emissions + length (spelling p))) _ _ room

-- ---- the packet

rows_few : (w n : ℕ) → w ≤ 19 → n ≤ 32 → w * n ≤ 608
rows_few w n narrow few = omega (arith, mul-le-mul_left w few, mul-le-mul_right 32 narrow)

-- how many bytes a packet has at most
few_bytes : (p : Contents) → IsPacket p → length (spelling p) ≤ most_bytes
unfolding header_len
few_bytes p is =
    let width = width_most p.first in
    let narrow : 13 + width_of p.first ≤ 19 = omega (arith, width) in
    let rows = rows_few (13 + width_of p.first) (hop_count p) narrow is.route.few_hops in
    let segments = is.route.few_segments in
    let payload = is.payload in
    let dest = dest_len_most p.first in
    let long = length-spelling p is in
    omega (arith, rows, segments, payload, dest, long)

at_end : {A : Type 0} (xs : List A) (x : A) → slice_get (xs ++ x ∷ []) (length xs) ≡ Some x
at_end [] x = refl
at_end (y ∷ xs) x = at_end xs x

module _ (t : Network) (now steps : ℕ) (h : History) (src : HostId) (numbers : ArrayVec ℕ) (legs : List Leg)
    (w : IsWorld t (state_at now steps h)) (over : IsPathOver t h src numbers.items legs) where
  ended : map (segment (beacons_in t (issues_in h.events))) numbers.items ≡ map (λ s. Ok s) over.segments
  ended = segments_there (beacons_in t (issues_in h.events)) numbers.items over.segments over.found

  pub hops_are_known : All (λ h. IsTrue (has t h.asn)) (path_hops legs)
  unfolding facts_of
  hops_are_known =
      let issues = issues_in h.events in
      let bs = beacons_in t issues in
      let kept = w.inv.sound.kept.issues in
      let chained = w.inv.chained in
      let formed = all_segments (λ s. IsTrue (is_well_formed s)) bs (λ n s e. (is_segment t issues chained kept n s e).well_formed) numbers.items over.segments ended in
      let few = all_segments (λ s. length s.hops.items ≤ 16) bs (λ n s e. (is_segment t issues chained kept n s e).few) numbers.items over.segments ended in
      let j = joins_are_lawful src.asn over.segments legs formed few over.path in
      let each = all_legs (λ h. IsTrue (has t h.asn)) bs (hops_known t issues chained kept) numbers.items legs
      (ended ∙ ap (map (λ s. Ok s)) (sym j.over)) in
      All-from_get_or (λ (h : SegHop). IsTrue (has t h.asn)) (path_hops legs) no_hop (λ m small. each_hop (λ h. IsTrue (has t h.asn)) legs m no_hop each small)

  module _ (version : ℕ) (level : Level) (dst : HostId) (payload : List ℕ) (ts : ℕ) (topology : IsTopology t) (room : steps + 1 < most_steps)
      (exists : is_first_byte (first_byte version level) ≡ true) (known : has t src.asn ≡ true) (src_fits : IsHost src) (dst_fits : IsHost dst)
      (taken : admission t (state_at now steps h) version level src dst payload legs ≡ Ok ts) where
    admitted_now : Admitted legs dst payload (next_ts (latest_sent (sends_in h) src) now) ts
    admitted_now = was_admitted t now steps h version level src dst payload legs ts taken

    sendable : IsSendable t h version level src dst ts numbers.items legs payload
    sendable = record {
      segments = over.segments;
      ended = ended;
      path = over.path;
      leads = admitted_now.leads;
      known = known;
      exists = exists;
      src_fits = src_fits;
      dst_fits = dst_fits;
      ts_fits = subst (λ k. k < 2 ^ 64) admitted_now.ts_is (next_small t now steps h w room src);
      payload_fits = admitted_now.fits;
    }

    inv : Inv t h now (steps + 1)
    inv = later t (state_at now steps h) w

    reads : IsPacket (sent_packet t legs version level src dst ts payload)
        × (parse (spelling (sent_packet t legs version level src dst ts payload)) ≡ sent_packet t legs version level src dst ts payload)
    reads = sends_read t h now (steps + 1) version level src dst ts numbers.items legs payload sendable inv

    -- how many bytes it has
    pub long_as : length (spelling (sent_packet t legs version level src dst ts payload)) ≡ packet_len legs (first_byte version level) payload
    unfolding packet_len header_len sent_packet packet_over unfilled route_of
    long_as =
        length-spelling (sent_packet t legs version level src dst ts payload) reads.0
        ∙ (λ i. header_len_of (first_byte version level) (length-map legs head_of i) ((length-map (path_hops legs) hop_head ∙ length_count legs) i) + length payload)

    -- it has few enough
    pub small_enough : length (spelling (sent_packet t legs version level src dst ts payload)) ≤ most_bytes
    small_enough = few_bytes (sent_packet t legs version level src dst ts payload) reads.0

    pub ts_is : (sent_packet t legs version level src dst ts payload).ts ≡ ts
    unfolding sent_packet packet_over unfilled
    ts_is = refl

    next_is : (sent_packet t legs version level src dst ts payload).ts ≡ next_ts (latest_sent (sends_in h) (sent_packet t legs version level src dst ts payload).src) now
    unfolding sent_packet packet_over unfilled
    next_is = sym admitted_now.ts_is

    unsent : IsUnsent (sends_in h) (sent_packet t legs version level src dst ts payload)
    unsent = next_is_unsent (sends_in h) now (sent_packet t legs version level src dst ts payload) next_is

    after : Inv t (sent_at (steps + 1) h numbers (sent_packet t legs version level src dst ts payload)) now (steps + 1)
    after = inv_sends t h now (steps + 1) version level src dst ts numbers legs payload topology sendable unsent inv

    -- the ledger takes it
    pub fits_now : FitsSend (h.emissions ++ record { place = Router src.asn 0; bytes = spelling (sent_packet t legs version level src dst ts payload) } ∷ []) (issues_in h.events) (length h.emissions + 1) numbers.items
    unfolding sent_at sent_packet packet_over unfilled
    fits_now =
        let e = event.Send (steps + 1) (length h.emissions + 1) numbers in
        let fit = after.sound.lawful.fit (length h.events) e (at_end h.events e) in
        subst (λ (before : List Event). FitsSend (h.emissions ++ record { place = Router src.asn 0; bytes = spelling (sent_packet t legs version level src dst ts payload) } ∷ []) (issues_in before) (length h.emissions + 1) numbers.items)
        (take-append-le (length h.events) h.events (e ∷ []) (omega arith) ∙ take_all (length h.events) h.events (omega arith)) fit

    pub recorded_is : with_event (with_emission h (record { place = Router src.asn 0; bytes = spelling (sent_packet t legs version level src dst ts payload) })) (event.Send (steps + 1) (length h.emissions + 1) numbers)
        ≡ sent_at (steps + 1) h numbers (sent_packet t legs version level src dst ts payload)
    unfolding sent_at sent_packet packet_over unfilled
    recorded_is = refl

    pub last_now : IsLast h.events (steps + 1)
    last_now = inv.sound.last

    -- and tells its timestamp as the host's latest
    pub latest_now : IsLatest src ts h (sent_at (steps + 1) h numbers (sent_packet t legs version level src dst ts payload))
    unfolding sent_packet packet_over unfilled
    latest_now = latest_after (steps + 1) now h numbers (sent_packet t legs version level src dst ts payload) inv.sound.lawful reads.1 next_is

pub ok_same : {X E : Type 0} (a b : X) → ◌≡◌ {A = Result X E} (Ok a) (Ok b) → a ≡ b
ok_same a b e = cc
