-- A ledger with two issues and a packet that was sent over them keeps what every ledger keeps, and the packet is honest.
use Rattle.std.proofs.Common.{◌≡◌, ◌≢◌, ℕ, zero, suc, ◌+◌, ◌*◌, ◌/◌, ◌%◌, ◌^◌, ◌<◌, ◌≤◌, ◌⊎◌, inl, inr, Bool, true, false, List, [], ◌∷◌, length, replicate, Some, refl, ap, sym, subst, ◌∙◌, arith}
use Rattle.std.specs.Prelude.{slice_get, slice_index, AllPairs}
use Rattle.std.proofs.lemmas.Bool.{cond_both}
use Rattle.std.proofs.lemmas.List.Elements.{All-cons, All-nil}
use Rattle.arrayvec.specs.ArrayVec.{ArrayVec}
use Rattle.epic_num.specs.declared.hop.HopName.{HopName}
use Rattle.epic_num.specs.declared.hop.Level.TheVariants.{L2}
use Rattle.epic_num.specs.declared.name.AsId.{AsId}
use Rattle.epic_num.specs.declared.name.HostId.{HostId}
use Rattle.epic_num.specs.declared.segment.Leg.{Leg}
use Rattle.epic_num.specs.declared.segment.SegKind.TheVariants.{Child}
use Rattle.epic_num.specs.declared.segment.Segment.{Segment}
use Rattle.epic_num.specs.Chains.{issue_at, name_of, ancestor, chain, last_names}
use Rattle.epic_num.specs.Levels.{first_byte, is_first_byte, level_number}
use Rattle.epic_num.specs.Paths.{path_hops, path_end, start_of, end_of, travelled, kind_of, are_lawful_kinds}
use Rattle.epic_num.specs.Segments.{first_hop, last_hop, first_as, last_as}
use Rattle.epic_num.specs.Moments.{is_expired, is_stale, is_early, valid_until}
use Rattle.epic_num.specs.Same.{same_as}
use Rattle.epic_layout.specs.Contents.{Contents, hop_count, unfilled}
use Rattle.epic_layout.specs.PathRoutes.{head_of, hop_head, route_of}
use Rattle.epic_layout.specs.Route.{body, hop, place, place_from, position, is_first}
use Rattle.epic_layout.specs.Spelling.{spelling}
use Rattle.epic_layout.proofs.Faultless.{length-spelling, header_len_most}
use Rattle.epic_topo.specs.declared.link_kind.LinkKind.TheVariants.{Parent}
use Rattle.epic_topo.specs.declared.network.Link.{Link}
use Rattle.epic_topo.specs.declared.network.System.{System}
use Rattle.epic_topo.specs.Lawful.{IsSystem, IsLink, IsTopology, HasOtherEnds}
use Rattle.epic_topo.specs.Network.{Network, has, is_core, neighbour, keeps_core_rule}
use Rattle.epic_fields.specs.Tags.{link}
use Rattle.epic_beacon.specs.declared.beacon.Beacon.{Beacon}
use Rattle.epic_beacon.specs.Issuing.{link_at, behind, kind_by, goes_on, first_name, next_name, beacon_of, stands_in, is_twin, twin, place_rows, originate_rows, onward_rows, extend_rows, originated, extended_from, extended}
use Rattle.epic_beacon.specs.Laws.{IsIssued}
use Rattle.epic_beacon.specs.Segments.{last_hops, segment_to, segment}
use Rattle.epic_beacon.specs.Store.{beacon_at}
use Rattle.epic_beacon.specs.Told.{kind_after, beacons_after, beacons_in}
use Rattle.epic_path.specs.Joins.{joined, walk, leg_from, hops_of, are_short, of_lawful_kinds}
use Rattle.epic_ends.specs.Sending.{sent_packet, packet_over}
use Rattle.epic_ledger.specs.History.{History, emitted}
use Rattle.epic_window.specs.Entries.{seen, count}
use Rattle.epic_ledger.specs.Facts.{Sent, as_issue, as_send, as_pass, issues_in, passes_in, packet_at, sent_name, sent_issue}
use Rattle.epic_ledger.specs.declared.event.Event.TheVariants as event
use Rattle.epic_router.specs.Checks.{is_turn}
use Rattle.epic_model.specs.Honest.{Honest, count_below, is_turn_at}
use Rattle.epic_model.specs.Keeping.{Inv, IsSendable, SomeSendIsHonest, store_in, sent_at}
use Rattle.epic_model.specs.Sends.{names_of}
use Rattle.epic_model.specs.Windows.{router_entry, host_entry}
use Rattle.epic_model.proofs.Grown.{packet_next}
use Rattle.epic_model.specs.Passing.{rolls, is_roll}
use Rattle.epic_model.proofs.InvKept.{inv_start}
use Rattle.epic_model.proofs.InvIssued.{inv_issues}
use Rattle.epic_model.proofs.InvSent.{inv_sends, sends_read}

-- ---- two ASes, and the link between them

abbrev above : AsId
above = record { 0 = 281474976710657 }

abbrev below : AsId
below = record { 0 = 281474976710658 }

abbrev upper : System
upper = record { asn = above; is_core = true; master = replicate 16 0 }

abbrev lower : System
lower = record { asn = below; is_core = false; master = replicate 16 0 }

abbrev between : Link
between = record { kind = Parent; a = record { asn = above; iface = 1 }; b = record { asn = below; iface = 1 } }

abbrev t : Network
t = record {
  profile = record { lifetime_us = 2000000; skew_us = 1000000; epoch_us = 86400000000; window = 16 };
  systems = upper ∷ lower ∷ [];
  links = between ∷ [];
}

zeros : (n i : ℕ) → slice_index (replicate n 0) i < 256
zeros zero i = omega arith
zeros (suc n) zero = omega arith
zeros (suc n) (suc i) = zeros n i

apart : above ≢ below
apart e = (let same = ap (λ (a : AsId). a.0) e in omega (arith, same))

systems_apart : AllPairs (λ (s : System) (r : System). s.asn ≢ r.asn) (upper ∷ lower ∷ [])
systems_apart zero (suc zero) d less within = apart
systems_apart i zero d less within = absurd (omega (arith, less))
systems_apart (suc i) (suc zero) d less within = absurd (omega (arith, less))
systems_apart i (suc (suc j)) d less within = absurd (omega (arith, within))

links_apart : AllPairs HasOtherEnds (between ∷ [])
links_apart i zero d less within = absurd (omega (arith, less))
links_apart i (suc j) d less within = absurd (omega (arith, within))

is_link : IsLink t between
unfolding has keeps_core_rule is_core same_as
is_link = record {
  a = record { known = refl; some_iface = omega arith; iface = omega arith };
  b = record { known = refl; some_iface = omega arith; iface = omega arith };
  joins_two = apart;
  rule = refl;
}

named : (n : ℕ) → n ≡ 281474976710657 ⊎ (n ≡ 281474976710658) → (n < 2 ^ 64) × (1 ≤ n / 2 ^ 48) × (1 ≤ n % 2 ^ 48)
named n (inl e) = (omega (arith, e), omega (arith, e), omega (arith, e))
named n (inr e) = (omega (arith, e), omega (arith, e), omega (arith, e))

topology : IsTopology t
topology = record {
  settings = record { some_lifetime = omega arith; lifetime = omega arith; skew = omega arith; some_epoch = omega arith; epoch = omega arith; seconds = refl; some_window = omega arith; window = omega arith };
  few_systems = omega arith;
  few_links = omega arith;
  each_system = All-cons IsSystem upper (lower ∷ []) (record { named = named above.0 (inl refl); key = refl; bytes = zeros 16 })
      (All-cons IsSystem lower [] (record { named = named below.0 (inr refl); key = refl; bytes = zeros 16 }) (All-nil IsSystem));
  other_systems = systems_apart;
  each_link = All-cons (IsLink t) between [] is_link (All-nil (IsLink t));
  other_ends = links_apart;
}

-- ---- two issues

abbrev begun : History
begun = record { events = []; emissions = [] }

abbrev name_1 : HopName
name_1 = record { asn = above; generation = 0; body = record { pos = 1; exp = 63; ts_path = 0; inn = 0; out = 1; link = replicate 8 0 } }

abbrev name_2 : HopName
name_2 = record { asn = below; generation = 0; body = record { pos = 2; exp = 63; ts_path = 0; inn = 1; out = 0; link = link t name_1 } }

abbrev beacon_1 : Beacon
beacon_1 = beacon_of t name_1 0 Child

abbrev beacon_2 : Beacon
beacon_2 = beacon_of t name_2 1 Child

abbrev once : History
once = record { events = event.Issue 0 1 name_1 0 ∷ []; emissions = [] }

abbrev twice : History
twice = record { events = event.Issue 0 1 name_1 0 ∷ event.Issue 0 2 name_2 1 ∷ []; emissions = [] }

issued_1 : IsIssued t (store_in t begun) 1 63 0 beacon_1
unfolding store_in beacons_in beacons_after originated originate_rows place_rows first_name twin is_core link_at neighbour kind_by is_roll same_as
issued_1 = inl (above, refl)

issued_2 : IsIssued t (store_in t once) 0 63 0 beacon_2
unfolding store_in beacons_in beacons_after kind_after extended extended_from extend_rows onward_rows place_rows next_name behind twin is_twin link_at neighbour kind_by goes_on is_roll as_issue beacon_at beacon_of stands_in chain last_names issue_at is_expired valid_until same_as
issued_2 = inr (1, refl)

inv_1 : Inv t once 0 0
unfolding beacon_of as_issue
inv_1 = inv_issues t begun 0 0 1 63 beacon_1 topology (omega arith) (omega arith) (omega arith) issued_1 (inv_start t)

inv_2 : Inv t twice 0 0
unfolding beacon_of as_issue
inv_2 = inv_issues t once 0 0 0 63 beacon_2 topology (omega arith) (omega arith) (omega arith) issued_2 inv_1

-- ---- a packet over them

abbrev src : HostId
src = record { asn = above; host = 1 }

abbrev dst : HostId
dst = record { asn = below; host = 2 }

abbrev down : Segment
down = segment_to (beacons_in t (issues_in twice.events)) 2 beacon_2

abbrev legs : List Leg
legs = record { segment = down; against = false } ∷ []

abbrev packet : Contents
packet = sent_packet t legs 1 L2 src dst 0 []

abbrev numbers : ArrayVec ℕ
numbers = record { items = 2 ∷ [] }

sendable : IsSendable t twice 1 L2 src dst 0 (2 ∷ []) legs []
unfolding segment beacons_in beacons_after kind_after beacon_of beacon_at kind_by link_at neighbour same_as as_issue segment_to last_hops joined walk leg_from hops_of are_short of_lawful_kinds first_hop last_hop first_as last_as start_of end_of kind_of are_lawful_kinds path_end first_byte is_first_byte level_number has
sendable = record {
  segments = down ∷ [];
  ended = refl;
  path = refl;
  leads = refl;
  known = refl;
  exists = refl;
  src_fits = record { asn = omega arith; host = omega arith };
  dst_fits = record { asn = omega arith; host = omega arith };
  ts_fits = omega arith;
  payload_fits = omega arith;
}

abbrev sent : History
sent = sent_at 0 twice numbers packet

inv_3 : Inv t sent 0 0
unfolding as_send
inv_3 = inv_sends t twice 0 0 1 L2 src dst 0 numbers legs [] topology sendable (λ n s at. absurd (cc)) inv_2

-- ---- it is honest

-- what is true of 0 and of 1 is true below 2
both : (P : ℕ → Type 0) → P 0 → P 1 → (j : ℕ) → j < 2 → P j
both P zeroth first zero small = zeroth
both P zeroth first (suc zero) small = first
both P zeroth first (suc (suc j)) small = absurd (omega (arith, small))

two_hops : hop_count packet ≡ 2
unfolding sent_packet packet_over unfilled route_of path_hops travelled segment_to last_hops beacon_at beacons_in beacons_after as_issue beacon_of
two_hops = refl

abbrev sent_as : Contents → Sent
sent_as q = record { emission = 1; segments = 2 ∷ []; packet = q }

reads : packet_at sent.emissions 1 ≡ packet
unfolding sent_at
reads = packet_next [] _ ∙ (sends_read t twice 0 0 1 L2 src dst 0 (2 ∷ []) legs [] sendable inv_2).1

few : (test : ℕ → Bool) (n : ℕ) → count_below test n ≤ n
unfolding count_below
few test zero = omega arith
few test (suc n) =
    (let rest = few test n in
    cond_both (test n) (count_below test n + 1) (count_below test n) (λ m. m ≤ suc n) (λ _. omega (arith, rest)) (λ _. omega (arith, rest)))

-- no window has anything
none_there : (a : AsId) → count t.profile [] 0 a ≡ 0
unfolding count
none_there a = refl

valid_0 : is_expired (body packet.route 0).ts_path (body packet.route 0).exp 0 ≡ false
unfolding sent_packet packet_over unfilled route_of hop_head path_hops travelled segment_to last_hops beacon_at beacons_in beacons_after as_issue beacon_of body hop place place_from position is_expired valid_until head_of first_hop
valid_0 = refl

valid_1 : is_expired (body packet.route 1).ts_path (body packet.route 1).exp 0 ≡ false
unfolding sent_packet packet_over unfilled route_of hop_head path_hops travelled segment_to last_hops beacon_at beacons_in beacons_after as_issue beacon_of body hop place place_from position is_expired valid_until head_of first_hop
valid_1 = refl

generations : (j : ℕ) → j < 2 → (names_of (issues_in sent.events) (sent_as packet) j).generation ≡ rolls sent.events (names_of (issues_in sent.events) (sent_as packet) j).asn
unfolding sent_at sent_packet packet_over unfilled route_of hop_head path_hops travelled segment_to last_hops beacon_at beacons_in beacons_after as_issue beacon_of body hop place place_from position head_of first_hop names_of sent_name sent_issue name_of ancestor issue_at is_roll
generations j small = both (λ k. (names_of (issues_in sent.events) (sent_as packet) k).generation ≡ rolls sent.events (names_of (issues_in sent.events) (sent_as packet) k).asn) refl refl j small

turns_are : count_below (is_turn packet) (hop_count packet) ≡ 2
unfolding sent_packet packet_over unfilled route_of hop_head path_hops travelled segment_to last_hops beacon_at beacons_in beacons_after as_issue beacon_of place place_from position head_of first_hop count_below is_turn is_first
turns_are = refl

honest_packet : Honest t sent 0 packet (names_of (issues_in sent.events) (sent_as packet))
unfolding sent_at seen count router_entry host_entry is_stale is_early sent_packet packet_over unfilled is_roll emitted
honest_packet = record {
  valid = λ j h. both (λ k. is_expired (body packet.route k).ts_path (body packet.route k).exp 0 ≡ false) valid_0 valid_1 j (subst (λ n. j < n) two_hops h);
  in_force = λ j h. inl (generations j (subst (λ n. j < n) two_hops h));
  not_stale = λ _. refl;
  not_early = λ _. refl;
  unseen = λ _ j h turn. refl;
  room = λ _ j h turn. (let most = few (is_turn_at packet (names_of (issues_in sent.events) (sent_as packet)) (names_of (issues_in sent.events) (sent_as packet) j).asn) (hop_count packet) in omega (arith, most, two_hops));
  unseen_there = λ _. refl;
  room_there = λ _. omega arith;
  emissions = (let is = (sends_read t twice 0 0 1 L2 src dst 0 (2 ∷ []) legs [] sendable inv_2).0 in
      let long = length-spelling packet is in
      let header = header_len_most packet is in
      let product : count_below (is_turn packet) (hop_count packet) * length (spelling packet) ≡ 2 * length (spelling packet) = ap (λ c. c * length (spelling packet)) turns_are in
      omega (arith, long, header, is.payload, product));
}

no_passes : passes_in sent ≡ []
unfolding sent_at as_pass
no_passes = refl

none_at : {X : Type 0} (n : ℕ) (x : X) → slice_get [] n ≡ Some x → ⊥
none_at n x e = absurd (cc)

pub some_send_is_honest : SomeSendIsHonest
unfolding sent_at as_send
some_send_is_honest = record {
  network = t;
  history = sent;
  now = 0;
  step = 0;
  send = sent_as (packet_at sent.emissions 1);
  topology = topology;
  inv = inv_3;
  sent = refl;
  honest = subst (λ q. Honest t sent 0 q (names_of (issues_in sent.events) (sent_as q))) (sym reads) honest_packet;
  none_passed = λ n w at. absurd (none_at n w (subst (λ l. slice_get l n ≡ Some w) no_passes at));
}
