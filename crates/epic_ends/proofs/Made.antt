-- The packet that a source makes over a path.
use Rattle.std.proofs.Common.{◌≡◌, ◌≢◌, ℕ, zero, suc, ◌+◌, ◌-◌, ◌^◌, ◌<◌, ◌≤◌, ◌⊎◌, inl, inr, Bool, true, false, List, [], ◌∷◌, ◌++◌, length, get_or, take, replicate, map, Option, None, Some, refl, ap, sym, subst, ◌∙◌, ⊎_elim, arith}
use Rattle.std.specs.Prelude.{◌==◌, ◌||◌, IsTrue, slice_get, slice_index_or, nat_lt, if◌then◌else◌}
use Rattle.std.specs.List.{All, range_with_len}
use Rattle.std.specs.Option.{option_map_or}
use Rattle.std.proofs.lemmas.Bool.{cond-true, cond-false, cond_both, cases_Bool, eqb-true, or_cases}
use Rattle.std.proofs.lemmas.List.{same_lists, get_or-map, length-map, length-replicate}
use Rattle.std.proofs.lemmas.List.Elements.{All-from_get_or, All-get_or, All-map, All-weaker}
use Rattle.std.proofs.lemmas.List.FromFn.{length-map-range_with_len, get_or-map-range_with_len}
use Rattle.std.proofs.lemmas.Option.{same_Some, slice_get-get_or, get_or_from_slice_get, slice_get_within}
use Rattle.epic_num.specs.declared.hop.HopName.{HopName}
use Rattle.epic_num.specs.declared.hop.Level.{Level}
use Rattle.epic_num.specs.declared.hop.Level.TheVariants.{L0, L1, L2, L3}
use Rattle.epic_num.specs.declared.name.HostId.{HostId}
use Rattle.epic_num.specs.declared.segment.Leg.{Leg}
use Rattle.epic_num.specs.declared.segment.SegHop.{SegHop}
use Rattle.epic_num.specs.declared.segment.SegKind.TheVariants.{Core}
use Rattle.epic_num.specs.Bodies.{IsBody}
use Rattle.epic_num.specs.Levels.{first_byte, is_first_byte, is_tagged, level_of, level_number, width_of}
use Rattle.epic_num.specs.Messages.{IsHost}
use Rattle.epic_num.specs.Paths.{is_lawful, path_hops, path_start, path_end}
use Rattle.epic_num.specs.Segments.{first_hop, is_well_formed}
use Rattle.epic_num.proofs.PathLaws as paths
use Rattle.epic_num.proofs.PathLaws.{IsPath, lawful, well_formed}
use Rattle.epic_layout.specs.declared.head.HopPlace.{HopPlace}
use Rattle.epic_layout.specs.declared.head.HopHead.{HopHead}
use Rattle.epic_layout.specs.declared.wire.TheConstants.{MAX_PAYLOAD, DEST_LEN}
use Rattle.epic_layout.specs.declared.head.SegmentHead.{SegmentHead}
use Rattle.epic_layout.specs.Contents.{Contents, IsPacket, IsRoute, IsSegment, IsHop, hop_count, field, unfilled}
use Rattle.epic_layout.specs.PathRoutes.{head_of, hop_head, route_of}
use Rattle.epic_layout.specs.Route.{place, place_from, position, is_last, hop, body, hops_of, no_hop as no_packet_hop}
use Rattle.epic_layout.specs.Spelling.{spelling, update_count, dest_message}
use Rattle.epic_layout.proofs.OneSpelling.{packets_are_spelled}
use Rattle.epic_topo.specs.Network.{Network}
use Rattle.epic_fields.specs.Formulas.{dest_tag}
use Rattle.epic_fields.specs.PacketTags.{shared_key, field_over, update_over, field_of, update_of, dest_name, dest_field_of}
use Rattle.epic_fields.specs.Tags.{sigma}
use Rattle.epic_fields.proofs.Widths.{length-field_over, length-sigma, length-dest_field}
use Rattle.epic_router.proofs.Stamps.{SameStamp, field_stamp, update_stamp}
use Rattle.epic_ends.specs.Sending.{no_hop, hop_of_path, name_at, fields_over, updates_over, packet_over, sent_packet, made_packet}
use Rattle.epic_ends.specs.SentPackets.{EachHop, HaveSigmas, SentPacketsAreMade, HasFields, MadePacketsHaveFields, AreInRange, MadePacketsAreSpelled}
use Rattle.epic_ends.specs.Ways.{IsMade, updates_of}
use Rattle.epic_ends.proofs.Legs.{HaveHops, StandsOn, stands_on, hop_at, length_hops, length_count, length_travelled, starts_at, start_path, ends_at, switches_at, against_is}
use Rattle.epic_beacon.specs.Segments.{name_of_hop}

-- ---- the packet's parts

pub count_within : (first hops : ℕ) → update_count first hops ≤ hops
unfolding update_count
count_within first hops = cond_both (level_number (level_of first) == 3) hops 0 (λ n. n ≤ hops) (λ e. omega arith) (λ e. omega arith)

pub length_route : (legs : List Leg) → length (route_of legs).hops ≡ length (path_hops legs)
unfolding route_of
length_route legs = length-map (path_hops legs) hop_head

-- what holds of each hop holds of hop j
each_at : (P : SegHop → Type 0) (legs : List Leg) (k : ℕ) (leg : Leg) → EachHop P legs → slice_get legs k ≡ Some leg → All P leg.segment.hops.items
each_at P [] k leg each there = absurd (cc)
each_at P (l ∷ legs) zero leg each there = subst (λ (m : Leg). All P m.segment.hops.items) (same_Some l leg there) each.0
each_at P (l ∷ legs) (suc k) leg each there = each_at P legs k leg each.1 there

position_in : (p : HopPlace) → p.index < p.head.count → (1 ≤ position p) × (position p ≤ p.head.count)
unfolding position
position_in p h =
    ⊎_elim
    (λ e. (let is = cond-true p.head.against (p.head.count - p.index) (p.index + 1) e in (omega (arith, is, h), omega (arith, is, h))))
    (λ e. (let is = cond-false p.head.against (p.head.count - p.index) (p.index + 1) e in (omega (arith, is, h), omega (arith, is, h))))
    (cases_Bool p.head.against)

count_of : (leg : Leg) → (head_of leg).count ≡ length leg.segment.hops.items
unfolding head_of
count_of leg = refl

-- hop j of a path, by its place in its leg
pub record AtPlace (legs : List Leg) (j : ℕ) (d : SegHop) : Type 0 where
  pub leg : Leg
  pub k : ℕ
  pub there : slice_get legs k ≡ Some leg
  pub segment_is : (place (map head_of legs) j).segment ≡ k
  pub head_is : (place (map head_of legs) j).head ≡ head_of leg
  pub least : 1 ≤ position (place (map head_of legs) j)
  pub most : position (place (map head_of legs) j) ≤ length leg.segment.hops.items
  pub hop_is : get_or (path_hops legs) j d ≡ get_or leg.segment.hops.items (position (place (map head_of legs) j) - 1) d

pub at_place : (legs : List Leg) (j : ℕ) (d : SegHop) → j < length (path_hops legs) → AtPlace legs j d
unfolding place
at_place legs j d h =
    let s = stands_on legs 0 j d h in
    let p = place_from 0 (map head_of legs) j in
    let count : p.head.count ≡ length s.leg.segment.hops.items = ap (λ (c : SegmentHead). c.count) s.head_is ∙ count_of s.leg in
    let inside = s.inside in
    let within = position_in p (omega (arith, inside, count)) in
    record {
      leg = s.leg;
      k = s.k;
      there = s.there;
      segment_is = (let same = s.segment_is in omega (arith, same));
      head_is = s.head_is;
      least = within.0;
      most = omega (arith, within.1, count);
      hop_is = s.hop_is ∙ hop_at s.leg p d s.head_is inside;
    }

pub each_hop : (P : SegHop → Type 0) (legs : List Leg) (j : ℕ) (d : SegHop) → EachHop P legs → j < length (path_hops legs) → P (get_or (path_hops legs) j d)
each_hop P legs j d each h =
    let at = at_place legs j d h in
    subst P (sym at.hop_is)
    (All-get_or P at.leg.segment.hops.items (position (place (map head_of legs) j) - 1) d (let least = at.least in let most = at.most in omega (arith, least, most))
    (each_at P legs at.k at.leg each at.there))

-- what stands in the place of a leg that isn't there
no_leg : Leg
no_leg = record { segment = record { kind = Core; hops = record { items = [] } }; against = false }

all_have : (legs : List Leg) → ((k : ℕ) (leg : Leg) → slice_get legs k ≡ Some leg → 0 < length leg.segment.hops.items) → HaveHops legs
all_have [] each = tt
all_have (leg ∷ legs) each = (each 0 leg refl, all_have legs (λ k l there. each (suc k) l there))

starts : (legs : List Leg) → HaveHops legs → 1 ≤ length legs → (get_or (path_hops legs) 0 no_hop).asn ≡ path_start legs
starts [] have some = absurd (omega (arith, some))
starts (leg ∷ legs) have some = starts_at leg legs no_hop have ∙ sym (start_path leg legs)

ends : (legs : List Leg) (j : ℕ) → HaveHops legs → 1 ≤ length legs → j + 1 ≡ length (path_hops legs) → (get_or (path_hops legs) j no_hop).asn ≡ path_end legs
ends [] j have some last = absurd (omega (arith, some))
ends (leg ∷ legs) j have some last = ends_at leg legs no_hop j have last

hop_fits : (h : SegHop) → IsBody h.body → IsHop (hop_head h)
unfolding hop_head
hop_fits h fits = record { exp = fits.exp; inn = fits.inn; out = fits.out; link = fits.link }

-- two ways to make tags that agree at the hops of the path
pub same_packet : (t : Network) (f g : SegHop → List ℕ) (legs : List Leg) (first : ℕ) (src dst : HostId) (ts : ℕ) (payload : List ℕ)
    → ((j : ℕ) → j < length (path_hops legs) → f (hop_of_path legs j) ≡ g (hop_of_path legs j))
    → packet_over t f legs first src dst ts payload ≡ packet_over t g legs first src dst ts payload
unfolding packet_over fields_over updates_over unfilled
same_packet t f g legs first src dst ts payload agree =
    let p = unfilled first src dst ts (route_of legs) payload in
    let n = length (route_of legs).hops in
    let fields = by n (λ k. λ s. field_over (shared_key t (hop_of_path legs k).asn p) s p k) (omega arith) in
    let updates = by (update_count first n) (λ k. λ s. update_over (shared_key t (hop_of_path legs k).asn p) s p k) (count_within first n) in
    λ i. record p {
      fields = fields i;
      dest_field = if is_tagged first then dest_field_of t p (updates i) else p.dest_field;
    }
  where
    by : (m : ℕ) (tag : ℕ → List ℕ → List ℕ) → m ≤ length (route_of legs).hops
        → map (λ k. tag k (f (hop_of_path legs k))) (range_with_len 0 m) ≡ map (λ k. tag k (g (hop_of_path legs k))) (range_with_len 0 m)
    by m tag most =
        same_lists _ _
        (length-map-range_with_len (λ k. tag k (f (hop_of_path legs k))) 0 m ∙ sym (length-map-range_with_len (λ k. tag k (g (hop_of_path legs k))) 0 m))
        (λ k d h. (let small : k < m = omega (arith, h, length-map-range_with_len (λ k. tag k (f (hop_of_path legs k))) 0 m) in
        get_or-map-range_with_len (λ k. tag k (f (hop_of_path legs k))) 0 m k k d small (omega arith)
        ∙ (ap (tag k) (agree k (omega (arith, small, most, length_route legs)))
        ∙ sym (get_or-map-range_with_len (λ k. tag k (g (hop_of_path legs k))) 0 m k k d small (omega arith)))))

pub sent_packets_are_made : SentPacketsAreMade
unfolding sent_packet made_packet hop_of_path
sent_packets_are_made t legs version level src dst ts payload sigmas =
    same_packet t (λ h. h.sigma) (λ h. sigma t (name_of_hop h)) legs (first_byte version level) src dst ts payload
    (λ j h. each_hop (λ s. s.sigma ≡ sigma t (name_of_hop s)) legs j no_hop sigmas h)

module _ (t : Network) (legs : List Leg) (first : ℕ) (src dst : HostId) (ts : ℕ) (payload : List ℕ) where
  bare : Contents
  bare = unfilled first src dst ts (route_of legs) payload

  p : Contents
  p = made_packet t legs first src dst ts payload

  n : ℕ
  n = length (path_hops legs)

  stamped : SameStamp bare p
  unfolding bare p made_packet packet_over
  stamped = record { first = refl; ts = refl; src = refl }

  hops_are : hop_count p ≡ n
  unfolding p n made_packet packet_over unfilled
  hops_are = length_route legs

  field_is : (j : ℕ) → j < n → field p j ≡ field_of t (name_at legs j) p j
  unfolding field p n bare made_packet packet_over fields_over name_at field_of unfilled
  field_is j h =
      let q = unfilled first src dst ts (route_of legs) payload in
      let tag : ℕ → List ℕ = λ k. field_over (shared_key t (hop_of_path legs k).asn q) (sigma t (name_of_hop (hop_of_path legs k))) q k in
      get_or-map-range_with_len tag 0 (length (route_of legs).hops) j j [] (omega (arith, h, length_route legs)) (omega arith)
      ∙ sym (field_stamp t (name_of_hop (hop_of_path legs j)) q (made_packet t legs first src dst ts payload) j stamped)

  segments_are : p.route.segments ≡ map head_of legs
  unfolding p made_packet packet_over unfilled route_of
  segments_are = refl

  body_at : (j : ℕ) → j < n → (name_at legs j).body ≡ (get_or (path_hops legs) j no_hop).body
  unfolding name_at hop_of_path
  body_at j h = refl

  asn_at : (j : ℕ) → (name_at legs j).asn ≡ (get_or (path_hops legs) j no_hop).asn
  unfolding name_at hop_of_path
  asn_at j = refl

  update_is : (j : ℕ) → update_over (shared_key t (hop_of_path legs j).asn bare) (sigma t (name_of_hop (hop_of_path legs j))) bare j ≡ update_of t (name_at legs j) p j
  unfolding bare p name_at update_of
  update_is j = sym (update_stamp t (name_of_hop (hop_of_path legs j)) bare p j stamped)

  updates_are : updates_over t (λ h. sigma t (name_of_hop h)) legs bare ≡ updates_of t p (name_at legs)
  unfolding updates_over updates_of p bare made_packet packet_over unfilled
  updates_are =
      let m = update_count first (length (route_of legs).hops) in
      same_lists _ _
      (length-map-range_with_len (λ k. update_over (shared_key t (hop_of_path legs k).asn bare) (sigma t (name_of_hop (hop_of_path legs k))) bare k) 0 m
      ∙ sym (length-map-range_with_len (λ k. update_of t (name_at legs k) p k) 0 m))
      (λ k d h. (let small : k < m = omega (arith, h, length-map-range_with_len (λ k. update_over (shared_key t (hop_of_path legs k).asn bare) (sigma t (name_of_hop (hop_of_path legs k))) bare k) 0 m) in
      get_or-map-range_with_len (λ k. update_over (shared_key t (hop_of_path legs k).asn bare) (sigma t (name_of_hop (hop_of_path legs k))) bare k) 0 m k k d small (omega arith)
      ∙ (update_is k ∙ sym (get_or-map-range_with_len (λ k. update_of t (name_at legs k) p k) 0 m k k d small (omega arith)))))

  dest_is : is_tagged p.first ≡ true → p.dest_field ≡ dest_field_of t p (updates_of t p (name_at legs))
  unfolding p bare made_packet packet_over unfilled dest_field_of dest_name dest_tag dest_message
  dest_is tagged =
      cond-true (is_tagged first) (dest_field_of t bare (updates_over t (λ h. sigma t (name_of_hop h)) legs bare)) bare.dest_field tagged
      ∙ ap (dest_field_of t bare) updates_are

  made_of : IsMade t p (name_at legs)
  unfolding p n made_packet packet_over unfilled
  made_of = record {
    begins = refl;
    fields = λ j h. field_is j (omega (arith, h, length_route legs));
    dest_field = dest_is;
  }

  module _ (is : IsPath legs) where
    segment_of : (k : ℕ) (leg : Leg) → slice_get legs k ≡ Some leg → paths.IsSegment leg.segment.hops.items
    segment_of k leg there =
        let inside = slice_get_within legs k leg there in
        let same = get_or_from_slice_get legs k leg leg there in
        well_formed leg.segment (ap (λ (l : Leg). is_well_formed l.segment) (sym same) ∙ is.segments k leg inside)

    short_of : (k : ℕ) (leg : Leg) → slice_get legs k ≡ Some leg → length leg.segment.hops.items ≤ 16
    short_of k leg there =
        let inside = slice_get_within legs k leg there in
        let same = get_or_from_slice_get legs k leg leg there in
        let short = is.short k leg inside in
        let long = ap (λ (l : Leg). length l.segment.hops.items) same in
        omega (arith, short, long)

    have_hops : HaveHops legs
    have_hops = all_have legs (λ k leg there. (let long = (segment_of k leg there).long in omega (arith, long)))

    ts_of : (leg : Leg) → paths.IsSegment leg.segment.hops.items → (head_of leg).ts_path ≡ (get_or leg.segment.hops.items 0 no_hop).body.ts_path
    unfolding head_of first_hop
    ts_of leg w = (let long = w.long in ap (λ (o : Option SegHop). option_map_or (λ h. h.body.ts_path) o 0) (slice_get-get_or leg.segment.hops.items 0 no_hop (omega (arith, long))))

    body_is : (j : ℕ) → j < n → (name_at legs j).body ≡ body p.route j
    unfolding n p body made_packet packet_over unfilled route_of hop hop_head
    body_is j h =
        let at = at_place legs j no_hop h in
        let place_j = place (map head_of legs) j in
        let w = segment_of at.k at.leg at.there in
        let least = at.least in
        let most = at.most in
        let inside : position place_j - 1 < length at.leg.segment.hops.items = omega (arith, least, most) in
        let packet_hop = get_or-map hop_head (path_hops legs) j no_hop no_packet_hop h in
        let pos = ap (λ (s : SegHop). s.body.pos) at.hop_is ∙ w.position (position place_j - 1) no_hop inside in
        let time = ap (λ (s : SegHop). s.body.ts_path) at.hop_is ∙ w.ts_path (position place_j - 1) no_hop inside in
        let head = ap (λ (c : SegmentHead). c.ts_path) at.head_is ∙ ts_of at.leg w in
        let exact : (get_or (path_hops legs) j no_hop).body.pos ≡ position place_j = omega (arith, pos, least) in
        body_at j h ∙ (λ i. record {
          pos = exact i;
          exp = (ap (λ (c : HopHead). c.exp) (sym packet_hop)) i;
          ts_path = (time ∙ sym head) i;
          inn = (ap (λ (c : HopHead). c.inn) (sym packet_hop)) i;
          out = (ap (λ (c : HopHead). c.out) (sym packet_hop)) i;
          link = (ap (λ (c : HopHead). c.link) (sym packet_hop)) i;
        })

    pub has_fields : HasFields t legs (made_packet t legs first src dst ts payload)
    unfolding n p place
    has_fields =
        let have = have_hops in
        record {
          made = made_of;
          bodies = λ j h. body_is j (omega (arith, h, hops_are));
          starts = asn_at 0 ∙ starts legs have (let some = is.some in some);
          ends = λ j h. asn_at j ∙ ends legs j have (let some = is.some in some) (h ∙ hops_are);
          switches = λ j h last.
              asn_at (j + 1) ∙ (switches_at legs 0 no_hop j have is.joined (omega (arith, h, hops_are)) (ap (λ ss. is_last (place_from 0 ss j)) (sym segments_are) ∙ last) ∙ sym (asn_at j));
        }

  -- ---- within the limits

  module _ (is : IsPath legs) (exists : is_first_byte first ≡ true) (src_fits : IsHost src) (dst_fits : IsHost dst) (ts_fits : ts < 2 ^ 64) (few : length payload ≤ MAX_PAYLOAD)
      (in_range : AreInRange legs) where
    segment_fits : (k : ℕ) (leg : Leg) → slice_get legs k ≡ Some leg → IsSegment (head_of leg)
    segment_fits k leg there =
        let w = segment_of is k leg there in
        let long = w.long in
        let ranges = each_at (λ h. IsBody h.body) legs k leg in_range there in
        record {
          least = omega (arith, long, count_of leg);
          most = (let short = short_of is k leg there in omega (arith, short, count_of leg));
          ts_path = (let all = All-get_or (λ (h : SegHop). IsBody h.body) leg.segment.hops.items 0 no_hop (omega (arith, long)) ranges in
              let fits = all.ts_path in let same = ts_of is leg w in omega (arith, fits, same));
        }

    route_fits : IsRoute (route_of legs)
    unfolding route_of
    route_fits = record {
      some_segment = (let some = is.some in omega (arith, some, length-map legs head_of));
      few_segments = (let most = is.few in omega (arith, most, length-map legs head_of));
      segments = All-map IsSegment head_of legs (All-from_get_or (λ l. IsSegment (head_of l)) legs no_leg
          (λ k h. segment_fits k (get_or legs k no_leg) (slice_get-get_or legs k no_leg h)));
      counted = sym (length_hops legs) ∙ sym (length-map (path_hops legs) hop_head);
      few_hops = (let most = is.hops in omega (arith, most, length_count legs, length-map (path_hops legs) hop_head));
      hops = All-map IsHop hop_head (path_hops legs) (All-from_get_or (λ h. IsHop (hop_head h)) (path_hops legs) no_hop
          (λ j h. hop_fits (get_or (path_hops legs) j no_hop) (each_hop (λ s. IsBody s.body) legs j no_hop in_range h)));
    }

    tag : ℕ → List ℕ
    tag k = field_over (shared_key t (hop_of_path legs k).asn bare) (sigma t (name_of_hop (hop_of_path legs k))) bare k

    pub is_packet : IsPacket (made_packet t legs first src dst ts payload)
    unfolding bare made_packet packet_over fields_over unfilled tag
    is_packet = record {
      exists = exists;
      src = src_fits;
      dst = dst_fits;
      ts = ts_fits;
      route = route_fits;
      current = omega arith;
      counted = length-map-range_with_len tag 0 (length (route_of legs).hops);
      fields = All-from_get_or (λ v. length v ≡ width_of first) (map tag (range_with_len 0 (length (route_of legs).hops))) []
          (λ j h. (let small : j < length (route_of legs).hops = omega (arith, h, length-map-range_with_len tag 0 (length (route_of legs).hops)) in
          ap length (get_or-map-range_with_len tag 0 (length (route_of legs).hops) j j [] small (omega arith))
          ∙ length-field_over (shared_key t (hop_of_path legs j).asn bare) (sigma t (name_of_hop (hop_of_path legs j))) bare j exists (length-sigma t (name_of_hop (hop_of_path legs j)))));
      dest_length =
          cond_both (is_tagged first) (dest_field_of t bare (updates_over t (λ h. sigma t (name_of_hop h)) legs bare)) bare.dest_field (λ v. length v ≡ DEST_LEN)
          (λ _. length-dest_field t bare (updates_over t (λ h. sigma t (name_of_hop h)) legs bare)) (λ _. length-replicate {A = ℕ} DEST_LEN 0);
      untagged = λ e. cond-false (is_tagged first) (dest_field_of t bare (updates_over t (λ h. sigma t (name_of_hop h)) legs bare)) bare.dest_field e;
      payload = few;
    }

pub made_packets_have_fields : MadePacketsHaveFields
made_packets_have_fields t legs first src dst ts payload is = has_fields t legs first src dst ts payload (lawful legs is)

pub made_packets_are_spelled : MadePacketsAreSpelled
made_packets_are_spelled t legs first src dst ts payload exists src_fits dst_fits ts_fits few is in_range =
    let packet = is_packet t legs first src dst ts payload (lawful legs is) exists src_fits dst_fits ts_fits few in_range in
    (packet, (packets_are_spelled (made_packet t legs first src dst ts payload) packet).says)
