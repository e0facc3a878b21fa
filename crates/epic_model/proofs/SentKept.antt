-- A packet that is sent over a lawful path of ended issues is kept, and has a way.
use Rattle.std.proofs.Common.{◌≡◌, ℕ, zero, suc, ◌+◌, ◌-◌, ◌<◌, inl, inr, true, false, List, [], ◌∷◌, length, map, Option, None, Some, refl, ap, sym, subst, ◌∙◌, arith, length-append}
use Rattle.std.specs.Prelude.{◌==◌, IsTrue, slice_get, slice_index_or, option_map, unwrap_or}
use Rattle.std.specs.List.{All}
use Rattle.std.specs.Option.{option_map_or}
use Rattle.std.proofs.lemmas.List.{length-map}
use Rattle.std.proofs.lemmas.List.Elements.{All-cons, All-nil}
use Rattle.std.proofs.lemmas.Option.{same_Some, slice_get-map, slice_get-get_or}
use Rattle.epic_num.specs.declared.hop.HopName.{HopName}
use Rattle.epic_num.specs.declared.name.HostId.{HostId}
use Rattle.epic_num.specs.declared.segment.Leg.{Leg}
use Rattle.epic_num.specs.Chains.{Issue, issue_at, name_of, ancestor, last_names, chain, is_ended, no_name}
use Rattle.epic_num.specs.Paths.{is_lawful, travelled, path_hops, path_start, path_end}
use Rattle.epic_num.proofs.PathLaws.{IsPath, lawful, well_formed}
use Rattle.epic_num.proofs.ChainNames.{Reaches, length-last_names, name_in}
use Rattle.epic_layout.specs.declared.head.HopPlace.{HopPlace}
use Rattle.epic_layout.specs.declared.head.SegmentHead.{SegmentHead}
use Rattle.epic_layout.specs.Contents.{Contents, hop_count, unfilled}
use Rattle.epic_layout.specs.PathRoutes.{head_of, route_of}
use Rattle.epic_layout.specs.Route.{place, position}
use Rattle.epic_topo.specs.Network.{Network}
use Rattle.epic_fields.specs.Issues.{IssuesKept}
use Rattle.epic_fields.specs.PacketTags.{dest_field_of}
use Rattle.epic_ends.specs.Sending.{no_hop, hop_of_path, name_at, packet_over, made_packet}
use Rattle.epic_ends.specs.SentPackets.{HasFields}
use Rattle.epic_ends.specs.Ways.{updates_of}
use Rattle.epic_ends.proofs.Legs.{hops-cons, length_travelled}
use Rattle.epic_ends.proofs.Made.{at_place, length_route, made_packets_have_fields}
use Rattle.epic_ledger.specs.Facts.{Sent, sent_issue, sent_name}
use Rattle.epic_audit.specs.Kept.{IsKeptSend}
use Rattle.epic_audit.specs.Made.{sent_updates}
use Rattle.epic_model.specs.Sends.{names_of, IsRouted, IsOver, AreOver, SendsAreKept}
use Rattle.epic_model.proofs.Travelled.{named_by, same_updates}
use Rattle.epic_beacon.specs.Segments.{name_of_hop}

-- ---- chains of kept issues

-- an issue has as many ancestors, itself among them, as its position says
reaches : (t : Network) (issues : List Issue) → IssuesKept t issues → (most number : ℕ) (i : Issue) → issue_at issues number ≡ Some i → i.name.body.pos ≡ most
    → Reaches issues most number
unfolding ancestor
reaches t issues kept most number i there pos zero small = (i, there)
reaches t issues kept zero number i there pos (suc m) small = absurd (omega (arith, small))
reaches t issues kept (suc most) number i there pos (suc m) small =
    elim (kept number i there).placed [
      | inl root ↦ (let one = root.position in absurd (omega (arith, one, pos, small)))
      | inr child ↦
          (let next = child.position in
          let rest = reaches t issues kept most i.parent child.parent child.is_parent (omega (arith, next, pos)) m (omega (arith, small)) in
          (rest.0, ap (λ o. issue_at issues (ancestor issues (option_map_or (λ (k : Issue). k.parent) o 0) m)) there ∙ rest.1))
    ]

-- the last issue of an ended chain
pub ended_issue : (issues : List Issue) (number : ℕ) → is_ended issues number ≡ true → (i : Issue) × (issue_at issues number ≡ Some i)
unfolding is_ended
ended_issue issues number e = by (issue_at issues number) refl e
  where
    by : (o : Option Issue) → issue_at issues number ≡ o → option_map_or (λ i. i.name.body.out == 0) o false ≡ true → (i : Issue) × (issue_at issues number ≡ Some i)
    by None at is = absurd (cc)
    by (Some i) at is = (i, at)

-- the chain is as long as its last issue's position, and its m-th name is that of an issue
pub record ChainOf (issues : List Issue) (number : ℕ) : Type 0 where
  pub most : ℕ
  pub long : length (chain issues number) ≡ most
  pub each : (m : ℕ) → m < most → slice_get (chain issues number) m ≡ name_of issues (ancestor issues number (most - 1 - m))

pub chain_of : (t : Network) (issues : List Issue) (number : ℕ) → IssuesKept t issues → is_ended issues number ≡ true → ChainOf issues number
unfolding chain
chain_of t issues number kept ended =
    let i = ended_issue issues number ended in
    let most = i.0.name.body.pos in
    let r = reaches t issues kept most number i.0 i.1 refl in
    let is : chain issues number ≡ last_names issues most number = ap (λ o. option_map_or (λ (k : Issue). last_names issues k.name.body.pos number) o []) i.1 in
    record {
      most = most;
      long = ap length is ∙ length-last_names issues most number r;
      each = λ m h. ap (λ l. slice_get l m) is ∙ name_in issues most number m r h;
    }

-- ---- legs over issues

-- the number and the chain of a leg
pub over_at : (issues : List Issue) (numbers : List ℕ) (legs : List Leg) (k : ℕ) (leg : Leg) → AreOver issues numbers legs → slice_get legs k ≡ Some leg
    → IsOver issues (slice_index_or numbers k 0) leg
over_at issues [] [] k leg over there = absurd (cc)
over_at issues [] (l ∷ legs) k leg over there = absurd over
over_at issues (n ∷ numbers) [] k leg over there = absurd over
over_at issues (n ∷ numbers) (l ∷ legs) zero leg over there = subst (IsOver issues n) (same_Some l leg there) over.0
over_at issues (n ∷ numbers) (l ∷ legs) (suc k) leg over there = over_at issues numbers legs k leg over.1 there

pub over_long : (issues : List Issue) (numbers : List ℕ) (legs : List Leg) → AreOver issues numbers legs → length numbers ≡ length legs
over_long issues [] [] over = refl
over_long issues [] (l ∷ legs) over = absurd over
over_long issues (n ∷ numbers) [] over = absurd over
over_long issues (n ∷ numbers) (l ∷ legs) over = ap suc (over_long issues numbers legs over.1)

pub all_ended : (issues : List Issue) (numbers : List ℕ) (legs : List Leg) → AreOver issues numbers legs → All (λ number. is_ended issues number ≡ true) numbers
all_ended issues [] [] over = All-nil (λ number. is_ended issues number ≡ true)
all_ended issues [] (l ∷ legs) over = absurd over
all_ended issues (n ∷ numbers) [] over = absurd over
all_ended issues (n ∷ numbers) (l ∷ legs) over = All-cons (λ number. is_ended issues number ≡ true) n numbers over.0.ended (all_ended issues numbers legs over.1)

-- the issue of a hop, by its place
issue_by : (issues : List Issue) (s : Sent) (j : ℕ) (segment count pos : ℕ)
    → (place s.packet.route.segments j).segment ≡ segment → (place s.packet.route.segments j).head.count ≡ count → position (place s.packet.route.segments j) ≡ pos
    → sent_issue issues s j ≡ ancestor issues (slice_index_or s.segments segment 0) (count - pos)
unfolding sent_issue
issue_by issues s j segment count pos is_segment is_count is_pos = λ i. ancestor issues (slice_index_or s.segments (is_segment i) 0) (is_count i - is_pos i)

count_of : (leg : Leg) → (head_of leg).count ≡ length leg.segment.hops.items
unfolding head_of
count_of leg = refl

-- a lawful path has hops
some_path_hops : (legs : List Leg) → IsPath legs → 0 < length (path_hops legs)
some_path_hops [] is = absurd (let some = is.some in omega (arith, some))
some_path_hops (leg ∷ legs) is =
    let long = (well_formed leg.segment (is.segments 0 leg (omega arith))).long in
    let all = ap length (hops-cons leg legs) in
    omega (arith, long, all, length-append (travelled leg) (path_hops legs), length_travelled leg)

module _ (t : Network) (issues : List Issue) (emission first : ℕ) (src dst : HostId) (ts : ℕ) (numbers : List ℕ) (legs : List Leg) (payload : List ℕ)
    (kept : IssuesKept t issues) (over : AreOver issues numbers legs) (is : IsTrue (is_lawful legs))
    (starts_at : path_start legs ≡ src.asn) (ends_at : path_end legs ≡ dst.asn) where
  p : Contents
  p = made_packet t legs first src dst ts payload

  abbrev pub sent : Sent
  sent = record { emission = emission; segments = numbers; packet = made_packet t legs first src dst ts payload }

  fields : HasFields t legs (made_packet t legs first src dst ts payload)
  fields = made_packets_have_fields t legs first src dst ts payload is

  segments_are : (made_packet t legs first src dst ts payload).route.segments ≡ map head_of legs
  unfolding made_packet packet_over unfilled route_of
  segments_are = refl

  hops_are : hop_count (made_packet t legs first src dst ts payload) ≡ length (path_hops legs)
  unfolding made_packet packet_over unfilled
  hops_are = length_route legs

  -- hop j has the name that the ledger finds
  named : (j : ℕ) → j < hop_count (made_packet t legs first src dst ts payload) → sent_name issues sent j ≡ Some (name_at legs j)
  unfolding name_at hop_of_path
  named j h =
      let small : j < length (path_hops legs) = omega (arith, h, hops_are) in
      let at = at_place legs j no_hop small in
      let pos = position (place (map head_of legs) j) in
      let least = at.least in
      let most = at.most in
      let o = over_at issues numbers legs at.k at.leg over at.there in
      let number = slice_index_or numbers at.k 0 in
      let c = chain_of t issues number kept o.ended in
      let hops = at.leg.segment.hops.items in
      let many : length hops ≡ c.most = sym (length-map hops name_of_hop) ∙ (ap length o.names ∙ c.long) in
      let m = pos - 1 in
      let inside : m < length hops = omega (arith, least, most) in
      let same = ap (λ ss. place ss j) segments_are in
      let issue = issue_by issues sent j at.k (length hops) pos
      (ap (λ (q : HopPlace). q.segment) same ∙ at.segment_is) (ap (λ (q : HopPlace). q.head.count) same ∙ (ap (λ (g : SegmentHead). g.count) at.head_is ∙ count_of at.leg))
      (ap position same) in
      let depth : c.most - 1 - m ≡ length hops - pos = omega (arith, many, least) in
      named_by issues sent j h
      ∙ (ap (name_of issues) (issue ∙ ap (ancestor issues number) (sym depth))
      ∙ (sym (c.each m (omega (arith, inside, many)))
      ∙ (ap (λ l. slice_get l m) (sym o.names)
      ∙ (slice_get-map name_of_hop hops m
      ∙ (ap (option_map name_of_hop) (slice_get-get_or hops m no_hop inside)
      ∙ ap (λ g. Some (name_of_hop g)) (sym at.hop_is))))))

  name_is : (j : ℕ) → j < hop_count (made_packet t legs first src dst ts payload) → names_of issues sent j ≡ name_at legs j
  unfolding names_of
  name_is j h = ap (λ o. unwrap_or o no_name) (named j h)

  some_hop : 0 < hop_count (made_packet t legs first src dst ts payload)
  some_hop = (let some = some_path_hops legs (lawful legs is) in omega (arith, some, hops_are))

  pub kept_send : IsKeptSend t issues sent
  kept_send = record {
    ended = all_ended issues numbers legs over;
    hops = λ j h. record {
      name = name_at legs j;
      named = named j h;
      body_is = fields.bodies j h;
      field_is = fields.made.fields j h;
    };
    dest_field_is = λ tagged. fields.made.dest_field tagged ∙ ap (dest_field_of t (made_packet t legs first src dst ts payload)) (sym updates);
  }
    where
      updates : sent_updates t issues sent ≡ updates_of t (made_packet t legs first src dst ts payload) (name_at legs)
      updates = same_updates t issues sent (name_at legs) named

  pub routed : IsRouted issues sent
  unfolding made_packet packet_over unfilled
  routed = record {
    begins = fields.made.begins;
    starts = ap (λ (y : HopName). y.asn) (name_is 0 some_hop) ∙ (fields.starts ∙ starts_at);
    ends = λ j last. ap (λ (y : HopName). y.asn) (name_is j (omega (arith, last))) ∙ (fields.ends j last ∙ ends_at);
    switches = λ j h last.
        ap (λ (y : HopName). y.asn) (name_is (j + 1) h) ∙ (fields.switches j h last ∙ ap (λ (y : HopName). y.asn) (sym (name_is j (omega (arith, h)))));
  }

pub sends_are_kept : SendsAreKept
sends_are_kept t issues emission first src dst ts numbers legs payload kept over is starts_at ends_at = (
  kept_send t issues emission first src dst ts numbers legs payload kept over is starts_at ends_at,
  routed t issues emission first src dst ts numbers legs payload kept over is starts_at ends_at,
)
