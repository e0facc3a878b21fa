-- The way of a packet that was sent over issues that are kept.
use Rattle.std.proofs.Common.{◌≡◌, ℕ, suc, ◌+◌, ◌-◌, ◌<◌, ◌≤◌, inl, inr, Bool, true, false, List, [], length, Option, None, Some, refl, ap, sym, subst, ◌∙◌, ⊎_elim, arith}
use Rattle.std.specs.Prelude.{◌==◌, nat_lt, slice_index_or, unwrap_or, option_map, map, if◌then◌else◌}
use Rattle.std.specs.List.{range_with_len}
use Rattle.std.proofs.lemmas.List.{same_lists}
use Rattle.std.proofs.lemmas.List.FromFn.{length-map-range_with_len, get_or-map-range_with_len}
use Rattle.std.specs.Bool.{MatchBool}
use Rattle.std.specs.Option.{option_map_or, IfSome}
use Rattle.std.proofs.lemmas.Bool.{cond-true, cond-false, cond_both, cases_Bool, lt-ltb, le-ltb, eq-eqb, ne_eqb, eqb-true, eqb-false, MatchBool-at_true, MatchBool-at_false}
use Rattle.std.proofs.lemmas.Option.{same_Some}
use Rattle.epic_num.specs.declared.hop.HopName.{HopName}
use Rattle.epic_num.specs.declared.name.AsId.{AsId}
use Rattle.epic_num.specs.Chains.{Issue, issue_at, name_of, ancestor, is_ended, no_name}
use Rattle.epic_num.specs.Levels.{level_of, level_number}
use Rattle.epic_num.proofs.ChainNames.{ancestor_more}
use Rattle.epic_layout.specs.declared.head.HopPlace.{HopPlace}
use Rattle.epic_layout.specs.declared.head.SegmentHead.{SegmentHead}
use Rattle.epic_layout.specs.Spelling.{update_count}
use Rattle.epic_layout.specs.Contents.{Contents, IsPacket, hop_count, field}
use Rattle.epic_layout.specs.Laws.{Follows}
use Rattle.epic_layout.specs.Route.{place, position, is_first, is_last, successor, ingress, egress, hop, body, hops_of}
use Rattle.epic_layout.proofs.HopPlaces.{places_are_one, neighbours_follow}
use Rattle.epic_layout.proofs.Joins.{segments_join, successors_follow}
use Rattle.epic_topo.specs.declared.link_kind.LinkKind.{LinkKind}
use Rattle.epic_topo.specs.Lawful.{IsLinked, LinksLeadBack}
use Rattle.epic_topo.specs.Network.{Network, neighbour, turned}
use Rattle.epic_fields.specs.Issues.{IssuesKept}
use Rattle.epic_fields.specs.PacketTags.{field_of, update_of, dest_field_of}
use Rattle.epic_fields.specs.Tags.{link}
use Rattle.epic_ends.specs.Ways.{Leads, IsRoad, IsMade, updates_of}
use Rattle.epic_ledger.specs.Facts.{Sent, sent_issue, sent_name}
use Rattle.epic_audit.specs.Clauses.{GoesOnFrom, higher, lower}
use Rattle.epic_audit.specs.Kept.{IsKeptSend}
use Rattle.epic_audit.specs.Made.{sent_update, sent_updates}
use Rattle.epic_model.specs.Sends.{names_of, IsRouted, SentPacketsHaveRoads}

-- the issue that a name is of
pub named_issue : (issues : List Issue) (n : ℕ) (y : HopName) → name_of issues n ≡ Some y → (i : Issue) × ((issue_at issues n ≡ Some i) × (i.name ≡ y))
unfolding name_of
named_issue issues n y e = by (issue_at issues n) refl e
  where
    by : (o : Option Issue) → issue_at issues n ≡ o → option_map (λ i. i.name) o ≡ Some y → (i : Issue) × ((issue_at issues n ≡ Some i) × (i.name ≡ y))
    by None at is = absurd (cc)
    by (Some i) at is = (i, (at, same_Some i.name y is))

some_far : (o : Option (AsId × ℕ × LinkKind)) (far : AsId × ℕ × LinkKind) (P : AsId × ℕ × LinkKind → Type 0) → IfSome o P → o ≡ Some far → P far
some_far None far P h e = absurd (cc)
some_far (Some f) far P h e = subst P (same_Some f far e) h

-- a position lies in its segment
in_segment : (p : HopPlace) → p.index < p.head.count → (1 ≤ position p) × (position p ≤ p.head.count)
unfolding position
in_segment p h =
    ⊎_elim
    (λ e. (let is = cond-true p.head.against (p.head.count - p.index) (p.index + 1) e in (omega (arith, is, h), omega (arith, is, h))))
    (λ e. (let is = cond-false p.head.against (p.head.count - p.index) (p.index + 1) e in (omega (arith, is, h), omega (arith, is, h))))
    (cases_Bool p.head.against)

count_within : (first hops : ℕ) → update_count first hops ≤ hops
unfolding update_count
count_within first hops = cond_both (level_number (level_of first) == 3) hops 0 (λ n. n ≤ hops) (λ e. omega arith) (λ e. omega arith)

same_test : (b c : Bool) → (b ≡ true → c ≡ true) → (b ≡ false → c ≡ false) → b ≡ c
same_test true c when unless = sym (when refl)
same_test false c when unless = sym (unless refl)

-- the name of a hop of the packet is that of its issue
pub named_by : (issues : List Issue) (s : Sent) (k : ℕ) → k < hop_count s.packet → sent_name issues s k ≡ name_of issues (sent_issue issues s k)
unfolding sent_name
named_by issues s k small = cond-true (nat_lt k (hop_count s.packet)) (name_of issues (sent_issue issues s k)) None (lt-ltb k (hop_count s.packet) small)

-- where two hops follow one another, the issue of the first is the one that the second's goes on from
ancestor_of : (issues : List Issue) (s : Sent) (j k : ℕ) (p q : HopPlace) → place s.packet.route.segments j ≡ p → place s.packet.route.segments k ≡ q
    → p.segment ≡ q.segment → p.head ≡ q.head → position q ≡ position p + 1 → position q ≤ q.head.count
    → sent_issue issues s j ≡ option_map_or (λ i. i.parent) (issue_at issues (sent_issue issues s k)) 0
unfolding sent_issue
ancestor_of issues s j k p q pj qk segment head next most =
    let last = slice_index_or s.segments q.segment 0 in
    let depth : p.head.count - position p ≡ suc (q.head.count - position q) = (let same = ap (λ h. h.count) head in omega (arith, same, next, most)) in
    ap (λ r. ancestor issues (slice_index_or s.segments r.segment 0) (r.head.count - position r)) pj
    ∙ (ap (λ i. ancestor issues (slice_index_or s.segments i 0) (p.head.count - position p)) segment
    ∙ (ap (ancestor issues last) depth
    ∙ (ancestor_more issues last (q.head.count - position q)
    ∙ ap (λ r. option_map_or (λ i. i.parent) (issue_at issues (ancestor issues (slice_index_or s.segments r.segment 0) (r.head.count - position r))) 0) (sym qk))))

-- the ended issue stands at the end of each segment
last_of : (issues : List Issue) (s : Sent) (j : ℕ) (p : HopPlace) → place s.packet.route.segments j ≡ p → position p ≡ p.head.count
    → sent_issue issues s j ≡ slice_index_or s.segments p.segment 0
unfolding sent_issue ancestor
last_of issues s j p pj last =
    let none : p.head.count - position p ≡ 0 = omega (arith, last) in
    ap (λ r. ancestor issues (slice_index_or s.segments r.segment 0) (r.head.count - position r)) pj
    ∙ ap (ancestor issues (slice_index_or s.segments p.segment 0)) none

body_of : (s : Sent) (j : ℕ) → (body s.packet.route j).pos ≡ position (place s.packet.route.segments j)
unfolding body
body_of s j = refl

link_of : (s : Sent) (j : ℕ) → (body s.packet.route j).link ≡ (hop s.packet.route j).link
unfolding body
link_of s j = refl

inn_of : (s : Sent) (j : ℕ) → (body s.packet.route j).inn ≡ (hop s.packet.route j).inn
unfolding body
inn_of s j = refl

out_of : (s : Sent) (j : ℕ) → (body s.packet.route j).out ≡ (hop s.packet.route j).out
unfolding body
out_of s j = refl

-- ingress and egress by the direction of travel
ingress_along : (s : Sent) (j : ℕ) → (place s.packet.route.segments j).head.against ≡ false → ingress s.packet.route j ≡ (body s.packet.route j).inn
unfolding ingress
ingress_along s j e = cond-false (place s.packet.route.segments j).head.against (hop s.packet.route j).out (hop s.packet.route j).inn e ∙ sym (inn_of s j)

ingress_against : (s : Sent) (j : ℕ) → (place s.packet.route.segments j).head.against ≡ true → ingress s.packet.route j ≡ (body s.packet.route j).out
unfolding ingress
ingress_against s j e = cond-true (place s.packet.route.segments j).head.against (hop s.packet.route j).out (hop s.packet.route j).inn e ∙ sym (out_of s j)

egress_along : (s : Sent) (j : ℕ) → (place s.packet.route.segments j).head.against ≡ false → egress s.packet.route j ≡ (body s.packet.route j).out
unfolding egress
egress_along s j e = cond-false (place s.packet.route.segments j).head.against (hop s.packet.route j).inn (hop s.packet.route j).out e ∙ sym (out_of s j)

egress_against : (s : Sent) (j : ℕ) → (place s.packet.route.segments j).head.against ≡ true → egress s.packet.route j ≡ (body s.packet.route j).inn
unfolding egress
egress_against s j e = cond-true (place s.packet.route.segments j).head.against (hop s.packet.route j).inn (hop s.packet.route j).out e ∙ sym (inn_of s j)

-- updates by names
pub same_updates : (t : Network) (issues : List Issue) (s : Sent) (x : ℕ → HopName) → ((j : ℕ) → j < hop_count s.packet → sent_name issues s j ≡ Some (x j))
    → sent_updates t issues s ≡ updates_of t s.packet x
unfolding sent_updates updates_of sent_update
same_updates t issues s x named =
    let count = update_count s.packet.first (hop_count s.packet) in
    same_lists (map (sent_update t issues s) (range_with_len 0 count)) (map (λ j. update_of t (x j) s.packet j) (range_with_len 0 count))
    (length-map-range_with_len (sent_update t issues s) 0 count ∙ sym (length-map-range_with_len (λ j. update_of t (x j) s.packet j) 0 count))
    (λ k d h. (let small : k < count = omega (arith, h, length-map-range_with_len (sent_update t issues s) 0 count) in
    let few = count_within s.packet.first (hop_count s.packet) in
    get_or-map-range_with_len (sent_update t issues s) 0 count k k d small (omega arith)
    ∙ (ap (λ o. option_map_or (λ y. update_of t y s.packet k) o []) (named k (omega (arith, small, few)))
    ∙ sym (get_or-map-range_with_len (λ j. update_of t (x j) s.packet j) 0 count k k d small (omega arith)))))

-- first and last of a segment by positions
first_along : (p : HopPlace) → p.head.against ≡ false → is_first p ≡ (position p == 1)
unfolding is_first position
first_along p e =
    same_test (p.index == 0) _ (λ z. eq-eqb _ 1 (let is = cond-false p.head.against (p.head.count - p.index) (p.index + 1) e in omega (arith, is, eqb-true p.index 0 z)))
    (λ nz. ne_eqb _ 1 (λ e1. (let is = cond-false p.head.against (p.head.count - p.index) (p.index + 1) e in eqb-false p.index 0 nz (omega (arith, is, e1)))))

first_against : (p : HopPlace) → p.index < p.head.count → p.head.against ≡ true → is_first p ≡ (position p == p.head.count)
unfolding is_first position
first_against p h e =
    same_test (p.index == 0) _ (λ z. eq-eqb _ p.head.count (let is = cond-true p.head.against (p.head.count - p.index) (p.index + 1) e in omega (arith, is, eqb-true p.index 0 z)))
    (λ nz. ne_eqb _ p.head.count (λ e1. (let is = cond-true p.head.against (p.head.count - p.index) (p.index + 1) e in eqb-false p.index 0 nz (omega (arith, is, e1, h)))))

last_along : (p : HopPlace) → p.head.against ≡ false → is_last p ≡ (position p == p.head.count)
unfolding is_last position
last_along p e =
    same_test (p.index + 1 == p.head.count) _ (λ z. eq-eqb _ p.head.count (let is = cond-false p.head.against (p.head.count - p.index) (p.index + 1) e in omega (arith, is, eqb-true (p.index + 1) p.head.count z)))
    (λ nz. ne_eqb _ p.head.count (λ e1. (let is = cond-false p.head.against (p.head.count - p.index) (p.index + 1) e in eqb-false (p.index + 1) p.head.count nz (omega (arith, is, e1)))))

last_against : (p : HopPlace) → p.index < p.head.count → p.head.against ≡ true → is_last p ≡ (position p == 1)
unfolding is_last position
last_against p h e =
    same_test (p.index + 1 == p.head.count) _ (λ z. eq-eqb _ 1 (let is = cond-true p.head.against (p.head.count - p.index) (p.index + 1) e in omega (arith, is, h, eqb-true (p.index + 1) p.head.count z)))
    (λ nz. ne_eqb _ 1 (λ e1. (let is = cond-true p.head.against (p.head.count - p.index) (p.index + 1) e in eqb-false (p.index + 1) p.head.count nz (omega (arith, is, e1, h)))))

module _ (t : Network) (issues : List Issue) (s : Sent) (back : LinksLeadBack t) (kept : IssuesKept t issues) (packet : IsPacket s.packet)
    (send : IsKeptSend t issues s) (routed : IsRouted issues s) (counts : length s.segments ≡ length s.packet.route.segments) where
  p : Contents
  p = s.packet

  x : ℕ → HopName
  x = names_of issues s

  at : ℕ → HopPlace
  at j = place s.packet.route.segments j

  n : ℕ
  n = hop_count s.packet

  total : hops_of s.packet.route.segments ≡ n
  unfolding n
  total = packet.route.counted

  -- hop j of the packet has an issue
  record HasIssue (j : ℕ) : Type 0 where
    issue : Issue
    there : issue_at issues (sent_issue issues s j) ≡ Some issue
    name_is : issue.name ≡ x j
    named : sent_name issues s j ≡ Some (x j)
    body_is : (x j).body ≡ body s.packet.route j
    field_is : field s.packet j ≡ field_of t (x j) s.packet j

  has_issue : (j : ℕ) → j < n → HasIssue j
  unfolding n x names_of
  has_issue j h =
      let hop' = send.hops j h in
      let name : unwrap_or (sent_name issues s j) no_name ≡ hop'.name = ap (λ o. unwrap_or o no_name) hop'.named in
      let i = named_issue issues (sent_issue issues s j) hop'.name (sym (named_by issues s j h) ∙ hop'.named) in
      record {
        issue = i.0;
        there = i.1.0;
        name_is = i.1.1 ∙ sym name;
        named = hop'.named ∙ ap (λ y. Some y) (sym name);
        body_is = ap (λ (y : HopName). y.body) name ∙ hop'.body_is;
        field_is = hop'.field_is ∙ ap (λ y. field_of t y s.packet j) (sym name);
      }

  inside : (j : ℕ) → j < n → (at j).index < (at j).head.count
  unfolding at
  inside j h = ((places_are_one s.packet.route.segments).placed j (omega (arith, h, total))).inside

  pos_is : (j : ℕ) → j < n → (x j).body.pos ≡ position (at j)
  unfolding at
  pos_is j h = ap (λ b. b.pos) (has_issue j h).body_is ∙ body_of s j

  -- ---- neighbours

  -- hop k comes next after hop j in construction order: its issue goes on from that of hop j
  record IsBehind (j k : ℕ) : Type 0 where
    kind : LinkKind
    linked : (hop s.packet.route k).link ≡ link t (x j)
    behind : neighbour t (x j).asn (x j).body.out ≡ Some ((x k).asn, (x k).body.inn, kind)
    goes : GoesOnFrom issues (x k) (x j)

  follows_behind : (j k : ℕ) → j < n → k < n → Follows s.packet.route.segments j k → IsBehind j k
  unfolding at n
  follows_behind j k hj hk follows =
      let ij = has_issue j hj in
      let ik = has_issue k hk in
      let most = (in_segment (at k) (inside k hk)).1 in
      let parent : sent_issue issues s j ≡ ik.issue.parent
      = ancestor_of issues s j k (at j) (at k) refl refl follows.same_segment follows.same_head follows.positions most
      ∙ ap (λ o. option_map_or (λ i. i.parent) o 0) ik.there in
      let far : ik.issue.name.body.pos ≡ position (at j) + 1 = ap (λ (y : HopName). y.body.pos) ik.name_is ∙ (pos_is k hk ∙ follows.positions) in
      let some = (in_segment (at j) (inside j hj)).0 in
      elim (kept (sent_issue issues s k) ik.issue ik.there).placed [
        | inl root ↦ (let one = root.position in absurd (omega (arith, far, one, some)))
        | inr c ↦
            (let same : c.parent ≡ ij.issue = same_Some c.parent ij.issue (sym c.is_parent ∙ (ap (issue_at issues) (sym parent) ∙ ij.there)) in
            let name : c.parent.name ≡ x j = ap (λ (i : Issue). i.name) same ∙ ij.name_is in
            record {
              kind = c.kind;
              linked = sym (ap (λ b. b.link) ik.body_is ∙ link_of s k) ∙ (ap (λ (y : HopName). y.body.link) (sym ik.name_is) ∙ (c.linked ∙ ap (link t) name));
              behind =
                  ap (λ (y : HopName). neighbour t y.asn y.body.out) (sym name)
                  ∙ (c.behind ∙ ap (λ (y : HopName). Some (y.asn, y.body.inn, c.kind)) ik.name_is);
              goes = record {
                number = sent_issue issues s k;
                issue = ik.issue;
                there = ik.there;
                named = ik.name_is;
                parent_named = ap (name_of issues) (sym parent) ∙ (sym (named_by issues s j hj) ∙ ij.named);
              };
            })
      ]

  back_from : (a : AsId) (iface : ℕ) (b : AsId) (other : ℕ) (kind : LinkKind) → neighbour t a iface ≡ Some (b, other, kind) → IsLinked t a iface (b, other, kind)
  back_from a iface b other kind e = some_far (neighbour t a iface) (b, other, kind) (IsLinked t a iface) (back a iface) e

  -- the hop of the lower position, where the other isn't the first of its segment
  before : (j : ℕ) → j < n → is_first (at j) ≡ false → (0 < j) × MatchBool (at j).head.against (Follows s.packet.route.segments j (j - 1)) (Follows s.packet.route.segments (j - 1) j)
  unfolding at
  before j h first = neighbours_follow s.packet.route.segments j (omega (arith, h, total)) first

  -- a hop isn't entered over a link exactly at position 1
  enters : (j : ℕ) → j < n → ((x j).body.inn == 0) ≡ (position (at j) == 1)
  enters j h =
      let i = has_issue j h in
      let pos : i.issue.name.body.pos ≡ position (at j) = ap (λ (y : HopName). y.body.pos) i.name_is ∙ pos_is j h in
      elim (kept (sent_issue issues s j) i.issue i.there).placed [
        | inl root ↦
            (let none : (x j).body.inn ≡ 0 = ap (λ (y : HopName). y.body.inn) (sym i.name_is) ∙ root.no_ingress in
            let one = root.position in
            eq-eqb (x j).body.inn 0 none ∙ sym (eq-eqb (position (at j)) 1 (omega (arith, pos, one))))
        | inr c ↦
            (let linked = back_from c.parent.name.asn c.parent.name.body.out i.issue.name.asn i.issue.name.body.inn c.kind c.behind in
            let some : 1 ≤ i.issue.name.body.inn = linked.far_end.some_iface in
            let same : i.issue.name.body.inn ≡ (x j).body.inn = ap (λ (y : HopName). y.body.inn) i.name_is in
            let next = c.position in
            let least : 1 ≤ c.parent.name.body.pos = positive i.issue.parent c.parent c.is_parent in
            ne_eqb (x j).body.inn 0 (λ z. omega (arith, some, same, z)) ∙ sym (ne_eqb (position (at j)) 1 (λ e. omega (arith, pos, next, least, e))))
      ]
    where
      positive : (number : ℕ) (i : Issue) → issue_at issues number ≡ Some i → 1 ≤ i.name.body.pos
      positive number i there =
          elim (kept number i there).placed [
            | inl root ↦ (let one = root.position in omega (arith, one))
            | inr c ↦ (let next = c.position in omega (arith, next))
          ]

  ended : (j : ℕ) → j < n → position (at j) ≡ (at j).head.count → (x j).body.out ≡ 0
  unfolding at is_ended
  ended j h last =
      let i = has_issue j h in
      let segment = (at j).segment in
      let there = ((places_are_one s.packet.route.segments).placed j (omega (arith, h, total))).segment_there in
      let number = last_of issues s j (at j) refl last in
      let over = send.ended segment 0 (omega (arith, there, counts)) in
      let at_end : issue_at issues (slice_index_or s.segments segment 0) ≡ Some i.issue = ap (issue_at issues) (sym number) ∙ i.there in
      ap (λ (y : HopName). y.body.out) (sym i.name_is)
      ∙ eqb-true i.issue.name.body.out 0 (sym (ap (λ o. option_map_or (λ k. k.name.body.out == 0) o false) at_end) ∙ over)

  -- where its position isn't the greatest, it leads to the next
  next_hop : (j : ℕ) → j < n → (position (at j) ≡ (at j).head.count → ⊥) → (k : ℕ) × ((k < n) × Follows s.packet.route.segments j k)
  unfolding at successor
  next_hop j h ne =
      let k = if (at j).head.against then j - 1 else j + 1 in
      let some : successor (place s.packet.route.segments j) j ≡ Some k
      = cond-false (position (at j) == (at j).head.count) None (Some k) (ne_eqb (position (at j)) (at j).head.count ne) in
      let f = successors_follow s.packet.route.segments j k (omega (arith, h, total)) some in
      (k, (omega (arith, f.0, total), f.1))

  goes_out : (j : ℕ) → j < n → (position (at j) ≡ (at j).head.count → ⊥) → (x j).body.out ≡ 0 → ⊥
  goes_out j h ne z =
      let next = next_hop j h ne in
      let b = follows_behind j next.0 h next.1.0 next.1.1 in
      let linked = back_from (x j).asn (x j).body.out (x next.0).asn (x next.0).body.inn b.kind b.behind in
      let some : 1 ≤ (x j).body.out = linked.near_end.some_iface in
      omega (arith, some, z)

  -- and isn't left over one exactly at its segment's greatest position
  leaves : (j : ℕ) → j < n → ((x j).body.out == 0) ≡ (position (at j) == (at j).head.count)
  leaves j h =
      ⊎_elim
      (λ last. eq-eqb (x j).body.out 0 (ended j h (eqb-true (position (at j)) (at j).head.count last)) ∙ sym last)
      (λ inner. ne_eqb (x j).body.out 0 (λ z. goes_out j h (eqb-false (position (at j)) (at j).head.count inner) z) ∙ sym inner)
      (cases_Bool (position (at j) == (at j).head.count))

  -- ---- the road

  inn_is : (j : ℕ) → j < n → (x j).body.inn ≡ (body s.packet.route j).inn
  inn_is j h = ap (λ b. b.inn) (has_issue j h).body_is

  out_is : (j : ℕ) → j < n → (x j).body.out ≡ (body s.packet.route j).out
  out_is j h = ap (λ b. b.out) (has_issue j h).body_is

  first_is : (j : ℕ) → j < n → is_first (place s.packet.route.segments j) ≡ (ingress s.packet.route j == 0)
  unfolding at
  first_is j h =
      ⊎_elim
      (λ e. first_against (at j) (inside j h) e ∙ (sym (leaves j h) ∙ ap (λ v. v == 0) (out_is j h ∙ sym (ingress_against s j e))))
      (λ e. first_along (at j) e ∙ (sym (enters j h) ∙ ap (λ v. v == 0) (inn_is j h ∙ sym (ingress_along s j e))))
      (cases_Bool (at j).head.against)

  last_is : (j : ℕ) → j < n → is_last (place s.packet.route.segments j) ≡ (egress s.packet.route j == 0)
  unfolding at
  last_is j h =
      ⊎_elim
      (λ e. last_against (at j) (inside j h) e ∙ (sym (enters j h) ∙ ap (λ v. v == 0) (inn_is j h ∙ sym (egress_against s j e))))
      (λ e. last_along (at j) e ∙ (sym (leaves j h) ∙ ap (λ v. v == 0) (out_is j h ∙ sym (egress_along s j e))))
      (cases_Bool (at j).head.against)

  leads : (j : ℕ) → j < n → is_last (place s.packet.route.segments j) ≡ false → Leads t s.packet x j
  unfolding at
  leads j h goes =
      let other = (segments_join s.packet.route.segments).behind_other j (omega (arith, h, total)) goes in
      let hk : j + 1 < n = omega (arith, other.0, total) in
      let b = before (j + 1) hk other.1 in
      let minus : j + 1 - 1 ≡ j = omega arith in
      ⊎_elim
      (λ e. (let follows = subst (λ k. Follows s.packet.route.segments (j + 1) k) minus
      (MatchBool-at_true (Follows s.packet.route.segments (j + 1) (j + 1 - 1)) (Follows s.packet.route.segments (j + 1 - 1) (j + 1)) e b.1) in
      let against : (at j).head.against ≡ true = ap (λ (d : SegmentHead). d.against) (sym follows.same_head) ∙ e in
      let is = follows_behind (j + 1) j hk h follows in
      let linked = back_from (x (j + 1)).asn (x (j + 1)).body.out (x j).asn (x j).body.inn is.kind is.behind in
      record {
        kind = turned is.kind;
        linked =
            ap (neighbour t (x j).asn) (egress_against s j against ∙ sym (inn_is j h))
            ∙ (linked.back ∙ ap (λ v. Some ((x (j + 1)).asn, v, turned is.kind)) (out_is (j + 1) hk ∙ sym (ingress_against s (j + 1) e)));
      }))
      (λ e. (let follows = subst (λ k. Follows s.packet.route.segments k (j + 1)) minus
      (MatchBool-at_false (Follows s.packet.route.segments (j + 1) (j + 1 - 1)) (Follows s.packet.route.segments (j + 1 - 1) (j + 1)) e b.1) in
      let along : (at j).head.against ≡ false = ap (λ (d : SegmentHead). d.against) follows.same_head ∙ e in
      let is = follows_behind j (j + 1) h hk follows in
      record {
        kind = is.kind;
        linked =
            ap (neighbour t (x j).asn) (egress_along s j along ∙ sym (out_is j h))
            ∙ (is.behind ∙ ap (λ v. Some ((x (j + 1)).asn, v, is.kind)) (inn_is (j + 1) hk ∙ sym (ingress_along s (j + 1) e)));
      }))
      (cases_Bool (at (j + 1)).head.against)

  links : (j k : ℕ) → j < n → successor (place s.packet.route.segments j) j ≡ Some k → (hop s.packet.route k).link ≡ link t (x j)
  links j k h next =
      let f = successors_follow s.packet.route.segments j k (omega (arith, h, total)) next in
      (follows_behind j k h (omega (arith, f.0, total)) f.1).linked

  -- two neighbours in a segment, by the one of the higher position
  chained : (j : ℕ) → j < n → is_first (place s.packet.route.segments j) ≡ false → GoesOnFrom issues (higher (x (j - 1)) (x j)) (lower (x (j - 1)) (x j))
  unfolding at higher lower
  chained j h first =
      let b = before j h first in
      let hi : j - 1 < n = omega (arith, h) in
      ⊎_elim
      (λ e. (let follows = MatchBool-at_true (Follows s.packet.route.segments j (j - 1)) (Follows s.packet.route.segments (j - 1) j) e b.1 in
      let is = follows_behind j (j - 1) h hi follows in
      let above = le-ltb (x (j - 1)).body.pos (x j).body.pos (omega (arith, pos_is j h, pos_is (j - 1) hi, follows.positions)) in
      subst (λ c. GoesOnFrom issues (if c then x j else x (j - 1)) (if c then x (j - 1) else x j)) (sym above) is.goes))
      (λ e. (let follows = MatchBool-at_false (Follows s.packet.route.segments j (j - 1)) (Follows s.packet.route.segments (j - 1) j) e b.1 in
      let is = follows_behind (j - 1) j hi h follows in
      let above = lt-ltb (x (j - 1)).body.pos (x j).body.pos (omega (arith, pos_is j h, pos_is (j - 1) hi, follows.positions)) in
      subst (λ c. GoesOnFrom issues (if c then x j else x (j - 1)) (if c then x (j - 1) else x j)) (sym above) is.goes))
      (cases_Bool (at j).head.against)

  pub road : IsRoad t s.packet (names_of issues s)
  unfolding x n
  road = record {
    starts = routed.starts;
    ends = routed.ends;
    bodies = λ j h. (has_issue j h).body_is;
    first_is = first_is;
    last_is = last_is;
    leads = leads;
    switches = routed.switches;
    linked = links;
  }

  pub made : IsMade t s.packet (names_of issues s)
  unfolding x n
  made = record {
    begins = routed.begins;
    fields = λ j h. (has_issue j h).field_is;
    dest_field = λ tagged. send.dest_field_is tagged ∙ ap (dest_field_of t s.packet) updates;
  }
    where
      updates : sent_updates t issues s ≡ updates_of t s.packet (names_of issues s)
      updates = same_updates t issues s (names_of issues s) (λ j h. (has_issue j h).named)

  pub chained_hops : (j : ℕ) → j < hop_count s.packet → is_first (place s.packet.route.segments j) ≡ false
      → GoesOnFrom issues (higher (names_of issues s (j - 1)) (names_of issues s j)) (lower (names_of issues s (j - 1)) (names_of issues s j))
  unfolding x n
  chained_hops = chained

  pub named_hops : (j : ℕ) → j < hop_count s.packet → sent_name issues s j ≡ Some (names_of issues s j)
  unfolding x n
  named_hops j h = (has_issue j h).named

  pub issue_there : (j : ℕ) → j < hop_count s.packet → name_of issues (sent_issue issues s j) ≡ Some (names_of issues s j)
  unfolding x n
  issue_there j h = sym (named_by issues s j h) ∙ (has_issue j h).named

pub sent_packets_have_roads : SentPacketsHaveRoads
sent_packets_have_roads t issues s back kept packet counts send routed =
    (road t issues s back kept packet send routed counts, made t issues s back kept packet send routed counts)
