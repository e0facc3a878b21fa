-- What a store keeps when it issues one more beacon.
use Rattle.std.proofs.Common.{◌≡◌, ◌≢◌, ℕ, ◌+◌, ◌/◌, ◌≤◌, ◌<◌, ◌^◌, true, false, ◌==◌, List, [], ◌∷◌, ◌++◌, length, refl, sym, ◌∙◌, ap, arith, subst, inl, inr, length-take-le}
use Rattle.std.specs.Prelude.{Option, Some, None, is_none, is_some, option_map, unwrap_or, IsSome, IfSome, Ok}
use Rattle.std.specs.Option.{option_map_or}
use Rattle.std.proofs.lemmas.Bool.{eqb-false}
use Rattle.epic_num.specs.Bodies.{IsBody}
use Rattle.epic_num.specs.declared.hop.HopName.{HopName}
use Rattle.epic_num.specs.declared.name.AsId.{AsId}
use Rattle.epic_num.specs.declared.segment.SegKind.{SegKind}
use Rattle.epic_num.specs.declared.segment.SegKind.TheVariants.{Core}
use Rattle.epic_topo.specs.declared.link_kind.LinkKind.{LinkKind}
use Rattle.epic_topo.specs.declared.link_kind.LinkKind.TheVariants.{Core as CoreLink}
use Rattle.epic_topo.specs.declared.network.System.{System}
use Rattle.epic_topo.specs.Lawful.{IsLinked, LinksLeadBack}
use Rattle.epic_topo.specs.Network.{Network, has, is_core, neighbour, system_of}
use Rattle.epic_fields.specs.Issues.{IssuesKept}
use Rattle.epic_num.specs.Messages.{link_message}
use Rattle.epic_fields.specs.Formulas.{link_tag}
use Rattle.epic_fields.specs.Tags.{hop_key, link}
use Rattle.epic_cmac.specs.Cmac.{cmac}
use Rattle.epic_cmac.proofs.CmacFacts.{length-cmac}
use Rattle.epic_beacon.specs.declared.beacon.Beacon.{Beacon}
use Rattle.epic_beacon.specs.Issuing.{behind, link_at, kind_by, first_name, next_name, beacon_of, extended}
use Rattle.epic_beacon.specs.Laws.{AreInRange, IssuesChain, IssuesStayKept, IssuesTell, IssuesHaveTimes, IssuesStayInRange}
use Rattle.epic_beacon.specs.Store.{Store, beacon_at, issues_of}
use Rattle.epic_beacon.proofs.Chaining.{chained_more}
use Rattle.epic_beacon.proofs.Grown.{beacon_at-more}
use Rattle.epic_beacon.proofs.Issued.{originated_ok, extended_ok, parent_linked, position_few}
use Rattle.epic_beacon.proofs.Keeping.{linked_some, originated_chained, originated_kept, extended_chained, extended_keeps}
use Rattle.epic_beacon.proofs.Told.{originated_told, extended_told}

-- ---- links of a topology

-- there is no link at interface 0
at_link : (t : Network) (a : AsId) (out : ℕ) (o : Option (AsId × ℕ × LinkKind)) → IfSome o (IsLinked t a out) → IsSome o → 1 ≤ out
at_link t a out None linked there = absurd (cc)
at_link t a out (Some far) linked there = linked.near_end.some_iface

leads_on : (t : Network) (a : AsId) (out : ℕ) → LinksLeadBack t → is_none (link_at t a out) ≡ false → out ≢ 0
leads_on t a out back linked zero =
    let some = at_link t a out (neighbour t a out) (back a out) (linked_some t a out linked) in absurd (omega arith)

-- the AS behind a link is in the topology, and the link ends at an interface there
far_known : (t : Network) (a : AsId) (out : ℕ) (o : Option (AsId × ℕ × LinkKind)) (d : AsId × ℕ × LinkKind) → IfSome o (IsLinked t a out) → IsSome o
    → has t (unwrap_or o d).0 ≡ true
far_known t a out None d linked there = absurd (cc)
far_known t a out (Some far) d linked there = linked.far_end.known

behind_known : (t : Network) (x : HopName) → LinksLeadBack t → IsSome (neighbour t x.asn x.body.out) → has t (behind t x).0 ≡ true
unfolding behind
behind_known t x back there =
    far_known t x.asn x.body.out (neighbour t x.asn x.body.out) (record { 0 = 0 }, 0, CoreLink) (back x.asn x.body.out) there

far_iface : (t : Network) (a : AsId) (out : ℕ) (o : Option (AsId × ℕ × LinkKind)) (d : AsId × ℕ × LinkKind) → IfSome o (IsLinked t a out) → d.1 ≤ 65535
    → (unwrap_or o d).1 ≤ 65535
far_iface t a out None d linked few = few
far_iface t a out (Some far) d linked few = linked.far_end.iface

behind_iface : (t : Network) (x : HopName) → LinksLeadBack t → (behind t x).1 ≤ 65535
unfolding behind
behind_iface t x back =
    far_iface t x.asn x.body.out (neighbour t x.asn x.body.out) (record { 0 = 0 }, 0, CoreLink) (back x.asn x.body.out) (omega arith)

core_known : (t : Network) (a : AsId) → is_core t a ≡ true → has t a ≡ true
unfolding is_core has
core_known t a h = there (system_of t a) h
  where
    there : (o : Option System) → unwrap_or (option_map (λ s. s.is_core) o) false ≡ true → is_some o ≡ true
    there None h = absurd (cc)
    there (Some s) h = refl

-- ---- chains

room_for_one : (n : ℕ) → n ≤ 65536 → (n == 65536) ≡ false → n < 65536
room_for_one n few room = let other = eqb-false n 65536 room in omega arith

out_of_first : (t : Network) (s : Store) (a : AsId) (out exp now : ℕ) (k : SegKind) → (beacon_of t (first_name s a out exp now) 0 k).name.body.out ≡ out
unfolding first_name beacon_of
out_of_first t s a out exp now k = refl

pub issues_chain : IssuesChain
issues_chain t s out exp now b back chained (inl (a, h)) =
    let o = originated_ok t s a out exp now b h in
    let same = ap (λ (c : Beacon). c.name.body.out) (sym o.is) ∙ out_of_first t s a out exp now (option_map_or kind_by (link_at t a out) Core) in
    chained_more s.beacons b chained (room_for_one (length s.beacons) chained.few o.room)
    (originated_chained t s a out exp now (length s.beacons + 1) b h (subst (λ m. m ≢ 0) (sym same) (leads_on t a out back o.linked)))
issues_chain t s out exp now b back chained (inr (number, h)) =
    let e = extended_ok t s number out exp now b h in
    chained_more s.beacons b chained (room_for_one (length s.beacons) chained.few e.room) (extended_chained t s number out exp now b chained h)

-- ---- issues

asn_of_next : (t : Network) (s : Store) (x : HopName) (number out exp : ℕ) (k : SegKind) → (beacon_of t (next_name t s x out exp) number k).name.asn ≡ (behind t x).0
unfolding next_name beacon_of
asn_of_next t s x number out exp k = refl

extended_known : (t : Network) (s : Store) (number out exp now : ℕ) (b : Beacon) → LinksLeadBack t → IssuesKept t (issues_of s.beacons)
    → extended t s number out exp now ≡ Ok b → has t b.name.asn ≡ true
extended_known t s number out exp now b back kept h =
    let e = extended_ok t s number out exp now b h in
    let p = e.parent in
    ap (has t) (ap (λ (c : Beacon). c.name.asn) (sym e.is) ∙ asn_of_next t s p.name number out exp p.kind)
    ∙ behind_known t p.name back (parent_linked t s.beacons number p kept e.there (eqb-false p.name.body.out 0 e.goes))

pub issues_stay_kept : IssuesStayKept
issues_stay_kept t s out exp now b back kept (inl (a, h)) =
    originated_kept t s a out exp now b kept (core_known t a (originated_ok t s a out exp now b h).core) h
issues_stay_kept t s out exp now b back kept (inr (number, h)) =
    extended_keeps t s number out exp now b kept (extended_known t s number out exp now b back kept h) h

pub issues_tell : IssuesTell
issues_tell t s out exp now b issues same (inl (a, h)) = originated_told t s a out exp now b issues same h
issues_tell t s out exp now b issues same (inr (number, h)) = extended_told t s number out exp now b issues same h

-- ---- times

time_of_first : (t : Network) (s : Store) (a : AsId) (out exp now : ℕ) (k : SegKind)
    → (beacon_of t (first_name s a out exp now) 0 k).name.body.ts_path ≡ now / 1000000
unfolding first_name beacon_of
time_of_first t s a out exp now k = refl

time_of_next : (t : Network) (s : Store) (x : HopName) (number out exp : ℕ) (k : SegKind)
    → let b = beacon_of t (next_name t s x out exp) number k in (b.parent ≡ number) × (b.name.body.ts_path ≡ x.body.ts_path)
unfolding next_name beacon_of
time_of_next t s x number out exp k = (refl, refl)

pub issues_have_times : IssuesHaveTimes
issues_have_times t s out exp now b (inl (a, h)) =
    let o = originated_ok t s a out exp now b h in
    inl (ap (λ (c : Beacon). c.name.body.ts_path) (sym o.is) ∙ time_of_first t s a out exp now (option_map_or kind_by (link_at t a out) Core))
issues_have_times t s out exp now b (inr (number, h)) =
    let e = extended_ok t s number out exp now b h in
    let next = time_of_next t s e.parent.name number out exp e.parent.kind in
    let parent = ap (λ (c : Beacon). c.parent) (sym e.is) ∙ next.0 in
    inr (e.parent, ap (beacon_at s.beacons) parent ∙ e.there, ap (λ (c : Beacon). c.name.body.ts_path) (sym e.is) ∙ next.1)

-- ---- ranges

length_link : (t : Network) (x : HopName) → length (link t x) ≡ 8
unfolding link link_tag
length_link t x =
    let all = length-cmac (hop_key t x) (link_message x.body) in
    length-take-le 8 (cmac (hop_key t x) (link_message x.body)) (omega (arith, all))

range_of_first : (t : Network) (s : Store) (a : AsId) (out exp now : ℕ) (k : SegKind) → out < 2 ^ 16 → exp < 2 ^ 8 → now / 1000000 < 2 ^ 32
    → IsBody (beacon_of t (first_name s a out exp now) 0 k).name.body
unfolding first_name beacon_of
range_of_first t s a out exp now k few_out few_exp few_now = record {
  pos = omega arith;
  exp = few_exp;
  ts_path = few_now;
  inn = omega arith;
  out = few_out;
  link = refl;
}

range_of_next : (t : Network) (s : Store) (x : HopName) (number out exp : ℕ) (k : SegKind) → IsBody x.body → x.body.pos ≤ 16 → (behind t x).1 ≤ 65535
    → out < 2 ^ 16 → exp < 2 ^ 8 → IsBody (beacon_of t (next_name t s x out exp) number k).name.body
unfolding next_name beacon_of
range_of_next t s x number out exp k body few far few_out few_exp = record {
  pos = omega arith;
  exp = few_exp;
  ts_path = body.ts_path;
  inn = omega arith;
  out = few_out;
  link = length_link t x;
}

ranges_more : (beacons : List Beacon) (b : Beacon) → AreInRange beacons → IsBody b.name.body → AreInRange (beacons ++ b ∷ [])
ranges_more beacons b each new number c there =
    elim (beacon_at-more beacons b c number there) [
      | inl was ↦ each number c was
      | inr last ↦ subst (λ (d : Beacon). IsBody d.name.body) last.1 new
    ]

pub issues_stay_in_range : IssuesStayInRange
issues_stay_in_range t s out exp now b back chained each few_out few_exp few_now (inl (a, h)) =
    let o = originated_ok t s a out exp now b h in
    ranges_more s.beacons b each
    (subst (λ (c : Beacon). IsBody c.name.body) o.is
    (range_of_first t s a out exp now (option_map_or kind_by (link_at t a out) Core) few_out few_exp few_now))
issues_stay_in_range t s out exp now b back chained each few_out few_exp few_now (inr (number, h)) =
    let e = extended_ok t s number out exp now b h in
    let p = e.parent in
    ranges_more s.beacons b each
    (subst (λ (c : Beacon). IsBody c.name.body) e.is
    (range_of_next t s p.name number out exp p.kind (each number p e.there) (position_few s.beacons number p chained e.there)
    (behind_iface t p.name back) few_out few_exp))
