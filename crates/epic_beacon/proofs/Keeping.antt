-- Each issued beacon is linked as its rules say, and the calls keep what they ask for.
use Rattle.std.proofs.Common.{◌≡◌, ◌≢◌, ℕ, zero, suc, ◌+◌, ◌≤◌, ◌<◌, Bool, true, false, ◌&&◌, not, ◌==◌, List, [], ◌∷◌, ◌++◌, length, refl, sym, ◌∙◌, ap, arith, subst, inl, inr, length-append}
use Rattle.std.specs.Prelude.{◌⊎◌, Option, Some, None, option_map, is_none, unwrap_or, IsSome, Result, Ok, Err}
use Rattle.std.specs.Option.{option_map_or}
use Rattle.std.proofs.lemmas.Bool.{eqb-true, eqb-false, cases_lt}
use Rattle.std.proofs.lemmas.Option.{same_Some}
use Rattle.epic_num.specs.declared.beacon_error.BeaconError.{BeaconError}
use Rattle.epic_num.specs.declared.hop.HopName.{HopName}
use Rattle.epic_num.specs.declared.name.AsId.{AsId}
use Rattle.epic_num.specs.declared.segment.SegKind.{SegKind}
use Rattle.epic_num.specs.declared.segment.SegKind.TheVariants.{Core}
use Rattle.epic_num.specs.Chains.{Issue, issue_at, chain}
use Rattle.epic_num.proofs.ChainLaws.{issue_at-zero, issue_at-append, issue_at-next, issue_at-past}
use Rattle.epic_topo.specs.declared.link_kind.LinkKind.{LinkKind}
use Rattle.epic_topo.specs.declared.link_kind.LinkKind.TheVariants.{Core as CoreLink}
use Rattle.epic_topo.specs.Network.{Network, has, neighbour}
use Rattle.epic_fields.specs.Issues.{IsKept, IssuesKept}
use Rattle.epic_beacon.specs.declared.beacon.Beacon.{Beacon}
use Rattle.epic_beacon.specs.Chained.{IsFirst, IsNext, IsChained, AreChained}
use Rattle.epic_beacon.specs.Issuing.{Issues, behind, link_at, kind_by, first_name, next_name, beacon_of, stands_in, originated, extended}
use Rattle.epic_beacon.specs.Kinds.{KindsKept}
use Rattle.epic_beacon.specs.Store.{Store, beacon_at, issue_of, issues_of, with_beacon}
use Rattle.epic_beacon.proofs.Chaining.{kinds_first, kinds_next}
use Rattle.epic_beacon.proofs.Grown.{beacon_at-within, issues_of-append, length-issues_of}
use Rattle.epic_beacon.proofs.Issued.{Extended, extended_ok, originated_ok, issue_there, position_few, parent_linked}

-- ---- links

some_before : {A B : Type 0} (f : A → B) (o : Option A) → is_none (option_map f o) ≡ false → IsSome o
some_before f None h = absurd (cc)
some_before f (Some x) h = refl

pub linked_some : (t : Network) (a : AsId) (out : ℕ) → is_none (link_at t a out) ≡ false → IsSome (neighbour t a out)
unfolding link_at
linked_some t a out h = some_before (λ far. far.2) (neighbour t a out) h

by_egress : (t : Network) (a : AsId) (out : ℕ) (b : Bool) → (out == 0) ≡ b → (not b && is_none (link_at t a out)) ≡ false
    → (out ≡ 0) ⊎ IsSome (neighbour t a out)
by_egress t a out true e h = inl (eqb-true out 0 e)
by_egress t a out false e h = inr (linked_some t a out h)

some_whole : {A : Type 0} (o : Option A) (d : A) → IsSome o → o ≡ Some (unwrap_or o d)
some_whole None d h = absurd (cc)
some_whole (Some x) d h = refl

behind_is : (t : Network) (x : HopName) → IsSome (neighbour t x.asn x.body.out)
    → neighbour t x.asn x.body.out ≡ Some ((behind t x).0, (behind t x).1, (behind t x).2)
unfolding behind
behind_is t x linked = some_whole (neighbour t x.asn x.body.out) (record { 0 = 0 }, 0, CoreLink) linked

positive : (n : ℕ) → 0 < n → n ≢ 0
positive n h e = absurd (omega arith)

-- ---- each beacon is kept

next_kept : (t : Network) (s : Store) (number n out exp : ℕ) (p : Beacon) → IssuesKept t (issues_of s.beacons) → number < n
    → beacon_at s.beacons number ≡ Some p → p.name.body.out ≢ 0 → has t (next_name t s p.name out exp).asn ≡ true
    → (not (out == 0) && is_none (link_at t (next_name t s p.name out exp).asn out)) ≡ false
    → IsKept t (issues_of s.beacons) n (issue_of (beacon_of t (next_name t s p.name out exp) number p.kind))
unfolding next_name beacon_of
next_kept t s number n out exp p kept earlier there goes known linked = record {
  known = known;
  egress = by_egress t (behind t p.name).0 out (out == 0) refl linked;
  placed = inr (record {
    parent = issue_of p;
    kind = (behind t p.name).2;
    some_parent = positive number (beacon_at-within s.beacons number p there).0;
    earlier = earlier;
    is_parent = issue_there s.beacons number p there;
    position = refl;
    linked = refl;
    behind = behind_is t p.name (parent_linked t s.beacons number p kept there goes);
  });
}

extended_kept : (t : Network) (s : Store) (number out exp : ℕ) (b : Beacon) → IssuesKept t (issues_of s.beacons) → Extended t s number out exp b
    → has t b.name.asn ≡ true → IsKept t (issues_of s.beacons) (length s.beacons + 1) (issue_of b)
unfolding beacon_of
extended_kept t s number out exp b kept e known =
    let within = (beacon_at-within s.beacons number e.parent e.there).1 in
    subst (λ (c : Beacon). IsKept t (issues_of s.beacons) (length s.beacons + 1) (issue_of c)) e.is
    (next_kept t s number (length s.beacons + 1) out exp e.parent kept (omega arith) e.there (eqb-false e.parent.name.body.out 0 e.goes)
    (subst (λ (c : Beacon). has t c.name.asn ≡ true) (sym e.is) known) e.linked)

first_kept : (t : Network) (s : Store) (a : AsId) (out exp now n : ℕ) (k : SegKind) → has t a ≡ true → is_none (link_at t a out) ≡ false
    → IsKept t (issues_of s.beacons) n (issue_of (beacon_of t (first_name s a out exp now) 0 k))
unfolding first_name beacon_of
first_kept t s a out exp now n k known linked = record {
  known = known;
  egress = inr (linked_some t a out linked);
  placed = inl (record { no_parent = refl; position = refl; no_ingress = refl; no_link = refl });
}

-- ---- and the others stay so

issue_within : (issues : List Issue) (n : ℕ) (i : Issue) → issue_at issues n ≡ Some i → n ≤ length issues
issue_within issues n i h =
    elim (cases_lt (length issues) n) [
      | inl past ↦ let e : None ≡ Some i = sym (issue_at-past issues n past) ∙ h in absurd (cc)
      | inr within ↦ within
    ]

kept_stays : (t : Network) (issues : List Issue) (i j : Issue) (n : ℕ) → IsKept t issues n j → IsKept t (issues ++ i ∷ []) n j
kept_stays t issues i j n kept = record {
  known = kept.known;
  egress = kept.egress;
  placed = elim kept.placed [
    | inl root ↦ inl root
    | inr child ↦ inr (record {
      parent = child.parent;
      kind = child.kind;
      some_parent = child.some_parent;
      earlier = child.earlier;
      is_parent = issue_at-append issues (i ∷ []) j.parent (issue_within issues j.parent child.parent child.is_parent) ∙ child.is_parent;
      position = child.position;
      linked = child.linked;
      behind = child.behind;
    })
  ];
}

grown_kept : (t : Network) (issues : List Issue) (i : Issue) → IssuesKept t issues → IsKept t issues (length issues + 1) i
    → IssuesKept t (issues ++ i ∷ [])
grown_kept t issues i kept new n j h =
    elim (cases_lt (length issues) n) [
      | inr within ↦ kept_stays t issues i j n (kept n j (sym (issue_at-append issues (i ∷ []) n within) ∙ h))
      | inl past ↦
          let within = issue_within (issues ++ i ∷ []) n j h in
          let longer = length-append issues (i ∷ []) in
          let last : n ≡ length issues + 1 = omega arith in
          let found : Some i ≡ Some j = sym (issue_at-next issues i) ∙ (ap (issue_at (issues ++ i ∷ [])) (sym last) ∙ h) in
          let same : i ≡ j = same_Some i j found in
          kept_stays t issues i j n (subst (λ m. IsKept t issues m j) (sym last) (subst (IsKept t issues (length issues + 1)) same new))
    ]

kept_more : (t : Network) (beacons : List Beacon) (b : Beacon) → IssuesKept t (issues_of beacons) → IsKept t (issues_of beacons) (length beacons + 1) (issue_of b)
    → IssuesKept t (issues_of (beacons ++ b ∷ []))
kept_more t beacons b kept new =
    subst (IssuesKept t) (sym (issues_of-append beacons b))
    (grown_kept t (issues_of beacons) (issue_of b) kept
    (subst (λ k. IsKept t (issues_of beacons) (k + 1) (issue_of b)) (sym (length-issues_of beacons)) new))

-- ---- the calls

-- a beacon that begins a chain, of an interface of a link
first_chained : (t : Network) (s : Store) (a : AsId) (out exp now : ℕ) (k : SegKind) → out ≢ 0 → IsFirst (beacon_of t (first_name s a out exp now) 0 k)
unfolding first_name beacon_of
first_chained t s a out exp now k leads = record { no_parent = refl; position = refl; no_ingress = refl; leads_on = leads }

out_of_first : (t : Network) (s : Store) (a : AsId) (out exp now : ℕ) (k : SegKind) → (beacon_of t (first_name s a out exp now) 0 k).name.body.out ≡ out
unfolding first_name beacon_of
out_of_first t s a out exp now k = refl

pub originated_chained : (t : Network) (s : Store) (a : AsId) (out exp now n : ℕ) (b : Beacon) → originated t s a out exp now ≡ Ok b
    → b.name.body.out ≢ 0 → IsChained s.beacons n b
originated_chained t s a out exp now n b h leads =
    let o = originated_ok t s a out exp now b h in
    let k = option_map_or kind_by (link_at t a out) Core in
    let same : b.name.body.out ≡ out = ap (λ (c : Beacon). c.name.body.out) (sym o.is) ∙ out_of_first t s a out exp now k in
    inl (subst IsFirst o.is (first_chained t s a out exp now k (subst (λ m. m ≢ 0) same leads)))

pub originated_kept : (t : Network) (s : Store) (a : AsId) (out exp now : ℕ) (b : Beacon) → IssuesKept t (issues_of s.beacons) → has t a ≡ true
    → originated t s a out exp now ≡ Ok b → IssuesKept t (issues_of (s.beacons ++ b ∷ []))
originated_kept t s a out exp now b kept known h =
    let o = originated_ok t s a out exp now b h in
    let k = option_map_or kind_by (link_at t a out) Core in
    kept_more t s.beacons b kept
    (subst (λ (c : Beacon). IsKept t (issues_of s.beacons) (length s.beacons + 1) (issue_of c)) o.is
    (first_kept t s a out exp now (length s.beacons + 1) k known o.linked))

kind_found : (o : Option LinkKind) → is_none o ≡ false → option_map kind_by o ≡ Some (option_map_or kind_by o Core)
kind_found None h = absurd (cc)
kind_found (Some l) h = refl

first_kind : (t : Network) (s : Store) (a : AsId) (out exp now : ℕ) → is_none (link_at t a out) ≡ false
    → let b = beacon_of t (first_name s a out exp now) 0 (option_map_or kind_by (link_at t a out) Core) in
    option_map kind_by (link_at t b.name.asn b.name.body.out) ≡ Some b.kind
unfolding first_name beacon_of
first_kind t s a out exp now linked = kind_found (link_at t a out) linked

position_of_first : (t : Network) (s : Store) (a : AsId) (out exp now : ℕ)
    → (beacon_of t (first_name s a out exp now) 0 (option_map_or kind_by (link_at t a out) Core)).name.body.pos ≡ 1
unfolding first_name beacon_of
position_of_first t s a out exp now = refl

pub originated_kinds : (t : Network) (s : Store) (a : AsId) (out exp now : ℕ) (b : Beacon) → AreChained s.beacons → KindsKept t s.beacons
    → originated t s a out exp now ≡ Ok b → KindsKept t (s.beacons ++ b ∷ [])
originated_kinds t s a out exp now b chained kinds h =
    let o = originated_ok t s a out exp now b h in
    let c = beacon_of t (first_name s a out exp now) 0 (option_map_or kind_by (link_at t a out) Core) in
    subst (λ (d : Beacon). KindsKept t (s.beacons ++ d ∷ [])) o.is
    (kinds_first t s.beacons c chained kinds (position_of_first t s a out exp now) (first_kind t s a out exp now o.linked))

-- a beacon that goes on

next_chained : (t : Network) (s : Store) (number n out exp : ℕ) (p : Beacon) → number < n → beacon_at s.beacons number ≡ Some p
    → p.name.body.pos ≤ 16 → p.name.body.pos ≢ 16 → stands_in (next_name t s p.name out exp).asn (chain (issues_of s.beacons) number) ≡ false
    → IsNext s.beacons n (beacon_of t (next_name t s p.name out exp) number p.kind)
unfolding next_name beacon_of
next_chained t s number n out exp p earlier there few short apart = record {
  before = p;
  earlier = earlier;
  is_before = there;
  position = refl;
  few = omega arith;
  timestamp = refl;
  apart = apart;
}

pub extended_chained : (t : Network) (s : Store) (number out exp now : ℕ) (b : Beacon) → AreChained s.beacons → extended t s number out exp now ≡ Ok b
    → IsChained s.beacons (length s.beacons + 1) b
extended_chained t s number out exp now b chained h =
    let e = extended_ok t s number out exp now b h in
    let within = (beacon_at-within s.beacons number e.parent e.there).1 in
    inr (subst (IsNext s.beacons (length s.beacons + 1)) e.is
    (next_chained t s number (length s.beacons + 1) out exp e.parent (omega arith) e.there (position_few s.beacons number e.parent chained e.there)
    (eqb-false e.parent.name.body.pos 16 e.short) e.apart))

pub extended_keeps : (t : Network) (s : Store) (number out exp now : ℕ) (b : Beacon) → IssuesKept t (issues_of s.beacons) → has t b.name.asn ≡ true
    → extended t s number out exp now ≡ Ok b → IssuesKept t (issues_of (s.beacons ++ b ∷ []))
extended_keeps t s number out exp now b kept known h =
    kept_more t s.beacons b kept (extended_kept t s number out exp b kept (extended_ok t s number out exp now b h) known)

next_kinds : (t : Network) (s : Store) (number out exp : ℕ) (p : Beacon) → AreChained s.beacons → KindsKept t s.beacons → beacon_at s.beacons number ≡ Some p
    → KindsKept t (s.beacons ++ beacon_of t (next_name t s p.name out exp) number p.kind ∷ [])
unfolding next_name beacon_of
next_kinds t s number out exp p chained kinds there =
    kinds_next t s.beacons (beacon_of t (next_name t s p.name out exp) number p.kind) p chained kinds there refl refl

pub extended_kinds : (t : Network) (s : Store) (number out exp now : ℕ) (b : Beacon) → AreChained s.beacons → KindsKept t s.beacons
    → extended t s number out exp now ≡ Ok b → KindsKept t (s.beacons ++ b ∷ [])
extended_kinds t s number out exp now b chained kinds h =
    let e = extended_ok t s number out exp now b h in
    subst (λ (d : Beacon). KindsKept t (s.beacons ++ d ∷ [])) e.is (next_kinds t s number out exp e.parent chained kinds e.there)

-- what holds of the store as it was, and with the beacon behind the others, holds after a call that issues it
pub issued_either : (P : Store → Type 0) (old new : Store) (b : Beacon) (answer : Result ℕ BeaconError) → Issues old new (Ok b) answer
    → P old → P (with_beacon old b) → P new
issued_either P old new b (Ok n) h was will = subst P (sym h.1) will
issued_either P old new b (Err e) h was will = subst P (sym h.1) was

-- a store without issues fits every topology
pub none_kept : (t : Network) → IssuesKept t []
none_kept t n i h = let e : None ≡ Some i = sym (nothing_at n) ∙ h in absurd (cc)
  where
    nothing_at : (m : ℕ) → issue_at [] m ≡ None
    nothing_at zero = issue_at-zero []
    nothing_at (suc m) = issue_at-past [] (suc m) (omega arith)

pub none_kinds : (t : Network) → KindsKept t []
none_kinds t n b h = let w = beacon_at-within [] n b h in absurd (nothing n w.0 w.1)
  where
    nothing : (m : ℕ) → 0 < m → m ≤ 0 → ⊥
    nothing m some none = absurd (omega arith)

-- the same issues are kept
pub kept_with : (t : Network) (old new : List Beacon) → new ≡ old → IssuesKept t (issues_of old) → IssuesKept t (issues_of new)
kept_with t old new same kept = subst (λ bs. IssuesKept t (issues_of bs)) (sym same) kept
