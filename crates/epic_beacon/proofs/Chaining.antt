-- The chains of a store when one more beacon is put behind the others.
use Rattle.std.proofs.Common.{◌≡◌, ℕ, suc, ◌+◌, ◌≤◌, ◌<◌, List, [], ◌∷◌, ◌++◌, length, refl, sym, ◌∙◌, ap, arith, add-one, subst, inl, inr, length-append}
use Rattle.std.specs.Prelude.{Option, Some, None, option_map, option_and_then, slice_get}
use Rattle.std.specs.Option.{option_map_or}
use Rattle.epic_num.specs.declared.hop.HopName.{HopName}
use Rattle.epic_num.specs.declared.segment.SegKind.{SegKind}
use Rattle.epic_num.specs.Chains.{Issue, last_names, chain}
use Rattle.epic_num.proofs.ChainLaws.{AreKnown, chain-append, last_names-append}
use Rattle.epic_topo.specs.declared.link_kind.LinkKind.{LinkKind}
use Rattle.epic_topo.specs.Network.{Network}
use Rattle.epic_beacon.specs.declared.beacon.Beacon.{Beacon}
use Rattle.epic_beacon.specs.Chained.{IsChained, AreChained}
use Rattle.epic_beacon.specs.Issuing.{link_at, kind_by, stands_in}
use Rattle.epic_beacon.specs.Kinds.{first_link, KindsKept}
use Rattle.epic_beacon.specs.Store.{beacon_at, issue_of, issues_of}
use Rattle.epic_beacon.proofs.Grown.{beacon_at-within, beacon_at-more, beacon_at-stays, beacon_at-next, issues_of-append, length-issues_of}
use Rattle.epic_beacon.proofs.Issued.{issue_there, chain_there}
use Rattle.epic_beacon.proofs.Walked.{issue_at-issues_of}

-- ---- parents

parent_within : (beacons : List Beacon) (n : ℕ) (b : Beacon) → AreChained beacons → beacon_at beacons n ≡ Some b → b.parent ≤ length beacons
parent_within beacons n b chained there =
    let within = (beacon_at-within beacons n b there).1 in
    elim (chained.each n b there) [
      | inl first ↦ let none = first.no_parent in omega arith
      | inr next ↦ let before = next.earlier in omega arith
    ]

of_beacon : (beacons : List Beacon) (n : ℕ) (i : Issue) (o : Option Beacon) → AreChained beacons → beacon_at beacons n ≡ o → option_map issue_of o ≡ Some i
    → i.parent ≤ length (issues_of beacons)
of_beacon beacons n i None chained e h = absurd (cc)
of_beacon beacons n i (Some b) chained e h =
    let is : issue_of b ≡ i = cc in
    subst (λ (j : Issue). j.parent ≤ length (issues_of beacons)) is
    (subst (λ k. b.parent ≤ k) (sym (length-issues_of beacons)) (parent_within beacons n b chained e))

pub known_parents : (beacons : List Beacon) → AreChained beacons → AreKnown (issues_of beacons)
known_parents beacons chained n i h =
    of_beacon beacons n i (beacon_at beacons n) chained refl (sym (issue_at-issues_of beacons n) ∙ h)

-- ---- chains stay

pub chain_stays : (beacons : List Beacon) (b : Beacon) (n : ℕ) → AreChained beacons → n ≤ length beacons
    → chain (issues_of (beacons ++ b ∷ [])) n ≡ chain (issues_of beacons) n
chain_stays beacons b n chained within =
    ap (λ issues. chain issues n) (issues_of-append beacons b)
    ∙ chain-append (issues_of beacons) (issue_of b ∷ []) (known_parents beacons chained) n (subst (λ k. n ≤ k) (sym (length-issues_of beacons)) within)

last_names_stay : (beacons : List Beacon) (b : Beacon) (most n : ℕ) → AreChained beacons → n ≤ length beacons
    → last_names (issues_of (beacons ++ b ∷ [])) most n ≡ last_names (issues_of beacons) most n
last_names_stay beacons b most n chained within =
    ap (λ issues. last_names issues most n) (issues_of-append beacons b)
    ∙ last_names-append (issues_of beacons) (issue_of b ∷ []) (known_parents beacons chained) most n (subst (λ k. n ≤ k) (sym (length-issues_of beacons)) within)

chained_stays : (beacons : List Beacon) (b c : Beacon) (n : ℕ) → AreChained beacons → IsChained beacons n c → IsChained (beacons ++ b ∷ []) n c
chained_stays beacons b c n chained is =
    elim is [
      | inl first ↦ inl first
      | inr next ↦ inr (record {
        before = next.before;
        earlier = next.earlier;
        is_before = beacon_at-stays beacons b next.before c.parent next.is_before;
        position = next.position;
        few = next.few;
        timestamp = next.timestamp;
        apart = ap (stands_in c.name.asn) (chain_stays beacons b c.parent chained (beacon_at-within beacons c.parent next.before next.is_before).1) ∙ next.apart;
      })
    ]

pub chained_more : (beacons : List Beacon) (b : Beacon) → AreChained beacons → length beacons < 65536 → IsChained beacons (length beacons + 1) b
    → AreChained (beacons ++ b ∷ [])
chained_more beacons b chained room new = record {
  few = let e = length-append beacons (b ∷ []) in omega arith;
  each = λ n c h. elim (beacon_at-more beacons b c n h) [
    | inl was ↦ chained_stays beacons b c n chained (chained.each n c was)
    | inr last ↦ chained_stays beacons b c n chained (subst (λ m. IsChained beacons m c) (sym last.0) (subst (IsChained beacons (length beacons + 1)) last.1 new))
  ];
}

-- ---- the chain of the new one

last_next : (beacons : List Beacon) (b : Beacon) (m : ℕ)
    → last_names (issues_of (beacons ++ b ∷ [])) (suc m) (length beacons + 1) ≡ last_names (issues_of (beacons ++ b ∷ [])) m b.parent ++ b.name ∷ []
unfolding last_names
last_next beacons b m =
    ap (λ (o : Option Issue). option_map_or (λ i. last_names (issues_of (beacons ++ b ∷ [])) m i.parent ++ i.name ∷ []) o [])
    (issue_there (beacons ++ b ∷ []) (length beacons + 1) b (beacon_at-next beacons b))

chain_new : (beacons : List Beacon) (b : Beacon) (m : ℕ) → b.name.body.pos ≡ suc m
    → chain (issues_of (beacons ++ b ∷ [])) (length beacons + 1) ≡ last_names (issues_of (beacons ++ b ∷ [])) m b.parent ++ b.name ∷ []
chain_new beacons b m position =
    chain_there (beacons ++ b ∷ []) (length beacons + 1) b (beacon_at-next beacons b)
    ∙ (ap (λ k. last_names (issues_of (beacons ++ b ∷ [])) k (length beacons + 1)) position ∙ last_next beacons b m)

none_left : (issues : List Issue) (n : ℕ) → last_names issues 0 n ≡ []
unfolding last_names
none_left issues n = refl

-- of a first hop the chain is that hop alone
pub chain_first : (beacons : List Beacon) (b : Beacon) → b.name.body.pos ≡ 1
    → chain (issues_of (beacons ++ b ∷ [])) (length beacons + 1) ≡ b.name ∷ []
chain_first beacons b position =
    chain_new beacons b 0 position ∙ ap (λ names. names ++ b.name ∷ []) (none_left (issues_of (beacons ++ b ∷ [])) b.parent)

-- of a next hop it is that of its parent, and the hop
pub chain_next : (beacons : List Beacon) (b p : Beacon) → AreChained beacons → beacon_at beacons b.parent ≡ Some p → b.name.body.pos ≡ p.name.body.pos + 1
    → chain (issues_of (beacons ++ b ∷ [])) (length beacons + 1) ≡ chain (issues_of beacons) b.parent ++ b.name ∷ []
chain_next beacons b p chained there position =
    let within = (beacon_at-within beacons b.parent p there).1 in
    chain_new beacons b p.name.body.pos (position ∙ add-one p.name.body.pos)
    ∙ ap (λ names. names ++ b.name ∷ [])
    (last_names_stay beacons b p.name.body.pos b.parent chained within ∙ sym (chain_there beacons b.parent p there))

-- ---- kinds

link_of : Network → List HopName → Option LinkKind
link_of t names = option_and_then (λ x. link_at t x.asn x.body.out) (slice_get names 0)

first_link-chain : (t : Network) (issues : List Issue) (n : ℕ) → first_link t issues n ≡ link_of t (chain issues n)
unfolding first_link link_of
first_link-chain t issues n = refl

kinds_more : (t : Network) (beacons : List Beacon) (b : Beacon) → AreChained beacons → KindsKept t beacons
    → option_map kind_by (first_link t (issues_of (beacons ++ b ∷ [])) (length beacons + 1)) ≡ Some b.kind → KindsKept t (beacons ++ b ∷ [])
kinds_more t beacons b chained kinds new n c h =
    elim (beacon_at-more beacons b c n h) [
      | inl was ↦
          ap (option_map kind_by)
          (first_link-chain t (issues_of (beacons ++ b ∷ [])) n
          ∙ (ap (link_of t) (chain_stays beacons b n chained (beacon_at-within beacons n c was).1) ∙ sym (first_link-chain t (issues_of beacons) n)))
          ∙ kinds n c was
      | inr last ↦
          subst (λ m. option_map kind_by (first_link t (issues_of (beacons ++ b ∷ [])) m) ≡ Some c.kind) (sym last.0)
          (new ∙ ap (λ (d : Beacon). Some d.kind) last.1)
    ]

link_of_one : (t : Network) (x : HopName) → link_of t (x ∷ []) ≡ link_at t x.asn x.body.out
unfolding link_of
link_of_one t x = refl

-- a first hop has the kind of its own link
pub kinds_first : (t : Network) (beacons : List Beacon) (b : Beacon) → AreChained beacons → KindsKept t beacons → b.name.body.pos ≡ 1
    → option_map kind_by (link_at t b.name.asn b.name.body.out) ≡ Some b.kind → KindsKept t (beacons ++ b ∷ [])
kinds_first t beacons b chained kinds position kind =
    kinds_more t beacons b chained kinds
    (ap (option_map kind_by)
    (first_link-chain t (issues_of (beacons ++ b ∷ [])) (length beacons + 1) ∙ (ap (link_of t) (chain_first beacons b position) ∙ link_of_one t b.name))
    ∙ kind)

same_first : (t : Network) (names : List HopName) (x : HopName) (k : SegKind) → option_map kind_by (link_of t names) ≡ Some k
    → option_map kind_by (link_of t (names ++ x ∷ [])) ≡ Some k
unfolding link_of
same_first t [] x k h = absurd (cc)
same_first t (y ∷ names) x k h = h

-- a next hop has its parent's
pub kinds_next : (t : Network) (beacons : List Beacon) (b p : Beacon) → AreChained beacons → KindsKept t beacons → beacon_at beacons b.parent ≡ Some p
    → b.name.body.pos ≡ p.name.body.pos + 1 → b.kind ≡ p.kind → KindsKept t (beacons ++ b ∷ [])
kinds_next t beacons b p chained kinds there position kind =
    let before : option_map kind_by (link_of t (chain (issues_of beacons) b.parent)) ≡ Some b.kind =
    ap (option_map kind_by) (sym (first_link-chain t (issues_of beacons) b.parent)) ∙ (kinds b.parent p there ∙ ap Some (sym kind)) in
    kinds_more t beacons b chained kinds
    (ap (option_map kind_by)
    (first_link-chain t (issues_of (beacons ++ b ∷ [])) (length beacons + 1) ∙ ap (link_of t) (chain_next beacons b p chained there position))
    ∙ same_first t (chain (issues_of beacons) b.parent) b.name b.kind before)

pub none_chained : AreChained []
none_chained = record {
  few = omega arith;
  each = λ n b h. let w = beacon_at-within [] n b h in absurd (nothing n w.0 w.1);
}
  where
    nothing : (n : ℕ) → 0 < n → n ≤ 0 → ⊥
    nothing n some none = absurd (omega arith)
