-- A map that leads to twins still does with one more beacon behind the others.
use Rattle.std.proofs.Common.{◌≡◌, ℕ, ◌+◌, ◌<◌, ◌≤◌, Bool, true, not, cond, ◌&&◌, ◌==◌, eqb, List, [], ◌∷◌, ◌++◌, length, Some, None, Option, BTreeMap, nat_cmp, is_eq, refl, ap, sym, subst, ◌∙◌, arith}
use Rattle.std.specs.Prelude.{nat_lt, option_map, position}
use Rattle.std.specs.List.{position_or_len}
use Rattle.std.specs.BTreeMap.{get, is_at}
use Rattle.std.specs.Map.{lookup}
use Rattle.std.specs.Cmp.{tied_then}
use Rattle.std.specs.Ordering.{ordering_then}
use Rattle.std.specs.declared.cmp.Ordering.{Ordering}
use Rattle.std.proofs.lemmas.Bool.{and_parts, eqb-true}
use Rattle.std.proofs.lemmas.Bool.Decides.{nat_tests}
use Rattle.std.proofs.lemmas.List.{length_push}
use Rattle.std.proofs.lemmas.List.Folds.{position_or_len_push}
use Rattle.std.proofs.lemmas.List.Sums.{prefix_len-le-length}
use Rattle.epic_num.specs.declared.hop.HopName.{HopName}
use Rattle.epic_num.specs.Same.{same_as}
use Rattle.epic_beacon.specs.declared.beacon.Beacon.{Beacon}
use Rattle.epic_beacon.specs.Chained.{IsChained}
use Rattle.epic_beacon.specs.Issuing.{is_twin, twin}
use Rattle.epic_beacon.specs.Twins.{Likeness, likeness, likeness_cmp, AreIndexed}
use Rattle.epic_beacon.proofs.Chaining.{chained_more, none_chained}

-- ---- the order of keys tells twins

same_number : (a b : ℕ) → (a == b) ≡ is_eq (nat_cmp a b)
same_number a b = grind (arith, nat_tests)

-- one more part
part : (t : Bool) (o : Ordering) (a b : ℕ) → t ≡ is_eq o → (t && a == b) ≡ is_eq (ordering_then o (nat_cmp a b))
part t o a b e = ap (λ s. s && a == b) e ∙ (ap (λ s. is_eq o && s) (same_number a b) ∙ tied_then o (nat_cmp a b))

twins_tie : (x : HopName) (parent : ℕ) (b : Beacon) → is_twin x parent b ≡ is_eq (likeness_cmp (likeness b.name b.parent) (likeness x parent))
unfolding is_twin same_as
twins_tie x parent b =
    part _ _ b.name.generation x.generation
    (part _ _ b.name.body.ts_path x.body.ts_path
    (part _ _ b.name.body.exp x.body.exp
    (part _ _ b.name.body.out x.body.out (part _ _ b.parent parent (same_number b.name.asn.0 x.asn.0)))))

-- ---- a hop and its twin have the same twins

with_likeness : List Beacon → Likeness → Option ℕ
with_likeness beacons k =
    option_map (λ i. i + 1) (position (λ (b : Beacon). b.name.asn.0 == k.0 && b.parent == k.1 && b.name.body.out == k.2
    && b.name.body.exp == k.3 && b.name.body.ts_path == k.4 && b.name.generation == k.5) beacons)

twin_by_likeness : (beacons : List Beacon) (x : HopName) (parent : ℕ) → twin beacons x parent ≡ with_likeness beacons (likeness x parent)
unfolding twin is_twin same_as with_likeness
twin_by_likeness beacons x parent = refl

same_likeness : (x : HopName) (parent : ℕ) (b : Beacon) → is_twin x parent b ≡ true → likeness b.name b.parent ≡ likeness x parent
unfolding is_twin same_as
same_likeness x parent b h =
    let first = b.name.asn.0 == x.asn.0 in
    let second = first && b.parent == parent in
    let third = second && b.name.body.out == x.body.out in
    let fourth = third && b.name.body.exp == x.body.exp in
    let fifth = fourth && b.name.body.ts_path == x.body.ts_path in
    let f = and_parts fifth (b.name.generation == x.generation) h in
    let e = and_parts fourth (b.name.body.ts_path == x.body.ts_path) f.0 in
    let d = and_parts third (b.name.body.exp == x.body.exp) e.0 in
    let c = and_parts second (b.name.body.out == x.body.out) d.0 in
    let a = and_parts first (b.parent == parent) c.0 in
    λ i. (
      eqb-true b.name.asn.0 x.asn.0 a.0 i,
      eqb-true b.parent parent a.1 i,
      eqb-true b.name.body.out x.body.out c.1 i,
      eqb-true b.name.body.exp x.body.exp d.1 i,
      eqb-true b.name.body.ts_path x.body.ts_path e.1 i,
      eqb-true b.name.generation x.generation f.1 i,
    )

same_twin : (beacons : List Beacon) (x : HopName) (parent : ℕ) (b : Beacon) → is_twin x parent b ≡ true
    → twin beacons x parent ≡ twin beacons b.name b.parent
same_twin beacons x parent b h =
    twin_by_likeness beacons x parent
    ∙ (ap (with_likeness beacons) (sym (same_likeness x parent b h)) ∙ sym (twin_by_likeness beacons b.name b.parent))

-- ---- one more beacon

found_later : (n l m : ℕ) (t : Bool) → n ≤ l → m ≡ cond (eqb n l) (l + cond t 0 1) n
    → (t ≡ true → option_map (λ i. i + 1) (cond (nat_lt n l) (Some n) None) ≡ None)
    → option_map (λ i. i + 1) (cond (nat_lt m (l + 1)) (Some m) None) ≡ cond t (Some (l + 1)) (option_map (λ i. i + 1) (cond (nat_lt n l) (Some n) None))
found_later n l m t le e none = grind (arith, nat_tests)

twin_more : (beacons : List Beacon) (b : Beacon) (x : HopName) (parent : ℕ) → (is_twin x parent b ≡ true → twin beacons x parent ≡ None)
    → twin (beacons ++ b ∷ []) x parent ≡ cond (is_twin x parent b) (Some (length beacons + 1)) (twin beacons x parent)
unfolding twin
twin_more beacons b x parent none =
    let p = is_twin x parent in
    rw (length_push beacons b) (found_later (position_or_len p beacons) (length beacons) (position_or_len p (beacons ++ b ∷ [])) (p b)
    (prefix_len-le-length (λ c. not (p c)) beacons) (position_or_len_push p beacons b) none)

-- ---- the map

pub indexed_more : (twins more : BTreeMap Likeness ℕ) (beacons : List Beacon) (b : Beacon) → AreIndexed twins beacons
    → length beacons < 65536 → IsChained beacons (length beacons + 1) b → twin beacons b.name b.parent ≡ None
    → ((q : Likeness) → get likeness_cmp more q ≡ cond (is_eq (likeness_cmp (likeness b.name b.parent) q)) (Some (length beacons + 1)) (get likeness_cmp twins q))
    → AreIndexed more (beacons ++ b ∷ [])
indexed_more twins more beacons b h room is new put = record {
  chained = chained_more beacons b h.chained room is;
  leads = λ x parent.
      put (likeness x parent)
      ∙ (ap (λ t. cond t (Some (length beacons + 1)) (get likeness_cmp twins (likeness x parent))) (sym (twins_tie x parent b))
      ∙ (ap (cond (is_twin x parent b) (Some (length beacons + 1))) (h.leads x parent)
      ∙ sym (twin_more beacons b x parent (λ e. same_twin beacons x parent b e ∙ new))));
}

-- the same beacons, and a map with the same entries
pub indexed_same : (twins more : BTreeMap Likeness ℕ) (beacons new : List Beacon) → new ≡ beacons → more.entries ≡ twins.entries
    → AreIndexed twins beacons → AreIndexed more new
indexed_same twins more beacons new same entries h =
    subst (AreIndexed more) (sym same) (record {
      chained = h.chained;
      leads = λ x parent. ap (λ es. lookup (is_at (likeness_cmp (likeness x parent))) es) entries ∙ h.leads x parent;
    })

no_twin : (x : HopName) (parent : ℕ) → twin [] x parent ≡ None
unfolding twin
no_twin x parent = refl

-- a map without entries leads to none
pub none_indexed : (twins : BTreeMap Likeness ℕ) → twins.entries ≡ [] → AreIndexed twins []
none_indexed twins none = record {
  chained = none_chained;
  leads = λ x parent. ap (λ es. lookup (is_at (likeness_cmp (likeness x parent))) es) none ∙ sym (no_twin x parent);
}
