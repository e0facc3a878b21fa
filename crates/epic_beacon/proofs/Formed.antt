-- The hops of an ended chain make a well-formed segment.
use Rattle.std.proofs.Common.{◌≡◌, ℕ, zero, suc, ◌+◌, ◌-◌, ◌≤◌, ◌<◌, Bool, true, false, ◌&&◌, ◌||◌, not, ◌==◌, List, [], ◌∷◌, ◌++◌, length, refl, sym, ◌∙◌, ap, arith, subst, length-append, inl, inr}
use Rattle.std.specs.Prelude.{Option, Some, None, Err, Ok, if◌then◌else◌, map, nat_le, slice_get}
use Rattle.std.specs.List.{list_any, list_all}
use Rattle.std.specs.Option.{option_map_or}
use Rattle.std.proofs.lemmas.Bool.{eq-eqb, eqb-true}
use Rattle.std.proofs.lemmas.Bool.Decides.{nat_tests}
use Rattle.epic_num.specs.declared.name.AsId.{AsId}
use Rattle.epic_num.specs.declared.segment.SegHop.{SegHop}
use Rattle.epic_num.specs.declared.segment.Segment.{Segment}
use Rattle.epic_num.specs.Chains.{last_names, chain}
use Rattle.epic_num.specs.Same.{same_as}
use Rattle.epic_num.specs.Segments.{are_placed_from, are_different, first_hop, last_hop, have_one_ts_path, are_closed, is_well_formed}
use Rattle.epic_beacon.specs.declared.beacon.Beacon.{Beacon}
use Rattle.epic_beacon.specs.Chained.{IsFirst, AreChained}
use Rattle.epic_beacon.specs.Segments.{hop_of, name_of_hop, last_hops, segment_to, segment, IsSegment}
use Rattle.epic_beacon.specs.declared.segment.SegmentError.TheVariants.{Unknown, NotEnded}
use Rattle.epic_beacon.specs.Issuing.{stands_in}
use Rattle.epic_beacon.specs.Laws.{SegmentsAreChains}
use Rattle.epic_beacon.specs.Store.{beacon_at, issues_of}
use Rattle.epic_beacon.proofs.Issued.{chain_there, position_few}
use Rattle.epic_beacon.proofs.Walked.{last_names-there, last_names-gone}

-- ---- tests

both : (a b : Bool) → (a && b) ≡ true → (a ≡ true) × (b ≡ true)
both true b h = (refl, h)
both false b h = absurd (cc)

and_so : (a b : Bool) → a ≡ true → b ≡ true → (a && b) ≡ true
and_so a b h k = ap (λ t. t && b) h ∙ k

neither : (a b : Bool) → (a || b) ≡ false → (a ≡ false) × (b ≡ false)
neither true b h = absurd (cc)
neither false b h = (refl, h)

nor_so : (a b : Bool) → a ≡ false → b ≡ false → (a || b) ≡ false
nor_so a b h k = ap (λ t. t || b) h ∙ k

-- ---- one more hop behind the others

placed_last : (k : ℕ) (xs : List SegHop) (y : SegHop) → are_placed_from k xs ≡ true → y.body.pos ≡ k + length xs → are_placed_from k (xs ++ y ∷ []) ≡ true
unfolding are_placed_from
placed_last k [] y h e = and_so (y.body.pos == k) true (eq-eqb y.body.pos k (omega arith)) refl
placed_last k (x ∷ xs) y h e =
    let parts = both (x.body.pos == k) (are_placed_from (k + 1) xs) h in
    and_so (x.body.pos == k) (are_placed_from (k + 1) (xs ++ y ∷ [])) parts.0 (placed_last (k + 1) xs y parts.1 (omega arith))

all_last : (p : SegHop → Bool) (xs : List SegHop) (y : SegHop) → list_all p xs ≡ true → p y ≡ true → list_all p (xs ++ y ∷ []) ≡ true
all_last p [] y h e = and_so (p y) true e refl
all_last p (x ∷ xs) y h e = let parts = both (p x) (list_all p xs) h in and_so (p x) (list_all p (xs ++ y ∷ [])) parts.0 (all_last p xs y parts.1 e)

none_last : (p : AsId → Bool) (xs : List AsId) (y : AsId) → list_any p xs ≡ false → p y ≡ false → list_any p (xs ++ y ∷ []) ≡ false
none_last p [] y h e = nor_so (p y) false e refl
none_last p (x ∷ xs) y h e = let parts = neither (p x) (list_any p xs) h in nor_so (p x) (list_any p (xs ++ y ∷ [])) parts.0 (none_last p xs y parts.1 e)

is_not : (b : Bool) → not b ≡ true → b ≡ false
is_not true h = absurd (cc)
is_not false h = refl

different_last : (xs : List AsId) (y : AsId) → are_different xs ≡ true → list_any (λ c. same_as c y) xs ≡ false → are_different (xs ++ y ∷ []) ≡ true
unfolding are_different
different_last [] y h e = refl
different_last (x ∷ xs) y h e =
    let parts = both (not (list_any (λ b. same_as x b) xs)) (are_different xs) h in
    let apart = neither (same_as x y) (list_any (λ c. same_as c y) xs) e in
    and_so (not (list_any (λ b. same_as x b) (xs ++ y ∷ []))) (are_different (xs ++ y ∷ []))
    (ap not (none_last (λ b. same_as x b) xs y (is_not (list_any (λ b. same_as x b) xs) parts.0) apart.0))
    (different_last xs y parts.1 apart.1)

map_last : {A B : Type 0} (f : A → B) (xs : List A) (y : A) → map f (xs ++ y ∷ []) ≡ map f xs ++ f y ∷ []
map_last f [] y = refl
map_last f (x ∷ xs) y = ap (λ zs. f x ∷ zs) (map_last f xs y)

first_stays : (p : SegHop → Bool) (xs : List SegHop) (y : SegHop) → option_map_or p (slice_get xs 0) false ≡ true → option_map_or p (slice_get (xs ++ y ∷ []) 0) false ≡ true
first_stays p [] y h = absurd (cc)
first_stays p (x ∷ xs) y h = h

at_end : (xs : List SegHop) (y : SegHop) → slice_get (xs ++ y ∷ []) (length xs) ≡ Some y
at_end [] y = refl
at_end (x ∷ xs) y = at_end xs y

-- ---- names

pub hops_there : (beacons : List Beacon) (most n : ℕ) (b : Beacon) → beacon_at beacons n ≡ Some b
    → last_hops beacons (suc most) n ≡ last_hops beacons most b.parent ++ hop_of n b ∷ []
unfolding last_hops
hops_there beacons most n b there =
    ap (λ (o : Option Beacon). option_map_or (λ c. last_hops beacons most c.parent ++ hop_of n c ∷ []) o []) there

pub hops_gone : (beacons : List Beacon) (most n : ℕ) → beacon_at beacons n ≡ None → last_hops beacons (suc most) n ≡ []
unfolding last_hops
hops_gone beacons most n gone =
    ap (λ (o : Option Beacon). option_map_or (λ c. last_hops beacons most c.parent ++ hop_of n c ∷ []) o []) gone

pub no_hops : (beacons : List Beacon) (n : ℕ) → last_hops beacons 0 n ≡ []
unfolding last_hops
no_hops beacons n = refl

no_names : (beacons : List Beacon) (n : ℕ) → last_names (issues_of beacons) 0 n ≡ []
unfolding last_names
no_names beacons n = refl

names_by : (beacons : List Beacon) (most n : ℕ) (o : Option Beacon) → beacon_at beacons n ≡ o
    → ((m : ℕ) → map name_of_hop (last_hops beacons most m) ≡ last_names (issues_of beacons) most m)
    → map name_of_hop (last_hops beacons (suc most) n) ≡ last_names (issues_of beacons) (suc most) n
names_by beacons most n None e before = ap (map name_of_hop) (hops_gone beacons most n e) ∙ sym (last_names-gone beacons most n e)
names_by beacons most n (Some b) e before =
    ap (map name_of_hop) (hops_there beacons most n b e)
    ∙ (map_last name_of_hop (last_hops beacons most b.parent) (hop_of n b)
    ∙ (ap (λ names. names ++ b.name ∷ []) (before b.parent)
    ∙ sym (last_names-there beacons most n b e)))

pub names_of : (beacons : List Beacon) (most n : ℕ) → map name_of_hop (last_hops beacons most n) ≡ last_names (issues_of beacons) most n
names_of beacons zero n = ap (map name_of_hop) (no_hops beacons n) ∙ sym (no_names beacons n)
names_of beacons (suc most) n = names_by beacons most n (beacon_at beacons n) refl (names_of beacons most)

stands_among : (a : AsId) (hops : List SegHop) → stands_in a (map name_of_hop hops) ≡ list_any (λ c. same_as c a) (map (λ h. h.asn) hops)
unfolding stands_in
stands_among a [] = refl
stands_among a (h ∷ hops) = ap (λ t. same_as h.asn a || t) (stands_among a hops)

-- ---- a row of hops that ends with a beacon's

record IsRow (n : ℕ) (b : Beacon) (hops : List SegHop) : Type 0 where
  front : List SegHop
  last : hops ≡ front ++ hop_of n b ∷ []
  count : length hops ≡ b.name.body.pos
  placed : are_placed_from 1 hops ≡ true
  one_time : list_all (λ h. h.body.ts_path == b.name.body.ts_path) hops ≡ true
  apart : are_different (map (λ h. h.asn) hops) ≡ true
  begins : option_map_or (λ h. h.body.inn == 0) (slice_get hops 0) false ≡ true

first_row : (n : ℕ) (b : Beacon) → IsFirst b → IsRow n b (hop_of n b ∷ [])
unfolding are_placed_from are_different
first_row n b first = record {
  front = [];
  last = refl;
  count = sym first.position;
  placed = and_so (b.name.body.pos == 1) true (eq-eqb b.name.body.pos 1 first.position) refl;
  one_time = and_so (b.name.body.ts_path == b.name.body.ts_path) true (eq-eqb b.name.body.ts_path b.name.body.ts_path refl) refl;
  apart = refl;
  begins = eq-eqb b.name.body.inn 0 first.no_ingress;
}

next_row : (n : ℕ) (b p : Beacon) (m : ℕ) (hops : List SegHop) → IsRow m p hops → b.name.body.pos ≡ p.name.body.pos + 1
    → b.name.body.ts_path ≡ p.name.body.ts_path → list_any (λ c. same_as c b.name.asn) (map (λ h. h.asn) hops) ≡ false
    → IsRow n b (hops ++ hop_of n b ∷ [])
next_row n b p m hops row position time apart = record {
  front = hops;
  last = refl;
  count = let e = length-append hops (hop_of n b ∷ []) in let c = row.count in omega arith;
  placed = placed_last 1 hops (hop_of n b) row.placed (let c = row.count in omega arith);
  one_time = all_last (λ h. h.body.ts_path == b.name.body.ts_path) hops (hop_of n b)
      (subst (λ t. list_all (λ h. h.body.ts_path == t) hops ≡ true) (sym time) row.one_time)
      (eq-eqb b.name.body.ts_path b.name.body.ts_path refl);
  apart = ap are_different (map_last (λ h. h.asn) hops (hop_of n b)) ∙ different_last (map (λ h. h.asn) hops) b.name.asn row.apart apart;
  begins = first_stays (λ h. h.body.inn == 0) hops (hop_of n b) row.begins;
}

some_position : (beacons : List Beacon) (n : ℕ) (b : Beacon) → AreChained beacons → beacon_at beacons n ≡ Some b → 0 < b.name.body.pos
some_position beacons n b chained there =
    elim (chained.each n b there) [ inl first ↦ let h = first.position in omega arith | inr next ↦ let h = next.position in omega arith ]

apart_hops : (beacons : List Beacon) (n : ℕ) (p : Beacon) (a : AsId) → beacon_at beacons n ≡ Some p → stands_in a (chain (issues_of beacons) n) ≡ false
    → list_any (λ c. same_as c a) (map (λ h. h.asn) (last_hops beacons p.name.body.pos n)) ≡ false
apart_hops beacons n p a there apart =
    sym (stands_among a (last_hops beacons p.name.body.pos n))
    ∙ (ap (stands_in a) (names_of beacons p.name.body.pos n ∙ sym (chain_there beacons n p there)) ∙ apart)

first_hops : (beacons : List Beacon) (n : ℕ) (b : Beacon) → beacon_at beacons n ≡ Some b → last_hops beacons 1 n ≡ hop_of n b ∷ []
first_hops beacons n b there = hops_there beacons 0 n b there ∙ ap (λ hops. hops ++ hop_of n b ∷ []) (no_hops beacons b.parent)

-- a beacon's hops are such a row
rows : (beacons : List Beacon) (chained : AreChained beacons) (m n : ℕ) (b : Beacon) → beacon_at beacons n ≡ Some b → b.name.body.pos ≡ suc m
    → IsRow n b (last_hops beacons (suc m) n)
rows beacons chained zero n b there position =
    elim (chained.each n b there) [
      | inl first ↦ subst (IsRow n b) (sym (first_hops beacons n b there)) (first_row n b first)
      | inr next ↦
          let some = some_position beacons b.parent next.before chained next.is_before in
          let same = next.position in
          absurd (omega arith)
    ]
rows beacons chained (suc m) n b there position =
    elim (chained.each n b there) [
      | inl first ↦ let one = first.position in absurd (omega arith)
      | inr next ↦
          let p = next.before in
          let same = next.position in
          let before : p.name.body.pos ≡ suc m = omega arith in
          let row = rows beacons chained m b.parent p next.is_before before in
          let apart = subst (λ k. list_any (λ c. same_as c b.name.asn) (map (λ h. h.asn) (last_hops beacons k b.parent)) ≡ false) before
          (apart_hops beacons b.parent p b.name.asn next.is_before next.apart) in
          subst (IsRow n b) (sym (hops_there beacons (suc m) n b there))
          (next_row n b p b.parent (last_hops beacons (suc m) b.parent) row next.position next.timestamp apart)
    ]

-- ---- well formed

one_time_of : (hops : List SegHop) (ts : ℕ) → list_all (λ h. h.body.ts_path == ts) hops ≡ true → have_one_ts_path hops ≡ true
unfolding have_one_ts_path first_hop
one_time_of [] ts h = refl
one_time_of (x ∷ hops) ts h =
    let parts = both (x.body.ts_path == ts) (list_all (λ h. h.body.ts_path == ts) hops) h in
    subst (λ t. list_all (λ h. h.body.ts_path == t) (x ∷ hops) ≡ true) (sym (eqb-true x.body.ts_path ts parts.0)) h

ends_at : (front : List SegHop) (y : SegHop) → y.body.out ≡ 0 → option_map_or (λ h. h.body.out == 0) (last_hop (front ++ y ∷ [])) false ≡ true
unfolding last_hop
ends_at front y ended =
    let e = length-append front (y ∷ []) in
    let place : length (front ++ y ∷ []) - 1 ≡ length front = omega arith in
    ap (λ k. option_map_or (λ h. h.body.out == 0) (slice_get (front ++ y ∷ []) k) false) place
    ∙ (ap (λ o. option_map_or (λ h. h.body.out == 0) o false) (at_end front y) ∙ eq-eqb y.body.out 0 ended)

closed_of : (hops : List SegHop) → option_map_or (λ h. h.body.inn == 0) (slice_get hops 0) false ≡ true
    → option_map_or (λ h. h.body.out == 0) (last_hop hops) false ≡ true → are_closed hops ≡ true
unfolding are_closed first_hop
closed_of hops h k =
    and_so (option_map_or (λ x. x.body.inn == 0) (slice_get hops 0) false) (option_map_or (λ x. x.body.out == 0) (last_hop hops) false) h k

two_at_least : (n : ℕ) → 2 ≤ n → nat_le 2 n ≡ true
two_at_least n h = grind (arith, nat_tests)

formed_of : (s : Segment) (n : ℕ) (b : Beacon) → IsRow n b s.hops.items → 2 ≤ b.name.body.pos → b.name.body.out ≡ 0 → is_well_formed s ≡ true
unfolding is_well_formed
formed_of s n b row long ended =
    let hops = s.hops.items in
    let two = two_at_least (length hops) (subst (λ k. 2 ≤ k) (sym row.count) long) in
    let time = one_time_of hops b.name.body.ts_path row.one_time in
    let ends = subst (λ xs. option_map_or (λ h. h.body.out == 0) (last_hop xs) false ≡ true) (sym row.last) (ends_at row.front (hop_of n b) ended) in
    and_so (nat_le 2 (length hops) && are_placed_from 1 hops && have_one_ts_path hops && are_different (map (λ h. h.asn) hops)) (are_closed hops)
    (and_so (nat_le 2 (length hops) && are_placed_from 1 hops && have_one_ts_path hops) (are_different (map (λ h. h.asn) hops))
    (and_so (nat_le 2 (length hops) && are_placed_from 1 hops) (have_one_ts_path hops)
    (and_so (nat_le 2 (length hops)) (are_placed_from 1 hops) two row.placed) time) row.apart)
    (closed_of hops row.begins ends)

long_enough : (beacons : List Beacon) (n : ℕ) (b : Beacon) → AreChained beacons → beacon_at beacons n ≡ Some b → b.name.body.out ≡ 0 → 2 ≤ b.name.body.pos
long_enough beacons n b chained there ended =
    elim (chained.each n b there) [
      | inl first ↦ absurd (first.leads_on ended)
      | inr next ↦ let some = some_position beacons b.parent next.before chained next.is_before in let same = next.position in omega arith
    ]

row_of : (beacons : List Beacon) (n : ℕ) (b : Beacon) → AreChained beacons → beacon_at beacons n ≡ Some b → IsRow n b (last_hops beacons b.name.body.pos n)
row_of beacons n b chained there =
    let some = some_position beacons n b chained there in
    let e : b.name.body.pos ≡ suc (b.name.body.pos - 1) = omega arith in
    subst (λ k. IsRow n b (last_hops beacons k n)) (sym e) (rows beacons chained (b.name.body.pos - 1) n b there e)

last_of_row : (front : List SegHop) (y : SegHop) → last_hop (front ++ y ∷ []) ≡ Some y
unfolding last_hop
last_of_row front y =
    let e = length-append front (y ∷ []) in
    let place : length (front ++ y ∷ []) - 1 ≡ length front = omega arith in
    ap (slice_get (front ++ y ∷ [])) place ∙ at_end front y

-- the hops of an ended chain, and its kind, make its segment
ended_segment : (beacons : List Beacon) (n : ℕ) (b : Beacon) → AreChained beacons → beacon_at beacons n ≡ Some b → b.name.body.out ≡ 0
    → IsSegment beacons n (segment_to beacons n b)
unfolding segment_to
ended_segment beacons n b chained there ended =
    let row = row_of beacons n b chained there in
    record {
      last = b;
      is_last = there;
      ended = ended;
      kind = refl;
      names = names_of beacons b.name.body.pos n ∙ sym (chain_there beacons n b there);
      last_is = ap last_hop row.last ∙ last_of_row row.front (hop_of n b);
      few = let position = position_few beacons n b chained there in let count = row.count in omega arith;
      well_formed = formed_of (segment_to beacons n b) n b row (long_enough beacons n b chained there ended) ended;
    }

-- what a segment is made of
pub record Made (beacons : List Beacon) (n : ℕ) (s : Segment) : Type 0 where
  pub last : Beacon
  pub there : beacon_at beacons n ≡ Some last
  pub ended : last.name.body.out ≡ 0
  pub is : segment_to beacons n last ≡ s

pub segment_made : (beacons : List Beacon) (n : ℕ) (s : Segment) → segment beacons n ≡ Ok s → Made beacons n s
unfolding segment
segment_made beacons n s h = found (beacon_at beacons n) refl h
  where
    ends : (b : Beacon) (t : Bool) → beacon_at beacons n ≡ Some b → (b.name.body.out == 0) ≡ t
        → (if t then Ok (segment_to beacons n b) else Err NotEnded) ≡ Ok s → Made beacons n s
    ends b true there last e =
        let same : segment_to beacons n b ≡ s = cc in
        record { last = b; there = there; ended = eqb-true b.name.body.out 0 last; is = same }
    ends b false there last e = absurd (cc)

    found : (o : Option Beacon) → beacon_at beacons n ≡ o
        → option_map_or (λ b. if b.name.body.out == 0 then Ok (segment_to beacons n b) else Err NotEnded) o (Err Unknown) ≡ Ok s → Made beacons n s
    found None e h = absurd (cc)
    found (Some b) e h = ends b (b.name.body.out == 0) e refl h

pub segment_is : SegmentsAreChains
segment_is beacons n s chained h =
    let m = segment_made beacons n s h in
    subst (IsSegment beacons n) m.is (ended_segment beacons n m.last chained m.there m.ended)
