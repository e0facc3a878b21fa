-- What the tests of segments and paths say of their hops.
use Rattle.std.proofs.Common.{◌≡◌, ℕ, zero, suc, ◌+◌, ◌-◌, ◌<◌, ◌≤◌, List, [], ◌∷◌, ◌++◌, length, get_or, refl, sym, ◌∙◌, ap, arith, lit≤}
use Rattle.std.specs.Prelude.{Bool, true, false, not, ◌&&◌, ◌||◌, ◌==◌, nat_le, map, Option}
use Rattle.std.specs.List.{list_any, list_all}
use Rattle.std.specs.Option.{option_map_or}
use Rattle.std.proofs.lemmas.Bool.{eqb-true, eq-eqb, leb-true}
use Rattle.std.proofs.lemmas.List.{length-map}
use Rattle.std.proofs.lemmas.List.Elements.{All-get_or}
use Rattle.std.proofs.lemmas.List.Folds.{list_any-append}
use Rattle.std.proofs.lemmas.List.Sums.{AllPass-from_list_all}
use Rattle.std.proofs.lemmas.Option.{slice_get-get_or}
use Rattle.std.proofs.lemmas.Bool.Decides.{Decides-eqb, Decides-like, same_from_decides}
use Rattle.epic_num.specs.declared.name.AsId.{AsId}
use Rattle.epic_num.specs.declared.segment.Leg.{Leg}
use Rattle.epic_num.specs.declared.segment.SegHop.{SegHop}
use Rattle.epic_num.specs.declared.segment.Segment.{Segment}
use Rattle.epic_num.specs.Same.{same_as}
use Rattle.epic_num.specs.Segments.{first_hop, last_hop, are_placed_from, are_different, have_one_ts_path, are_closed, is_well_formed}
use Rattle.epic_num.specs.Paths.{LegKind, UpLeg, CoreLeg, DownLeg, is_lawful, are_lawful_kinds, are_joined, kind_of, hop_count}

-- both parts of a test that passes
both : (x y : Bool) → (x && y) ≡ true → (x ≡ true) × (y ≡ true)
both true y e = (refl, e)
both false y e = absurd (cc)

both_so : (x y : Bool) → x ≡ true → y ≡ true → (x && y) ≡ true
both_so true y e f = f
both_so false y e f = absurd (cc)

neither : (x y : Bool) → (x || y) ≡ false → (x ≡ false) × (y ≡ false)
neither true y e = absurd (cc)
neither false y e = (refl, e)

neither_so : (x y : Bool) → x ≡ false → y ≡ false → (x || y) ≡ false
neither_so true y e f = absurd (cc)
neither_so false y e f = f

not_so : (x : Bool) → not x ≡ true → x ≡ false
not_so true e = absurd (cc)
not_so false e = refl

-- ---- segments

pub placed_at : (hops : List SegHop) (pos k : ℕ) (d : SegHop) → are_placed_from pos hops ≡ true → k < length hops → (get_or hops k d).body.pos ≡ pos + k
unfolding are_placed_from
placed_at [] pos k d e h = absurd (omega arith)
placed_at (x ∷ hops) pos zero d e h = eqb-true x.body.pos pos (both (x.body.pos == pos) (are_placed_from (pos + 1) hops) e).0 ∙ omega arith
placed_at (x ∷ hops) pos (suc k) d e h =
    let rest = placed_at hops (pos + 1) k d (both (x.body.pos == pos) (are_placed_from (pos + 1) hops) e).1 (omega arith) in
    omega arith

-- one more hop at the next position
pub placed_more : (hops : List SegHop) (pos : ℕ) (x : SegHop) → are_placed_from pos hops ≡ true → x.body.pos ≡ pos + length hops → are_placed_from pos (hops ++ x ∷ []) ≡ true
unfolding are_placed_from
placed_more [] pos x e at = both_so (x.body.pos == pos) true (eq-eqb x.body.pos pos (at ∙ omega arith)) refl
placed_more (y ∷ hops) pos x e at =
    let parts = both (y.body.pos == pos) (are_placed_from (pos + 1) hops) e in
    both_so (y.body.pos == pos) (are_placed_from (pos + 1) (hops ++ x ∷ [])) parts.0 (placed_more hops (pos + 1) x parts.1 (at ∙ omega arith))

same_as-flip : (a b : AsId) → same_as a b ≡ same_as b a
unfolding same_as
same_as-flip a b = same_from_decides _ _ (Decides-like (a.0 == b.0) (λ (e : a.0 ≡ b.0). sym e) (λ e. sym e) (Decides-eqb a.0 b.0)) (Decides-eqb b.0 a.0)

-- one more AS that isn't among them
pub different_more : (asns : List AsId) (a : AsId) → are_different asns ≡ true → list_any (λ b. same_as a b) asns ≡ false → are_different (asns ++ a ∷ []) ≡ true
unfolding are_different
different_more [] a e new = refl
different_more (b ∷ asns) a e new =
    let parts = both (not (list_any (λ c. same_as b c) asns)) (are_different asns) e in
    let apart = neither (same_as a b) (list_any (λ c. same_as a c) asns) new in
    let last : (same_as b a || false) ≡ false = neither_so (same_as b a) false (same_as-flip b a ∙ apart.0) refl in
    let absent : list_any (λ c. same_as b c) (asns ++ a ∷ []) ≡ false =
    list_any-append (λ c. same_as b c) asns (a ∷ [])
    ∙ neither_so (list_any (λ c. same_as b c) asns) (same_as b a || false) (not_so (list_any (λ c. same_as b c) asns) parts.0) last in
    both_so (not (list_any (λ c. same_as b c) (asns ++ a ∷ []))) (are_different (asns ++ a ∷ [])) (ap not absent) (different_more asns a parts.1 apart.1)

-- what a well-formed segment is, place by place
pub record IsSegment (hops : List SegHop) : Type 0 where
  pub long : 2 ≤ length hops
  pub placed : are_placed_from 1 hops ≡ true
  pub position : (k : ℕ) (d : SegHop) → k < length hops → (get_or hops k d).body.pos ≡ k + 1
  pub ts_path : (k : ℕ) (d : SegHop) → k < length hops → (get_or hops k d).body.ts_path ≡ (get_or hops 0 d).body.ts_path
  pub different : are_different (map (λ h. h.asn) hops) ≡ true
  pub first_inn : (d : SegHop) → (get_or hops 0 d).body.inn ≡ 0
  pub last_out : (d : SegHop) → (get_or hops (length hops - 1) d).body.out ≡ 0

-- a test of the first hop, at hops that are there
at_first : (hops : List SegHop) (d : SegHop) (test : SegHop → Bool) (otherwise : Bool) → 0 < length hops → option_map_or test (first_hop hops) otherwise ≡ true → test (get_or hops 0 d) ≡ true
unfolding first_hop
at_first hops d test otherwise there e = sym (ap (λ (o : Option SegHop). option_map_or test o otherwise) (slice_get-get_or hops 0 d there)) ∙ e

at_last : (hops : List SegHop) (d : SegHop) (test : SegHop → Bool) (otherwise : Bool) → 0 < length hops → option_map_or test (last_hop hops) otherwise ≡ true → test (get_or hops (length hops - 1) d) ≡ true
unfolding last_hop
at_last hops d test otherwise there e = sym (ap (λ (o : Option SegHop). option_map_or test o otherwise) (slice_get-get_or hops (length hops - 1) d (omega arith))) ∙ e

timed : (hops : List SegHop) (k : ℕ) (d : SegHop) → have_one_ts_path hops ≡ true → k < length hops → (get_or hops k d).body.ts_path ≡ (get_or hops 0 d).body.ts_path
unfolding have_one_ts_path
timed hops k d e h =
    let test = λ (f : SegHop). list_all (λ h. h.body.ts_path == f.body.ts_path) hops in
    let all = at_first hops d test true (omega arith) e in
    let first = get_or hops 0 d in
    eqb-true _ _ (All-get_or (λ x. (x.body.ts_path == first.body.ts_path) ≡ true) hops k d h (AllPass-from_list_all (λ x. x.body.ts_path == first.body.ts_path) hops all))

closed_parts : (hops : List SegHop) (d : SegHop) → are_closed hops ≡ true → 0 < length hops → ((get_or hops 0 d).body.inn ≡ 0) × ((get_or hops (length hops - 1) d).body.out ≡ 0)
unfolding are_closed
closed_parts hops d e there =
    let parts = both (option_map_or (λ h. h.body.inn == 0) (first_hop hops) false) (option_map_or (λ h. h.body.out == 0) (last_hop hops) false) e in
    (eqb-true _ 0 (at_first hops d (λ h. h.body.inn == 0) false there parts.0), eqb-true _ 0 (at_last hops d (λ h. h.body.out == 0) false there parts.1))

pub well_formed : (segment : Segment) → is_well_formed segment ≡ true → IsSegment segment.hops.items
unfolding is_well_formed
well_formed segment e =
    let hops = segment.hops.items in
    let long = nat_le 2 (length hops) in
    let placed = are_placed_from 1 hops in
    let times = have_one_ts_path hops in
    let asns = are_different (map (λ (h : SegHop). h.asn) hops) in
    let closed = both (((long && placed) && times) && asns) (are_closed hops) e in
    let differ = both ((long && placed) && times) asns closed.0 in
    let time = both (long && placed) times differ.0 in
    let place = both long placed time.0 in
    let enough : 2 ≤ length hops = leb-true 2 (length hops) place.0 in
    record {
      long = enough;
      placed = place.1;
      position = λ k d h. placed_at hops 1 k d place.1 h ∙ omega arith;
      ts_path = λ k d h. timed hops k d time.1 h;
      different = differ.1;
      first_inn = λ d. (closed_parts hops d closed.1 (omega arith)).0;
      last_out = λ d. (closed_parts hops d closed.1 (omega arith)).1;
    }

-- ---- paths

pub record IsPath (legs : List Leg) : Type 0 where
  pub some : 1 ≤ length legs
  pub few : length legs ≤ 3
  pub kinds : are_lawful_kinds (map (λ l. kind_of l.segment.kind l.against) legs) ≡ true
  pub segments : (k : ℕ) (d : Leg) → k < length legs → is_well_formed (get_or legs k d).segment ≡ true
  pub short : (k : ℕ) (d : Leg) → k < length legs → length (get_or legs k d).segment.hops.items ≤ 16
  pub joined : are_joined legs ≡ true
  pub hops : hop_count legs ≤ 32

four_kinds : (a b c d : LegKind) (kinds : List LegKind) → are_lawful_kinds (a ∷ b ∷ c ∷ d ∷ kinds) ≡ false
unfolding are_lawful_kinds
four_kinds UpLeg UpLeg c d kinds = refl
four_kinds UpLeg CoreLeg UpLeg d kinds = refl
four_kinds UpLeg CoreLeg CoreLeg d kinds = refl
four_kinds UpLeg CoreLeg DownLeg d kinds = refl
four_kinds UpLeg DownLeg c d kinds = refl
four_kinds CoreLeg UpLeg c d kinds = refl
four_kinds CoreLeg CoreLeg c d kinds = refl
four_kinds CoreLeg DownLeg c d kinds = refl
four_kinds DownLeg b c d kinds = refl

some_kinds : (kinds : List LegKind) → are_lawful_kinds kinds ≡ true → (1 ≤ length kinds) × (length kinds ≤ 3)
unfolding are_lawful_kinds
some_kinds [] e = absurd (cc)
some_kinds (a ∷ []) e = (lit≤ tt, lit≤ tt)
some_kinds (a ∷ b ∷ []) e = (lit≤ tt, lit≤ tt)
some_kinds (a ∷ b ∷ c ∷ []) e = (lit≤ tt, lit≤ tt)
some_kinds (a ∷ b ∷ c ∷ d ∷ kinds) e = absurd (cc (four_kinds a b c d kinds))

pub lawful : (legs : List Leg) → is_lawful legs ≡ true → IsPath legs
unfolding is_lawful
lawful legs e =
    let kinds = are_lawful_kinds (map (λ (l : Leg). kind_of l.segment.kind l.against) legs) in
    let fits = λ (l : Leg). is_well_formed l.segment && nat_le (length l.segment.hops.items) 16 in
    let joined = are_joined legs in
    let few = both ((kinds && list_all fits legs) && joined) (nat_le (hop_count legs) 32) e in
    let meet = both (kinds && list_all fits legs) joined few.0 in
    let each = both kinds (list_all fits legs) meet.0 in
    let kind = λ (l : Leg). kind_of l.segment.kind l.against in
    let count : (1 ≤ length legs) × (length legs ≤ 3) = simp length-map at (some_kinds (map kind legs) each.0) in
    let at = λ (k : ℕ) (d : Leg) (h : k < length legs).
    both (is_well_formed (get_or legs k d).segment) (nat_le (length (get_or legs k d).segment.hops.items) 16)
    (All-get_or (λ l. fits l ≡ true) legs k d h (AllPass-from_list_all fits legs each.1)) in
    record {
      some = omega (arith, count.0);
      few = omega (arith, count.1);
      kinds = each.0;
      segments = λ k d h. (at k d h).0;
      short = λ k d h. leb-true _ 16 (at k d h).1;
      joined = meet.1;
      hops = leb-true (hop_count legs) 32 few.1;
    }
