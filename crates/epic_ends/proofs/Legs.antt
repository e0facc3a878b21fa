-- The hops of a path, by its legs.
use Rattle.std.proofs.Common.{◌≡◌, ◌≢◌, ℕ, zero, suc, ◌+◌, ◌-◌, ◌<◌, ◌≤◌, ◌⊎◌, inl, inr, Bool, true, false, List, [], ◌∷◌, ◌++◌, length, get_or, map, Option, None, Some, refl, ap, sym, subst, ◌∙◌, ⊎_elim, arith, length-append}
use Rattle.std.specs.Prelude.{◌==◌, ◌&&◌, nat_lt, reverse, flat_map, slice_get, slice_index_or, option_map, unwrap_or, if◌then◌else◌}
use Rattle.std.specs.Option.{option_map_or}
use Rattle.std.proofs.lemmas.Bool.{cond-true, cond-false, cond_both, cases_Bool, cases_lt, and_parts, eqb-true, both_ways}
use Rattle.std.proofs.lemmas.List.{get_or_append_left, get_or-append_right, get_or-reverse, length-reverse, get_or_default}
use Rattle.std.proofs.lemmas.List.Sums.{sum_by-cons}
use Rattle.std.proofs.lemmas.Option.{slice_get-get_or, get_or_from_slice_get}
use Rattle.epic_num.specs.declared.name.AsId.{AsId}
use Rattle.epic_num.specs.declared.segment.Leg.{Leg}
use Rattle.epic_num.specs.declared.segment.SegHop.{SegHop}
use Rattle.epic_num.specs.Paths.{start_of, end_of, meets, are_joined, travelled, path_hops, path_start, path_end, hop_count}
use Rattle.epic_num.specs.Segments.{first_hop, last_hop, first_as, last_as}
use Rattle.epic_num.specs.Same.{same_as}
use Rattle.epic_num.proofs.SameLaws.{same_as-Decides}
use Rattle.epic_layout.specs.declared.head.HopPlace.{HopPlace}
use Rattle.epic_layout.specs.declared.head.SegmentHead.{SegmentHead}
use Rattle.epic_layout.specs.PathRoutes.{head_of}
use Rattle.epic_layout.specs.Route.{place, place_from, position, is_last, hops_of}
use Rattle.epic_layout.proofs.HopPlaces.{hops_of-cons, hops_of-nil, place_from_here, place_from_later}

-- ---- one leg

count_is : (leg : Leg) → (head_of leg).count ≡ length leg.segment.hops.items
unfolding head_of
count_is leg = refl

pub against_is : (leg : Leg) → (head_of leg).against ≡ leg.against
unfolding head_of
against_is leg = refl

pub length_travelled : (leg : Leg) → length (travelled leg) ≡ length leg.segment.hops.items
unfolding travelled
length_travelled leg =
    cond_both leg.against (reverse leg.segment.hops.items) leg.segment.hops.items (λ hs. length hs ≡ length leg.segment.hops.items)
    (λ _. length-reverse leg.segment.hops.items) (λ _. refl)

-- the hop at an index of a leg, by its place in construction order
pub hop_at : (leg : Leg) (p : HopPlace) (d : SegHop) → p.head ≡ head_of leg → p.index < length leg.segment.hops.items
    → get_or (travelled leg) p.index d ≡ get_or leg.segment.hops.items (position p - 1) d
unfolding travelled position
hop_at leg p d head small =
    let count : p.head.count ≡ length leg.segment.hops.items = ap (λ (h : SegmentHead). h.count) head ∙ count_is leg in
    let against : p.head.against ≡ leg.against = ap (λ (h : SegmentHead). h.against) head ∙ against_is leg in
    ⊎_elim
    (λ e. (let pos = cond-true p.head.against (p.head.count - p.index) (p.index + 1) (against ∙ e) in
    let at : length leg.segment.hops.items - 1 - p.index ≡ (if p.head.against then p.head.count - p.index else p.index + 1) - 1 = omega (arith, pos, count) in
    ap (λ hs. get_or hs p.index d) (cond-true leg.against (reverse leg.segment.hops.items) leg.segment.hops.items e)
    ∙ (get_or-reverse leg.segment.hops.items p.index d small ∙ ap (λ k. get_or leg.segment.hops.items k d) at)))
    (λ e. (let pos = cond-false p.head.against (p.head.count - p.index) (p.index + 1) (against ∙ e) in
    let at : p.index ≡ (if p.head.against then p.head.count - p.index else p.index + 1) - 1 = omega (arith, pos) in
    ap (λ hs. get_or hs p.index d) (cond-false leg.against (reverse leg.segment.hops.items) leg.segment.hops.items e)
    ∙ ap (λ k. get_or leg.segment.hops.items k d) at))
    (cases_Bool leg.against)

first_as_is : (hops : List SegHop) (d : SegHop) → 0 < length hops → first_as hops ≡ (get_or hops 0 d).asn
unfolding first_as first_hop
first_as_is hops d some = ap (λ (o : Option SegHop). unwrap_or (option_map (λ h. h.asn) o) (record { 0 = 0 })) (slice_get-get_or hops 0 d some)

last_as_is : (hops : List SegHop) (d : SegHop) → 0 < length hops → last_as hops ≡ (get_or hops (length hops - 1) d).asn
unfolding last_as last_hop
last_as_is hops d some = ap (λ (o : Option SegHop). unwrap_or (option_map (λ h. h.asn) o) (record { 0 = 0 })) (slice_get-get_or hops (length hops - 1) d (omega (arith, some)))

-- a leg begins and ends with the ASes of its first and last hop
pub start_is : (leg : Leg) (d : SegHop) → 0 < length leg.segment.hops.items → (get_or (travelled leg) 0 d).asn ≡ start_of leg
unfolding travelled start_of
start_is leg d some =
    let hops = leg.segment.hops.items in
    ⊎_elim
    (λ e. (let at : length hops - 1 - 0 ≡ length hops - 1 = omega arith in
    ap (λ hs. (get_or hs 0 d).asn) (cond-true leg.against (reverse hops) hops e)
    ∙ (ap (λ (h : SegHop). h.asn) (get_or-reverse hops 0 d some ∙ ap (λ k. get_or hops k d) at)
    ∙ (sym (last_as_is hops d some) ∙ sym (cond-true leg.against (last_as hops) (first_as hops) e)))))
    (λ e. ap (λ hs. (get_or hs 0 d).asn) (cond-false leg.against (reverse hops) hops e)
    ∙ (sym (first_as_is hops d some) ∙ sym (cond-false leg.against (last_as hops) (first_as hops) e)))
    (cases_Bool leg.against)

pub end_is : (leg : Leg) (d : SegHop) → 0 < length leg.segment.hops.items → (get_or (travelled leg) (length leg.segment.hops.items - 1) d).asn ≡ end_of leg
unfolding travelled end_of
end_is leg d some =
    let hops = leg.segment.hops.items in
    ⊎_elim
    (λ e. (let at : length hops - 1 - (length hops - 1) ≡ 0 = omega arith in
    ap (λ hs. (get_or hs (length hops - 1) d).asn) (cond-true leg.against (reverse hops) hops e)
    ∙ (ap (λ (h : SegHop). h.asn) (get_or-reverse hops (length hops - 1) d (omega (arith, some)) ∙ ap (λ k. get_or hops k d) at)
    ∙ (sym (first_as_is hops d some) ∙ sym (cond-true leg.against (first_as hops) (last_as hops) e)))))
    (λ e. ap (λ hs. (get_or hs (length hops - 1) d).asn) (cond-false leg.against (reverse hops) hops e)
    ∙ (sym (last_as_is hops d some) ∙ sym (cond-false leg.against (first_as hops) (last_as hops) e)))
    (cases_Bool leg.against)

-- ---- several legs

pub hops-cons : (leg : Leg) (legs : List Leg) → path_hops (leg ∷ legs) ≡ travelled leg ++ path_hops legs
unfolding path_hops
hops-cons leg legs = refl

pub length_hops : (legs : List Leg) → length (path_hops legs) ≡ hops_of (map head_of legs)
unfolding path_hops
length_hops [] = sym hops_of-nil
length_hops (leg ∷ legs) =
    let rest = length_hops legs in
    omega (arith, rest, length-append (travelled leg) (flat_map travelled legs), length_travelled leg, hops_of-cons (head_of leg) (map head_of legs), count_is leg)

pub length_count : (legs : List Leg) → length (path_hops legs) ≡ hop_count legs
unfolding path_hops hop_count
length_count [] = refl
length_count (leg ∷ legs) =
    let rest = length_count legs in
    omega (arith, rest, length-append (travelled leg) (flat_map travelled legs), length_travelled leg, sum_by-cons (λ (l : Leg). length l.segment.hops.items) leg legs)

here_in : (leg : Leg) (legs : List Leg) (j : ℕ) (d : SegHop) → j < length leg.segment.hops.items → get_or (path_hops (leg ∷ legs)) j d ≡ get_or (travelled leg) j d
here_in leg legs j d small =
    ap (λ hs. get_or hs j d) (hops-cons leg legs) ∙ get_or_append_left (travelled leg) (path_hops legs) d j (omega (arith, small, length_travelled leg))

later_in : (leg : Leg) (legs : List Leg) (j : ℕ) (d : SegHop) → length leg.segment.hops.items ≤ j
    → get_or (path_hops (leg ∷ legs)) j d ≡ get_or (path_hops legs) (j - length leg.segment.hops.items) d
later_in leg legs j d large =
    ap (λ hs. get_or hs j d) (hops-cons leg legs)
    ∙ get_or-append_right (travelled leg) (path_hops legs) (length leg.segment.hops.items) j d (length_travelled leg) large

-- hop j of a path stands on one of its legs
pub record StandsOn (legs : List Leg) (n j : ℕ) (d : SegHop) : Type 0 where
  pub leg : Leg
  pub k : ℕ
  pub there : slice_get legs k ≡ Some leg
  pub segment_is : (place_from n (map head_of legs) j).segment ≡ n + k
  pub head_is : (place_from n (map head_of legs) j).head ≡ head_of leg
  pub inside : (place_from n (map head_of legs) j).index < length leg.segment.hops.items
  pub hop_is : get_or (path_hops legs) j d ≡ get_or (travelled leg) (place_from n (map head_of legs) j).index d

pub stands_on : (legs : List Leg) (n j : ℕ) (d : SegHop) → j < length (path_hops legs) → StandsOn legs n j d
stands_on [] n j d h = absurd (let none = length_hops [] in omega (arith, h, none, hops_of-nil))
stands_on (leg ∷ legs) n j d h =
    ⊎_elim
    (λ small. (let here = place_from_here n (head_of leg) (map head_of legs) j (omega (arith, small, count_is leg)) in
    record {
      leg = leg;
      k = 0;
      there = refl;
      segment_is = ap (λ (p : HopPlace). p.segment) here ∙ omega arith;
      head_is = ap (λ (p : HopPlace). p.head) here;
      inside = (let same = ap (λ (p : HopPlace). p.index) here in omega (arith, same, small));
      hop_is = here_in leg legs j d small ∙ ap (λ i. get_or (travelled leg) i d) (sym (ap (λ (p : HopPlace). p.index) here));
    }))
    (λ large. (let m = j - length leg.segment.hops.items in
    let total : length (path_hops (leg ∷ legs)) ≡ length (travelled leg) + length (path_hops legs) = ap length (hops-cons leg legs) ∙ length-append (travelled leg) (path_hops legs) in
    let rest = stands_on legs (n + 1) m d (omega (arith, h, large, total, length_travelled leg)) in
    let later = place_from_later n (head_of leg) (map head_of legs) j (omega (arith, large, count_is leg))
    ∙ ap (place_from (n + 1) (map head_of legs)) (ap (λ c. j - c) (count_is leg)) in
    record {
      leg = rest.leg;
      k = suc rest.k;
      there = rest.there;
      segment_is = ap (λ (p : HopPlace). p.segment) later ∙ (let same = rest.segment_is in omega (arith, same));
      head_is = ap (λ (p : HopPlace). p.head) later ∙ rest.head_is;
      inside = (let same = ap (λ (p : HopPlace). p.index) later in let small = rest.inside in omega (arith, same, small));
      hop_is = later_in leg legs j d large ∙ (rest.hop_is ∙ ap (λ i. get_or (travelled rest.leg) i d) (sym (ap (λ (p : HopPlace). p.index) later)));
    }))
    (cases_lt j (length leg.segment.hops.items))

-- ---- from one leg to the next

-- each leg has hops
abbrev pub HaveHops : List Leg → Type 0
HaveHops [] = Unit {0}
HaveHops (leg ∷ legs) = (0 < length leg.segment.hops.items) × HaveHops legs

pub starts_at : (leg : Leg) (legs : List Leg) (d : SegHop) → HaveHops (leg ∷ legs) → (get_or (path_hops (leg ∷ legs)) 0 d).asn ≡ start_of leg
starts_at leg legs d have = ap (λ (h : SegHop). h.asn) (here_in leg legs 0 d have.0) ∙ start_is leg d have.0

pub start_path : (leg : Leg) (legs : List Leg) → path_start (leg ∷ legs) ≡ start_of leg
unfolding path_start
start_path leg legs = refl

pub end_path : (leg next : Leg) (legs : List Leg) → path_end (leg ∷ next ∷ legs) ≡ path_end (next ∷ legs)
unfolding path_end
end_path leg next legs =
    let at : length (leg ∷ next ∷ legs) - 1 ≡ suc (length (next ∷ legs) - 1) = omega arith in
    ap (λ k. unwrap_or (option_map end_of (slice_get (leg ∷ next ∷ legs) k)) (record { 0 = 0 })) at

end_alone : (leg : Leg) → path_end (leg ∷ []) ≡ end_of leg
unfolding path_end
end_alone leg = refl

pub ends_at : (leg : Leg) (legs : List Leg) (d : SegHop) (j : ℕ) → HaveHops (leg ∷ legs) → j + 1 ≡ length (path_hops (leg ∷ legs))
    → (get_or (path_hops (leg ∷ legs)) j d).asn ≡ path_end (leg ∷ legs)
ends_at leg [] d j have last =
    let total : length (path_hops (leg ∷ [])) ≡ length (travelled leg) + length (path_hops []) = ap length (hops-cons leg []) ∙ length-append (travelled leg) (path_hops []) in
    let none = length_hops [] in
    let at : j ≡ length leg.segment.hops.items - 1 = omega (arith, last, total, length_travelled leg, none, hops_of-nil) in
    let some = have.0 in
    ap (λ (h : SegHop). h.asn) (here_in leg [] j d (omega (arith, at, some)) ∙ ap (λ k. get_or (travelled leg) k d) at)
    ∙ (end_is leg d some ∙ sym (end_alone leg))
ends_at leg (next ∷ legs) d j have last =
    let total : length (path_hops (leg ∷ next ∷ legs)) ≡ length (travelled leg) + length (path_hops (next ∷ legs)) = ap length (hops-cons leg (next ∷ legs)) ∙ length-append (travelled leg) (path_hops (next ∷ legs)) in
    let some = have.1.0 in
    let more : length (path_hops (next ∷ legs)) ≡ length (travelled next) + length (path_hops legs) = ap length (hops-cons next legs) ∙ length-append (travelled next) (path_hops legs) in
    let large : length leg.segment.hops.items ≤ j = omega (arith, last, total, length_travelled leg, more, length_travelled next, some) in
    ap (λ (h : SegHop). h.asn) (later_in leg (next ∷ legs) j d large)
    ∙ (ends_at next legs d (j - length leg.segment.hops.items) have.1 (omega (arith, last, total, length_travelled leg, large)) ∙ sym (end_path leg next legs))

-- where a segment ends and another follows, the hops are of one AS
pub switches_at : (legs : List Leg) (n : ℕ) (d : SegHop) (j : ℕ) → HaveHops legs → are_joined legs ≡ true
    → j + 1 < length (path_hops legs) → is_last (place_from n (map head_of legs) j) ≡ true
    → (get_or (path_hops legs) (j + 1) d).asn ≡ (get_or (path_hops legs) j d).asn
unfolding are_joined meets is_last
switches_at [] n d j have joined more last = absurd (let none = length_hops [] in omega (arith, more, none, hops_of-nil))
switches_at (leg ∷ []) n d j have joined more last =
    let total : length (path_hops (leg ∷ [])) ≡ length (travelled leg) + length (path_hops []) = ap length (hops-cons leg []) ∙ length-append (travelled leg) (path_hops []) in
    let none = length_hops [] in
    let small : j + 1 < length leg.segment.hops.items = omega (arith, more, total, length_travelled leg, none, hops_of-nil) in
    let here = place_from_here n (head_of leg) [] j (omega (arith, small, count_is leg)) in
    let e = eqb-true _ _ last in
    let index = ap (λ (p : HopPlace). p.index) here in
    let count = ap (λ (p : HopPlace). p.head.count) here in
    absurd (omega (arith, e, index, count, small, count_is leg))
switches_at (leg ∷ next ∷ legs) n d j have joined more last =
    ⊎_elim
    (λ small. (let here = place_from_here n (head_of leg) (map head_of (next ∷ legs)) j (omega (arith, small, count_is leg)) in
    let e = eqb-true _ _ last in
    let index = ap (λ (p : HopPlace). p.index) here in
    let count = ap (λ (p : HopPlace). p.head.count) here in
    let at : j ≡ length leg.segment.hops.items - 1 = omega (arith, e, index, count, count_is leg) in
    let some = have.0 in
    let zero_at : j + 1 - length leg.segment.hops.items ≡ 0 = omega (arith, at, some) in
    let parts = and_parts (same_as (end_of leg) (start_of next)) (are_joined (next ∷ legs)) joined in
    ap (λ (h : SegHop). h.asn) (later_in leg (next ∷ legs) (j + 1) d (omega (arith, at, some)) ∙ ap (λ k. get_or (path_hops (next ∷ legs)) k d) zero_at)
    ∙ (starts_at next legs d have.1
    ∙ (sym ((same_as-Decides (end_of leg) (start_of next)).0 parts.0)
    ∙ sym (ap (λ (h : SegHop). h.asn) (here_in leg (next ∷ legs) j d small ∙ ap (λ k. get_or (travelled leg) k d) at) ∙ end_is leg d some)))))
    (λ large. (let total : length (path_hops (leg ∷ next ∷ legs)) ≡ length (travelled leg) + length (path_hops (next ∷ legs)) = ap length (hops-cons leg (next ∷ legs)) ∙ length-append (travelled leg) (path_hops (next ∷ legs)) in
    let m = j - length leg.segment.hops.items in
    let at : j + 1 - length leg.segment.hops.items ≡ m + 1 = omega (arith, large) in
    let later = place_from_later n (head_of leg) (map head_of (next ∷ legs)) j (omega (arith, large, count_is leg)) ∙ ap (place_from (n + 1) (map head_of (next ∷ legs))) (ap (λ c. j - c) (count_is leg)) in
    let parts = and_parts (same_as (end_of leg) (start_of next)) (are_joined (next ∷ legs)) joined in
    ap (λ (h : SegHop). h.asn) (later_in leg (next ∷ legs) (j + 1) d (omega (arith, large)) ∙ ap (λ k. get_or (path_hops (next ∷ legs)) k d) at)
    ∙ (switches_at (next ∷ legs) (n + 1) d m have.1 parts.1 (omega (arith, more, total, length_travelled leg, large))
    (ap (λ (p : HopPlace). p.index + 1 == p.head.count) (sym later) ∙ last)
    ∙ ap (λ (h : SegHop). h.asn) (sym (later_in leg (next ∷ legs) j d large)))))
    (cases_lt j (length leg.segment.hops.items))
