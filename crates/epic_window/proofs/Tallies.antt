-- The counts by AS and bucket: what they say of the live entries, and that offers and sweeps keep them.
use Rattle.std.proofs.Common.{◌≡◌, ℕ, zero, suc, ◌+◌, ◌-◌, ◌<◌, ◌≤◌, refl, sym, ◌∙◌, ap, subst, add-one, add-zero, List, [], ◌∷◌, Bool, true, false, cond, ◌&&◌, ◌==◌, arith}
use Rattle.std.specs.Prelude.{count_by, nat_le, nat_lt, unwrap_or, Option, Some, None, IsSome}
use Rattle.std.specs.List.Sorted.{IsPermutation}
use Rattle.std.specs.Map.{lookup}
use Rattle.std.proofs.lemmas.Bool.{and_parts, and_from, and_left, and_right, eqb-true, eq-eqb, leb-true, le-leb, lt-leb, ltb-true}
use Rattle.std.proofs.lemmas.Bool.Decides.{nat_tests}
use Rattle.std.proofs.lemmas.List.Sorted.{sum_by_pushed, sum_by-IsPermutation}
use Rattle.epic_num.specs.declared.name.AsId.{AsId}
use Rattle.epic_num.specs.declared.profile.Profile.{Profile}
use Rattle.epic_num.specs.Moments.{bucket, is_live, IsFresh}
use Rattle.epic_num.specs.Same.{same_as}
use Rattle.epic_window.specs.Counts.{first_bucket, most_buckets, at_bucket, from_bucket, in_slot, in_slots, no_total, total_of, brought, settled, IsTotal, Tallied}
use Rattle.epic_window.specs.Entries.{Entries, count}
use Rattle.epic_window.specs.declared.key.WinKey.{WinKey}
use Rattle.epic_window.specs.declared.slots.Slot.{Slot}
use Rattle.epic_window.specs.declared.totals.Total.{Total}
use Rattle.epic_window.proofs.Buckets.{is_live-bucket, later_bucket, fresh_from, fresh_to}
use Rattle.epic_window.proofs.Counting.{one, count-agree, count-sum, count-le}
use Rattle.epic_window.proofs.SlotLaws.{in_slots-none, in_slots-more}

-- what is live of an AS is what stands from the first live bucket on
pub live_from : (profile : Profile) (entries : Entries) (now : ℕ) (asn : AsId) → count_by (from_bucket asn (first_bucket profile now)) entries ≡ count profile entries now asn
unfolding from_bucket count same_as
live_from profile entries now asn =
    count-agree
    (λ e. e.0.src.asn.0 == asn.0 && nat_le (first_bucket profile now) (bucket e.0.ts))
    (λ e. e.0.src.asn.0 == asn.0 && is_live profile e.0.ts now)
    (λ e. ap (λ b. e.0.src.asn.0 == asn.0 && b) (sym (is_live-bucket profile e.0.ts now)))
    entries

next_step : (a : Bool) (b x : ℕ) → one (a && nat_le b x) ≡ one (a && x == b) + one (a && nat_le (b + 1) x)
next_step true b x = next_test b x
  where
    next_test : (b x : ℕ) → one (nat_le b x) ≡ one (x == b) + one (nat_le (b + 1) x)
    next_test b x = grind (arith, nat_tests)
next_step false b x = refl

-- from a bucket on stands what is in it, and what stands from the next one on
next_bucket : (entries : Entries) (asn : AsId) (b : ℕ) → count_by (from_bucket asn b) entries ≡ count_by (at_bucket asn b) entries + count_by (from_bucket asn (b + 1)) entries
unfolding from_bucket at_bucket
next_bucket entries asn b =
    count-sum (from_bucket asn b) (at_bucket asn b) (from_bucket asn (b + 1)) (λ e. next_step (e.0.src.asn.0 == asn.0) b (bucket e.0.ts)) entries

from_past : (entries : Entries) (slots : List (Slot × ℕ)) (asn : AsId) → ((b : ℕ) → in_slot slots asn b ≡ count_by (at_bucket asn b) entries)
    → (b n : ℕ) → count_by (from_bucket asn b) entries ≡ in_slots slots asn b n + count_by (from_bucket asn (b + n)) entries
from_past entries slots asn h b zero = rw add-zero (omega (arith, in_slots-none slots asn b))
from_past entries slots asn h b (suc n) =
    let more = in_slots-more slots asn b n in
    let next = next_bucket entries asn (b + n) in
    let same : b + n + 1 ≡ b + suc n = omega arith in
    let e = ap (λ k. count_by (from_bucket asn k) entries) same in
    let f = ap (λ k. in_slots slots asn b k) (add-one n) in
    omega (arith, from_past entries slots asn h b n, more, next, h (b + n), e, f)

-- a test from a later bucket on is passed by fewer
pub from_later : (entries : Entries) (asn : AsId) (b c : ℕ) → b ≤ c → count_by (from_bucket asn c) entries ≤ count_by (from_bucket asn b) entries
unfolding from_bucket
from_later entries asn b c h =
    count-le (from_bucket asn c) (from_bucket asn b)
    (λ e p. let parts = and_parts (e.0.src.asn.0 == asn.0) (nat_le c (bucket e.0.ts)) p in
    and_from (e.0.src.asn.0 == asn.0) (nat_le b (bucket e.0.ts)) parts.0
    (le-leb b (bucket e.0.ts) (omega (arith, leb-true c (bucket e.0.ts) parts.1))))
    entries

-- a total that is brought to the first live bucket counts exactly what is there
brought_is : (profile : Profile) (entries : Entries) (slots : List (Slot × ℕ)) (moment now : ℕ) (asn : AsId) (total : Total)
    → ((b : ℕ) → in_slot slots asn b ≡ count_by (at_bucket asn b) entries) → IsTotal profile entries moment asn total → moment ≤ now
    → (brought slots asn total (first_bucket profile now) (most_buckets profile)).live ≡ count_by (from_bucket asn (first_bucket profile now)) entries
unfolding brought
brought_is profile entries slots moment now asn total h t le = by_test (nat_le (most_buckets profile) (first_bucket profile now - total.from)) refl
  where
    first : ℕ
    first = first_bucket profile now

    most : ℕ
    most = most_buckets profile

    later : first_bucket profile moment ≤ first
    later = later_bucket profile moment now le

    by_test : (b : Bool) → nat_le most (first - total.from) ≡ b
        → cond b (total.live - (total.live - in_slots slots asn first most)) (total.live - in_slots slots asn total.from (first - total.from)) ≡ count_by (from_bucket asn first) entries
    by_test true e =
        let none = from_later entries asn (first_bucket profile moment + most) (first + most) (omega (arith, later)) in
        let past = from_past entries slots asn h first most in
        let less = from_later entries asn total.from first (omega (arith, t.early, later)) in
        omega (arith, t.top, t.live_is, none, past, less)
    by_test false e =
        let past = from_past entries slots asn h total.from (first - total.from) in
        let same : total.from + (first - total.from) ≡ first = omega (arith, t.early, later) in
        omega (arith, past, t.live_is, ap (λ k. count_by (from_bucket asn k) entries) same)

-- the total of an AS stays one where nothing changes but the moment
total_later : (profile : Profile) (entries : Entries) (moment now : ℕ) (asn : AsId) (total : Total) → moment ≤ now
    → IsTotal profile entries moment asn total → IsTotal profile entries now asn total
total_later profile entries moment now asn total le h =
    let later = later_bucket profile moment now le in
    record {
      live_is = h.live_is;
      top =
          omega
          (arith, h.top, from_later entries asn (first_bucket profile moment + most_buckets profile) (first_bucket profile now + most_buckets profile) (omega (arith, later)));
      early = omega (arith, h.early, later);
    }

-- and where it is brought to the first live bucket
total_brought : (profile : Profile) (entries : Entries) (slots : List (Slot × ℕ)) (moment now : ℕ) (asn : AsId) (total : Total)
    → ((b : ℕ) → in_slot slots asn b ≡ count_by (at_bucket asn b) entries) → IsTotal profile entries moment asn total → moment ≤ now
    → IsTotal profile entries now asn (brought slots asn total (first_bucket profile now) (most_buckets profile))
unfolding brought
total_brought profile entries slots moment now asn total h t le =
    record {
      live_is = brought_is profile entries slots moment now asn total h t le ∙ ap (λ b. count_by (from_bucket asn b) entries) (sym from);
      top = (total_later profile entries moment now asn total le t).top;
      early = omega (arith, from);
    }
  where
    from : (brought slots asn total (first_bucket profile now) (most_buckets profile)).from ≡ first_bucket profile now
    from = refl

-- a settled total is one, and it is exact where it reaches the limit
pub total_settled : (profile : Profile) (entries : Entries) (slots : List (Slot × ℕ)) (totals : List (AsId × Total)) (moment now : ℕ) (asn : AsId) (total : Total)
    → moment ≤ now → Tallied profile entries slots totals moment → total ≡ settled profile slots asn (total_of totals asn) now → IsTotal profile entries now asn total
unfolding settled
total_settled profile entries slots totals moment now asn total le h is =
    subst (IsTotal profile entries now asn) (sym is) (by_test (nat_lt (total_of totals asn).live profile.window))
  where
    by_test : (b : Bool)
        → IsTotal profile entries now asn (cond b (total_of totals asn) (brought slots asn (total_of totals asn) (first_bucket profile now) (most_buckets profile)))
    by_test true = total_later profile entries moment now asn (total_of totals asn) le (h.totals_of asn)
    by_test false = total_brought profile entries slots moment now asn (total_of totals asn) (h.slots_of asn) (h.totals_of asn) le

-- below the limit it is no less than what is live
pub live-le : (profile : Profile) (entries : Entries) (now : ℕ) (asn : AsId) (total : Total) → IsTotal profile entries now asn total
    → count profile entries now asn ≤ total.live
live-le profile entries now asn total h =
    omega (arith, h.live_is, from_later entries asn total.from (first_bucket profile now) h.early, live_from profile entries now asn)

pub live_exact : (profile : Profile) (entries : Entries) (slots : List (Slot × ℕ)) (totals : List (AsId × Total)) (moment now : ℕ) (asn : AsId) (total : Total)
    → moment ≤ now → Tallied profile entries slots totals moment → total ≡ settled profile slots asn (total_of totals asn) now → profile.window ≤ total.live
    → total.live ≡ count profile entries now asn
unfolding settled
live_exact profile entries slots totals moment now asn total le h is =
    by_test (nat_lt (total_of totals asn).live profile.window) refl is
  where
    old : Total
    old = total_of totals asn

    by_test : (b : Bool) → nat_lt old.live profile.window ≡ b
        → total ≡ cond b old (brought slots asn old (first_bucket profile now) (most_buckets profile)) → profile.window ≤ total.live
        → total.live ≡ count profile entries now asn
    by_test true e f reaches = absurd (below (ltb-true old.live profile.window e) (ap (λ t. t.live) f))
      where
        below : old.live < profile.window → total.live ≡ old.live → ⊥
        below lt same = omega (arith, reaches)
    by_test false e f reaches =
        ap (λ t. t.live) f
        ∙ brought_is profile entries slots moment now asn old (h.slots_of asn) (h.totals_of asn) le
        ∙ live_from profile entries now asn

-- what is live in one bucket is among what is live
pub slot-le : (entries : Entries) (slots : List (Slot × ℕ)) (asn : AsId) (first b : ℕ) → first ≤ b → in_slot slots asn b ≡ count_by (at_bucket asn b) entries
    → in_slot slots asn b ≤ count_by (from_bucket asn first) entries
slot-le entries slots asn first b le h = omega (arith, h, next_bucket entries asn b, from_later entries asn first b le)

-- an AS without a total has nothing live
pub has_total : (profile : Profile) (slots : List (Slot × ℕ)) (totals : List (AsId × Total)) (asn : AsId) (now : ℕ)
    → 0 < (settled profile slots asn (total_of totals asn) now).live → IsSome (lookup (λ a. asn.0 == a.0) totals)
unfolding settled brought total_of
has_total profile slots totals asn now = by_found (lookup (λ a. asn.0 == a.0) totals)
  where
    first : ℕ
    first = first_bucket profile now

    live : (below far : Bool) (total : Total) → ℕ
    live below far total =
        (cond below total (record { live = cond far (total.live - (total.live - in_slots slots asn first (most_buckets profile))) (total.live - in_slots slots asn total.from (first - total.from)); from = first })).live

    none : (below far : Bool) → 0 < live below far no_total → ⊥
    none true far h = omega arith
    none false true h = omega arith
    none false false h = omega arith

    by_found : (o : Option Total)
        → 0 < live (nat_lt (unwrap_or o no_total).live profile.window) (nat_le (most_buckets profile) (first - (unwrap_or o no_total).from)) (unwrap_or o no_total)
        → IsSome o
    by_found None h = absurd (none (nat_lt 0 profile.window) (nat_le (most_buckets profile) (first - 0)) h)
    by_found (Some total) h = refl

pub Tallied-later : (profile : Profile) (entries : Entries) (slots : List (Slot × ℕ)) (totals : List (AsId × Total)) (moment now : ℕ) → moment ≤ now
    → Tallied profile entries slots totals moment → Tallied profile entries slots totals now
Tallied-later profile entries slots totals moment now le h =
    record { slots_of = h.slots_of; totals_of = λ a. total_later profile entries moment now a (total_of totals a) le (h.totals_of a) }

-- nothing is counted in an empty window
pub Tallied-new : (profile : Profile) (entries : Entries) (slots : List (Slot × ℕ)) (totals : List (AsId × Total)) → entries ≡ [] → slots ≡ [] → totals ≡ []
    → Tallied profile entries slots totals 0
unfolding in_slot total_of
Tallied-new profile entries slots totals e s t =
    subst (λ es. Tallied profile es slots totals 0) (sym e)
    (subst (λ ss. Tallied profile [] ss totals 0) (sym s) (subst (λ ts. Tallied profile [] [] ts 0) (sym t) empty))
  where
    empty : Tallied profile [] [] [] 0
    empty = record { slots_of = λ a b. refl; totals_of = λ a. record { live_is = refl; top = refl; early = omega arith } }

-- an offer that is refused may write its AS's total
pub Tallied-kept : (profile : Profile) (entries : Entries) (slots : List (Slot × ℕ)) (totals totals' : List (AsId × Total)) (moment now : ℕ) (asn : AsId) (total : Total) (some : Bool)
    → moment ≤ now → Tallied profile entries slots totals moment → IsTotal profile entries now asn total
    → ((a : AsId) → total_of totals' a ≡ cond (some && asn.0 == a.0) total (total_of totals a))
    → Tallied profile entries slots totals' now
Tallied-kept profile entries slots totals totals' moment now asn total some le h t is =
    record { slots_of = h.slots_of; totals_of = λ a. subst (IsTotal profile entries now a) (sym (is a)) (each a (some && asn.0 == a.0) refl) }
  where
    each : (a : AsId) (b : Bool) → (some && asn.0 == a.0) ≡ b → IsTotal profile entries now a (cond b total (total_of totals a))
    each a true e =
        let same : asn ≡ a = λ i. record { 0 = eqb-true asn.0 a.0 (and_parts some (asn.0 == a.0) e).1 i } in
        subst (λ c. IsTotal profile entries now c total) same t
    each a false e = total_later profile entries moment now a (total_of totals a) le (h.totals_of a)

-- one more entry, in some order
pushed : (p : WinKey × ℕ → Bool) (e : WinKey × ℕ) (entries more : Entries) → IsPermutation (e ∷ entries) more → count_by p more ≡ one (p e) + count_by p entries
pushed p e entries more h = sum_by_pushed (λ x. cond (p x) 1 0) e entries more h

-- a fresh key is one more in its slot and in its AS's total
pub Tallied-added : (profile : Profile) (entries more : Entries) (slots slots' : List (Slot × ℕ)) (totals totals' : List (AsId × Total)) (moment now : ℕ)
    → (key : WinKey) (turn here : ℕ) (total : Total)
    → moment ≤ now → IsFresh profile key.ts now → here ≡ bucket key.ts → Tallied profile entries slots totals moment
    → IsTotal profile entries now key.src.asn total → IsPermutation ((key, turn) ∷ entries) more
    → ((a : AsId) (b : ℕ) → in_slot slots' a b ≡ in_slot slots a b + cond (key.src.asn.0 == a.0 && here == b) 1 0)
    → ((a : AsId) → total_of totals' a ≡ cond (key.src.asn.0 == a.0) (record { live = total.live + 1; from = total.from }) (total_of totals a))
    → Tallied profile more slots' totals' now
unfolding at_bucket from_bucket
Tallied-added profile entries more slots slots' totals totals' moment now key turn here total le fresh there h t perm slots_are totals_are = record {
  slots_of = λ a b.
      let e = pushed (at_bucket a b) (key, turn) entries more perm in
      let f = ap (λ n. one (key.src.asn.0 == a.0 && n == b)) there in
      omega (arith, slots_are a b, h.slots_of a b, e, f);
  totals_of = λ a. subst (IsTotal profile more now a) (sym (totals_are a)) (each a (key.src.asn.0 == a.0) refl);
}
  where
    last : ℕ
    last = first_bucket profile now + most_buckets profile

    starts : total.from ≤ bucket key.ts
    starts = omega (arith, t.early, fresh_from profile key.ts now fresh)

    ends : (a : AsId) → one (key.src.asn.0 == a.0 && nat_le last (bucket key.ts)) ≡ 0
    ends a = ap one (and_right (key.src.asn.0 == a.0) (nat_le last (bucket key.ts)) (lt-leb last (bucket key.ts) (fresh_to profile key.ts now fresh)))

    mine : IsTotal profile more now key.src.asn (record { live = total.live + 1; from = total.from })
    mine =
        let same : (key.src.asn.0 == key.src.asn.0) ≡ true = eq-eqb key.src.asn.0 key.src.asn.0 refl in
        let e = pushed (from_bucket key.src.asn total.from) (key, turn) entries more perm in
        let f = pushed (from_bucket key.src.asn last) (key, turn) entries more perm in
        let g = ap one (and_from (key.src.asn.0 == key.src.asn.0) (nat_le total.from (bucket key.ts)) same (le-leb total.from (bucket key.ts) starts)) in
        record { live_is = omega (arith, t.live_is, e, g); top = omega (arith, t.top, f, ends key.src.asn); early = t.early }

    each : (a : AsId) (b : Bool) → (key.src.asn.0 == a.0) ≡ b → IsTotal profile more now a (cond b (record { live = total.live + 1; from = total.from }) (total_of totals a))
    each a true e =
        let same : key.src.asn ≡ a = λ i. record { 0 = eqb-true key.src.asn.0 a.0 e i } in
        subst (λ c. IsTotal profile more now c (record { live = total.live + 1; from = total.from })) same mine
    each a false e =
        let old = total_of totals a in
        let before = total_later profile entries moment now a old le (h.totals_of a) in
        let f = pushed (from_bucket a old.from) (key, turn) entries more perm in
        let g = pushed (from_bucket a last) (key, turn) entries more perm in
        let k = ap one (and_left (key.src.asn.0 == a.0) (nat_le old.from (bucket key.ts)) e) in
        record { live_is = omega (arith, before.live_is, f, k); top = omega (arith, before.top, g, ends a); early = before.early }

-- the same entries in another order
pub Tallied-reordered : (profile : Profile) (entries others : Entries) (slots slots' : List (Slot × ℕ)) (totals totals' : List (AsId × Total)) (moment : ℕ)
    → Tallied profile entries slots totals moment → IsPermutation entries others
    → ((a : AsId) (b : ℕ) → in_slot slots' a b ≡ in_slot slots a b) → ((a : AsId) → total_of totals' a ≡ total_of totals a)
    → Tallied profile others slots' totals' moment
Tallied-reordered profile entries others slots slots' totals totals' moment h perm slots_are totals_are = record {
  slots_of = λ a b. slots_are a b ∙ h.slots_of a b ∙ sym (counts (at_bucket a b));
  totals_of = λ a. subst (IsTotal profile others moment a) (sym (totals_are a))
      (let old = h.totals_of a in
      record {
        live_is = old.live_is ∙ sym (counts (from_bucket a (total_of totals a).from));
        top = counts (from_bucket a (first_bucket profile moment + most_buckets profile)) ∙ old.top;
        early = old.early;
      });
}
  where
    counts : (p : WinKey × ℕ → Bool) → count_by p others ≡ count_by p entries
    counts p = sum_by-IsPermutation (λ x. cond (p x) 1 0) entries others perm
