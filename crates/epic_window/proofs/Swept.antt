-- A sweep keeps the counts those of the entries.
use Rattle.std.proofs.Common.{◌≡◌, ℕ, ◌+◌, ◌-◌, ◌≤◌, refl, sym, ◌∙◌, ap, subst, List, Bool, true, false, cond, not, ◌&&◌, ◌==◌, arith}
use Rattle.std.specs.Prelude.{count_by, filter, nat_le, nat_lt, unwrap_or, None}
use Rattle.std.specs.Map.{lookup}
use Rattle.std.proofs.lemmas.Bool.{and_parts, and_from, eqb-true, leb-true, le-leb, ltb-false}
use Rattle.std.proofs.lemmas.Bool.Decides.{nat_tests}
use Rattle.std.proofs.lemmas.Map.Entries.{lookup-filter-keys}
use Rattle.epic_num.specs.declared.name.AsId.{AsId}
use Rattle.epic_num.specs.declared.profile.Profile.{Profile}
use Rattle.epic_num.specs.Moments.{bucket}
use Rattle.epic_window.specs.Counts.{first_bucket, most_buckets, at_bucket, from_bucket, between_buckets, is_kept, is_slot, in_slot, no_total, total_of, discounted, unless_empty, IsTotal, Tallied}
use Rattle.epic_window.specs.Entries.{Entries}
use Rattle.epic_window.specs.declared.key.WinKey.{WinKey}
use Rattle.epic_window.specs.declared.slots.Slot.{Slot}
use Rattle.epic_window.specs.declared.totals.Total.{Total}
use Rattle.epic_window.proofs.Counting.{one, count-none, count-sum, count-le, count-kept, count-filter, count-filter-le}

-- a filter that drops all that is counted
count-dropped : {X : Type 0} (p q : X → Bool) → ((x : X) → p x ≡ true → q x ≡ false) → (xs : List X) → count_by p (filter q xs) ≡ 0
count-dropped p q h xs = count-filter p q xs ∙ count-none (λ x. q x && p x) (λ x. never (q x) (p x) (h x)) xs
  where
    never : (b c : Bool) → (c ≡ true → b ≡ false) → (b && c) ≡ false
    never true true h = h refl
    never true false h = refl
    never false c h = refl

-- the slots from a bucket on are those of the entries from there on
kept_slots : (entries : Entries) (slots : List (Slot × ℕ)) (first : ℕ) (asn : AsId) (b : ℕ) → in_slot slots asn b ≡ count_by (at_bucket asn b) entries
    → in_slot (filter (λ s. nat_le first s.0.bucket) slots) asn b ≡ count_by (at_bucket asn b) (filter (is_kept first) entries)
unfolding in_slot at_bucket is_kept
kept_slots entries slots first asn b h = by_test (nat_le first b) refl
  where
    found : lookup (is_slot asn b) (filter (λ s. nat_le first s.0.bucket) slots) ≡ cond (nat_le first b) (lookup (is_slot asn b) slots) None
    found =
        lookup-filter-keys
        (is_slot asn b)
        (λ s. nat_le first s.bucket)
        (nat_le first b)
        (λ s p. ap (nat_le first) (sym (eqb-true b s.bucket (and_parts (asn.0 == s.asn.0) (b == s.bucket) p).1)))
        slots

    in_bucket : (e : WinKey × ℕ) → at_bucket asn b e ≡ true → nat_le first (bucket e.0.ts) ≡ nat_le first b
    in_bucket e p = ap (nat_le first) (eqb-true (bucket e.0.ts) b (and_parts (e.0.src.asn.0 == asn.0) (bucket e.0.ts == b) p).1)

    by_test : (t : Bool) → nat_le first b ≡ t → in_slot (filter (λ s. nat_le first s.0.bucket) slots) asn b ≡ count_by (at_bucket asn b) (filter (is_kept first) entries)
    by_test true e =
        ap (λ o. unwrap_or o 0) (found ∙ ap (λ t. cond t (lookup (is_slot asn b) slots) None) e)
        ∙ h
        ∙ sym (count-kept (at_bucket asn b) (is_kept first) (λ x p. in_bucket x p ∙ e) entries)
    by_test false e =
        ap (λ o. unwrap_or o 0) (found ∙ ap (λ t. cond t (lookup (is_slot asn b) slots) None) e)
        ∙ sym (count-dropped (at_bucket asn b) (is_kept first) (λ x p. in_bucket x p ∙ e) entries)

split : (p t u : Bool) → u ≡ not t → one p ≡ one (p && t) + one (u && p)
split true true u h = omega (arith, ap (λ b. one (b && true)) h)
split true false u h = omega (arith, ap (λ b. one (b && true)) h)
split false t true h = refl
split false t false h = refl

not_before : (first x : ℕ) → nat_le first x ≡ not (nat_lt x first)
not_before first x = grind (arith, nat_tests)

-- from a bucket on stands what is dropped, and what is kept
dropped_and_kept : (entries : Entries) (asn : AsId) (b first : ℕ)
    → count_by (from_bucket asn b) entries ≡ count_by (between_buckets asn b first) entries + count_by (from_bucket asn b) (filter (is_kept first) entries)
unfolding between_buckets is_kept
dropped_and_kept entries asn b first =
    let e = count-sum
    (from_bucket asn b)
    (between_buckets asn b first)
    (λ x. is_kept first x && from_bucket asn b x)
    (λ x. split (from_bucket asn b x) (nat_lt (bucket x.0.ts) first) (nat_le first (bucket x.0.ts)) (not_before first (bucket x.0.ts)))
    entries in
    omega (arith, e, count-filter (from_bucket asn b) (is_kept first) entries)

-- of what is kept, as much stands from any bucket that isn't past the first one kept
kept_from : (entries : Entries) (asn : AsId) (b first : ℕ) → b ≤ first
    → count_by (from_bucket asn 0) (filter (is_kept first) entries) ≤ count_by (from_bucket asn b) (filter (is_kept first) entries)
unfolding is_kept from_bucket
kept_from entries asn b first le =
    let e = count-filter (from_bucket asn 0) (is_kept first) entries in
    let f = count-filter (from_bucket asn b) (is_kept first) entries in
    let g = count-le
    (λ x. is_kept first x && from_bucket asn 0 x)
    (λ x. is_kept first x && from_bucket asn b x)
    (λ x h.
    let parts = and_parts (nat_le first (bucket x.0.ts)) (x.0.src.asn.0 == asn.0 && nat_le 0 (bucket x.0.ts)) h in
    let same = (and_parts (x.0.src.asn.0 == asn.0) (nat_le 0 (bucket x.0.ts)) parts.1).0 in
    let past = leb-true first (bucket x.0.ts) parts.0 in
    and_from (nat_le first (bucket x.0.ts)) (x.0.src.asn.0 == asn.0 && nat_le b (bucket x.0.ts)) parts.0
    (and_from (x.0.src.asn.0 == asn.0) (nat_le b (bucket x.0.ts)) same (le-leb b (bucket x.0.ts) (omega arith))))
    entries in
    omega (arith, e, f, g)

kept_total : (profile : Profile) (entries : Entries) (moment first : ℕ) (asn : AsId) (total : Total) → first ≡ first_bucket profile moment
    → IsTotal profile entries moment asn total
    → IsTotal profile (filter (is_kept first) entries) moment asn (unless_empty (discounted entries asn first total))
unfolding unless_empty discounted
kept_total profile entries moment first asn total is h = by_test (nat_lt 0 left.live) refl
  where
    kept : Entries
    kept = filter (is_kept first) entries

    left : Total
    left = record { live = total.live - count_by (between_buckets asn total.from first) entries; from = total.from }

    lives : left.live ≡ count_by (from_bucket asn total.from) kept
    lives = omega (arith, h.live_is, dropped_and_kept entries asn total.from first)

    top : count_by (from_bucket asn (first_bucket profile moment + most_buckets profile)) kept ≡ 0
    top = omega (arith, h.top, count-filter-le (from_bucket asn (first_bucket profile moment + most_buckets profile)) (is_kept first) entries)

    by_test : (b : Bool) → nat_lt 0 left.live ≡ b → IsTotal profile kept moment asn (cond b left no_total)
    by_test true e = record {
      live_is = lives;
      top = top;
      early = h.early;
    }
    by_test false e =
        let none = ltb-false 0 left.live e in
        let all : count_by (from_bucket asn 0) kept ≤ 0 = omega (arith, lives, none, h.early, kept_from entries asn total.from first (omega (arith, h.early))) in
        record {
          live_is = omega (arith, all);
          top = top;
          early = omega arith;
        }

pub Tallied-swept : (profile : Profile) (entries left : Entries) (slots slots' : List (Slot × ℕ)) (totals totals' : List (AsId × Total)) (moment first : ℕ)
    → first ≡ first_bucket profile moment → Tallied profile entries slots totals moment
    → left ≡ filter (is_kept first) entries → slots' ≡ filter (λ s. nat_le first s.0.bucket) slots
    → ((a : AsId) → total_of totals' a ≡ unless_empty (discounted entries a first (total_of totals a)))
    → Tallied profile left slots' totals' moment
Tallied-swept profile entries left slots slots' totals totals' moment first is h lefts slots_are totals_are =
    subst (λ es. Tallied profile es slots' totals' moment) (sym lefts)
    (record {
      slots_of = λ a b. ap (λ ss. in_slot ss a b) slots_are ∙ kept_slots entries slots first a b (h.slots_of a b);
      totals_of = λ a.
          subst (IsTotal profile (filter (is_kept first) entries) moment a) (sym (totals_are a))
          (kept_total profile entries moment first a (total_of totals a) is (h.totals_of a));
    })
