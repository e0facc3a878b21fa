-- A sweep: the totals without what is over, and that the counts stay those of the entries.
use Rattle.std.proofs.Common.{◌≡◌, ℕ, ◌+◌, ◌-◌, refl, ◌∙◌, ap, List, [], ◌∷◌, Bool, true, false, cond, ◌&&◌, ◌==◌, arith}
use Rattle.std.specs.Prelude.{count_by, nat_le, nat_lt, unwrap_or, Option, Some, None}
use Rattle.std.specs.Map.{lookup}
use Rattle.std.proofs.lemmas.Map.Entries.{option_filter}
use Rattle.epic_num.specs.declared.name.AsId.{AsId}
use Rattle.epic_num.specs.Moments.{bucket}
use Rattle.epic_window.specs.Counts.{from_bucket, between_buckets, lowered, no_total, total_of, discounted, unless_empty}
use Rattle.epic_window.specs.Entries.{Entries}
use Rattle.epic_window.specs.declared.key.WinKey.{WinKey}
use Rattle.epic_window.specs.declared.totals.Total.{Total}
use Rattle.epic_window.proofs.Counting.{one, count-cons}

pub discounted-none : (asn : AsId) (first : ℕ) (total : Total) → discounted [] asn first total ≡ total
unfolding discounted
discounted-none asn first total = λ i. record { live = same total.live i; from = total.from }
  where
    same : (n : ℕ) → n - 0 ≡ n
    same n = omega arith

-- one entry more or less
pub discounted-more : (entries : Entries) (e : WinKey × ℕ) (asn : AsId) (first b : ℕ) (total lower : Total) → b ≡ bucket e.0.ts
    → lower ≡ cond (e.0.src.asn.0 == asn.0) (lowered b first total) total
    → discounted entries asn first lower ≡ discounted (e ∷ entries) asn first total
unfolding discounted lowered between_buckets from_bucket
discounted-more entries e asn first b total lower there is =
    ap (discounted entries asn first) (is ∙ ap (λ n. cond (e.0.src.asn.0 == asn.0) (lowered n first total) total) there)
    ∙ step (e.0.src.asn.0 == asn.0) (nat_le total.from (bucket e.0.ts)) (nat_lt (bucket e.0.ts) first) (count-cons (between_buckets asn total.from first) e entries)
  where
    rest : ℕ
    rest = count_by (between_buckets asn total.from first) entries

    all : ℕ
    all = count_by (between_buckets asn total.from first) (e ∷ entries)

    step : (a b c : Bool) → all ≡ one ((a && b) && c) + rest
        → discounted entries asn first (cond a (cond (b && c) (record { live = total.live - 1; from = total.from }) total) total) ≡ record { live = total.live - all; from = total.from }
    step true true true h = λ i. record { live = less total.live rest all h i; from = total.from }
      where
        less : (n r s : ℕ) → s ≡ 1 + r → (n - 1) - r ≡ n - s
        less n r s h = omega arith
    step true true false h = λ i. record { live = total.live - same h i; from = total.from }
      where
        same : all ≡ 0 + rest → rest ≡ all
        same h = omega arith
    step true false c h = λ i. record { live = total.live - same h i; from = total.from }
      where
        same : all ≡ 0 + rest → rest ≡ all
        same h = omega arith
    step false b c h = λ i. record { live = total.live - same h i; from = total.from }
      where
        same : all ≡ 0 + rest → rest ≡ all
        same h = omega arith

-- the totals that count something
pub totals_kept : (totals : List (AsId × Total)) (asn : AsId) (found : Option Total)
    → found ≡ option_filter (λ t. nat_lt 0 t.live) (lookup (λ a. asn.0 == a.0) totals)
    → unwrap_or found no_total ≡ unless_empty (total_of totals asn)
unfolding total_of unless_empty
totals_kept totals asn found is = ap (λ o. unwrap_or o no_total) is ∙ by (lookup (λ a. asn.0 == a.0) totals)
  where
    at : (b : Bool) (t : Total) → unwrap_or (cond b (Some t) None) no_total ≡ cond b t no_total
    at true t = refl
    at false t = refl

    by : (o : Option Total) → unwrap_or (option_filter (λ t. nat_lt 0 t.live) o) no_total ≡ cond (nat_lt 0 (unwrap_or o no_total).live) (unwrap_or o no_total) no_total
    by None = refl
    by (Some t) = at (nat_lt 0 t.live) t
