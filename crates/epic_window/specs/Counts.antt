-- Private: serves proofs of this crate alone; no public contract cites it.
-- How many entries an AS has: in each bucket, and from a bucket on.
use Rattle.std.specs.Prelude.{◌≡◌, ℕ, zero, suc, ◌+◌, ◌-◌, ◌<◌, ◌≤◌, Option, Some, None, Bool, ◌&&◌, ◌==◌, nat_lt, nat_le, if◌then◌else◌, List, unwrap_or, count_by}
use Rattle.std.specs.Map.{lookup}
use Rattle.epic_num.specs.Moments.{bucket, live_buckets}
use Rattle.epic_num.specs.declared.name.AsId.{AsId}
use Rattle.epic_num.specs.declared.profile.Profile.{Profile}
use Rattle.epic_window.specs.Entries.{Entries}
use Rattle.epic_window.specs.declared.key.WinKey.{WinKey}
use Rattle.epic_window.specs.declared.slots.Slot.{Slot}
use Rattle.epic_window.specs.declared.totals.Total.{Total}

-- the first bucket whose entries are live
unfoldable pub first_bucket : Profile → ℕ → ℕ
first_bucket profile now = bucket now - live_buckets profile

-- in so many buckets, from the first live one on, stands all that is fresh at one moment
unfoldable pub most_buckets : Profile → ℕ
most_buckets profile = live_buckets profile + bucket profile.skew_us + 2

-- an entry of an AS in a bucket, from a bucket on, and from a bucket on but before another
unfoldable pub at_bucket : AsId → ℕ → WinKey × ℕ → Bool
at_bucket asn b e = e.0.src.asn.0 == asn.0 && bucket e.0.ts == b

unfoldable pub from_bucket : AsId → ℕ → WinKey × ℕ → Bool
from_bucket asn b e = e.0.src.asn.0 == asn.0 && nat_le b (bucket e.0.ts)

unfoldable pub between_buckets : AsId → ℕ → ℕ → WinKey × ℕ → Bool
between_buckets asn b first e = from_bucket asn b e && nat_lt (bucket e.0.ts) first

-- an entry whose bucket isn't over
unfoldable pub is_kept : ℕ → WinKey × ℕ → Bool
is_kept first e = nat_le first (bucket e.0.ts)

abbrev pub is_slot : AsId → ℕ → Slot → Bool
is_slot asn b slot = asn.0 == slot.asn.0 && b == slot.bucket

-- how many entries the slots have for an AS in a bucket
unfoldable pub in_slot : List (Slot × ℕ) → AsId → ℕ → ℕ
in_slot slots asn b = unwrap_or (lookup (is_slot asn b) slots) 0

-- how many they have in all in so many buckets from one on
unfoldable pub in_slots : List (Slot × ℕ) → AsId → ℕ → ℕ → ℕ
in_slots slots asn b zero = 0
in_slots slots asn b (suc n) = in_slots slots asn b n + in_slot slots asn (b + n)

abbrev pub no_total : Total
no_total = record { live = 0; from = 0 }

-- the total of an AS; one without a total has no entry at all
unfoldable pub total_of : List (AsId × Total) → AsId → Total
total_of totals asn = unwrap_or (lookup (λ a. asn.0 == a.0) totals) no_total

-- A total brought to a later bucket: without the entries before it, or, where it lies `most` buckets behind or more, by what
-- stands in so many buckets from there, which is no more than it counted.
unfoldable pub brought : List (Slot × ℕ) → AsId → Total → ℕ → ℕ → Total
brought slots asn total first most =
    record {
      live =
          if nat_le most (first - total.from) then total.live - (total.live - in_slots slots asn first most)
          else total.live - in_slots slots asn total.from (first - total.from);
      from = first;
    }

-- a total that reaches the limit is brought to the first live bucket; one below it may count entries that are over
unfoldable pub settled : Profile → List (Slot × ℕ) → AsId → Total → ℕ → Total
settled profile slots asn total now =
    if nat_lt total.live profile.window then total else brought slots asn total (first_bucket profile now) (most_buckets profile)

abbrev pub with_one : Total → Total
with_one total = record { live = total.live + 1; from = total.from }

-- Totals after an offer of an AS. Below the limit its settled total counts one more; else that is how many are live, and it is
-- kept unless it counts nothing.
abbrev pub CountsOne : Profile → List (Slot × ℕ) → AsId → ℕ → List (AsId × Total) → List (AsId × Total) → Option ℕ → Type 0
CountsOne profile slots asn now old new None =
    let total = settled profile slots asn (total_of old asn) now in
    (total.live < profile.window) × ((a : AsId) → total_of new a ≡ (if asn.0 == a.0 then with_one total else total_of old a))
CountsOne profile slots asn now old new (Some live) =
    let total = settled profile slots asn (total_of old asn) now in
    (live ≡ total.live) × (profile.window ≤ live)
    × ((a : AsId) → total_of new a ≡ (if nat_lt 0 total.live && asn.0 == a.0 then total else total_of old a))

-- a total after an entry of its AS in a bucket is forgotten, if that bucket lies before `first`
unfoldable pub lowered : ℕ → ℕ → Total → Total
lowered b first total = if nat_le total.from b && nat_lt b first then record { live = total.live - 1; from = total.from } else total

-- a total after all entries of its AS before `first` are forgotten
unfoldable pub discounted : Entries → AsId → ℕ → Total → Total
discounted entries asn first total = record { live = total.live - count_by (between_buckets asn total.from first) entries; from = total.from }

-- a total that counts nothing is dropped
unfoldable pub unless_empty : Total → Total
unless_empty total = if nat_lt 0 total.live then total else no_total

-- the total of an AS counts its entries from a bucket on that isn't past the first live one, and all stand in few buckets from
-- the first live one on, or before it
pub record IsTotal (profile : Profile) (entries : Entries) (moment : ℕ) (asn : AsId) (total : Total) : Type 0 where
  pub live_is : total.live ≡ count_by (from_bucket asn total.from) entries
  pub top : count_by (from_bucket asn (first_bucket profile moment + most_buckets profile)) entries ≡ 0
  pub early : total.from ≤ first_bucket profile moment

-- slots and totals are those of the entries, at a moment
pub record Tallied (profile : Profile) (entries : Entries) (slots : List (Slot × ℕ)) (totals : List (AsId × Total)) (moment : ℕ) : Type 0 where
  pub slots_of : (asn : AsId) (b : ℕ) → in_slot slots asn b ≡ count_by (at_bucket asn b) entries
  pub totals_of : (asn : AsId) → IsTotal profile entries moment asn (total_of totals asn)
