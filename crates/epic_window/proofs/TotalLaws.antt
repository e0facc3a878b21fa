-- The total of an AS: written as it was, and settled below the limit.
use Rattle.std.proofs.Common.{◌≡◌, ℕ, ◌<◌, refl, ◌∙◌, ap, List, Bool, true, false, cond, ◌==◌}
use Rattle.std.specs.Prelude.{unwrap_or, Some}
use Rattle.std.specs.Map.{lookup}
use Rattle.std.proofs.lemmas.Bool.{eqb-true, lt-ltb}
use Rattle.epic_num.specs.declared.name.AsId.{AsId}
use Rattle.epic_num.specs.declared.profile.Profile.{Profile}
use Rattle.epic_window.specs.Counts.{brought, first_bucket, most_buckets, no_total, settled, total_of}
use Rattle.epic_window.specs.declared.slots.Slot.{Slot}
use Rattle.epic_window.specs.declared.totals.Total.{Total}

pub same_total : (totals new : List (AsId × Total)) (asn a : AsId) (total : Total) → Some total ≡ lookup (λ b. asn.0 == b.0) totals
    → lookup (λ b. a.0 == b.0) new ≡ cond (asn.0 == a.0) (Some total) (lookup (λ b. a.0 == b.0) totals) → total_of new a ≡ total_of totals a
unfolding total_of
same_total totals new asn a total here is = ap (λ o. unwrap_or o no_total) (is ∙ by_test (asn.0 == a.0) refl)
  where
    by_test : (b : Bool) → (asn.0 == a.0) ≡ b → cond b (Some total) (lookup (λ c. a.0 == c.0) totals) ≡ lookup (λ c. a.0 == c.0) totals
    by_test true e = here ∙ ap (λ n. lookup (λ (c : AsId). n == c.0) totals) (eqb-true asn.0 a.0 e)
    by_test false e = refl

pub settled_below : (profile : Profile) (slots : List (Slot × ℕ)) (asn : AsId) (total : Total) (now : ℕ) → total.live < profile.window → settled profile slots asn total now ≡ total
unfolding settled
settled_below profile slots asn total now h =
    ap (λ b. cond b total (brought slots asn total (first_bucket profile now) (most_buckets profile))) (lt-ltb total.live profile.window h)
