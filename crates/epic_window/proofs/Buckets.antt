-- Buckets: what is live stands in the first live bucket or later, and what is fresh in one of few buckets from there.
use Rattle.std.proofs.Common.{◌≡◌, ℕ, ◌+◌, ◌-◌, ◌<◌, ◌≤◌, arith}
use Rattle.std.specs.Prelude.{nat_le}
use Rattle.std.proofs.lemmas.Bool.Decides.{nat_tests}
use Rattle.epic_num.specs.declared.profile.Profile.{Profile}
use Rattle.epic_num.specs.Moments.{bucket, live_buckets, is_live, IsFresh}
use Rattle.epic_window.specs.Counts.{first_bucket, most_buckets}

le_moved : (a b l : ℕ) → nat_le a (b + l) ≡ nat_le (a - l) b
le_moved a b l = grind (arith, nat_tests)

pub is_live-bucket : (profile : Profile) (ts now : ℕ) → is_live profile ts now ≡ nat_le (first_bucket profile now) (bucket ts)
unfolding is_live first_bucket
is_live-bucket profile ts now = le_moved (bucket now) (bucket ts) (live_buckets profile)

pub later_bucket : (profile : Profile) (now then : ℕ) → now ≤ then → first_bucket profile now ≤ first_bucket profile then
unfolding first_bucket bucket
later_bucket profile now then h = omega arith

pub fresh_from : (profile : Profile) (ts now : ℕ) → IsFresh profile ts now → first_bucket profile now ≤ bucket ts
unfolding first_bucket bucket live_buckets
fresh_from profile ts now f = let h = f.not_stale in omega arith

pub fresh_to : (profile : Profile) (ts now : ℕ) → IsFresh profile ts now → bucket ts < first_bucket profile now + most_buckets profile
unfolding first_bucket most_buckets bucket live_buckets
fresh_to profile ts now f = let h = f.not_early in omega arith
