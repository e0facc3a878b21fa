-- Time: when a hop ends, when a packet is fresh, and how long a replay window keeps it. Moments are microseconds.
use Rattle.std.specs.Prelude.{◌≡◌, ℕ, ◌%◌, ◌+◌, ◌*◌, ◌/◌, ◌≤◌, Bool, nat_lt, nat_le}
use Rattle.epic_num.specs.declared.profile.Profile.{Profile}

-- the settings are in their ranges, and an epoch is of whole seconds
pub record IsProfile (p : Profile) : Type 0 where
  pub some_lifetime : 1 ≤ p.lifetime_us
  pub lifetime : p.lifetime_us ≤ 3600000000
  pub skew : p.skew_us ≤ 3600000000
  pub some_epoch : 1000000 ≤ p.epoch_us
  pub epoch : p.epoch_us ≤ 31536000000000
  pub seconds : p.epoch_us % 1000000 ≡ 0
  pub some_window : 1 ≤ p.window
  pub window : p.window ≤ 65536

-- a hop is valid until (exp + 1) * 337.5 seconds after its segment's timestamp, which is in seconds
unfoldable pub valid_until : ℕ → ℕ → ℕ
valid_until ts_path exp = ts_path * 1000000 + (exp + 1) * 337500000

unfoldable pub is_expired : ℕ → ℕ → ℕ → Bool
is_expired ts_path exp now = nat_lt (valid_until ts_path exp) now

-- a segment's timestamp lies too far ahead
unfoldable pub is_path_future : Profile → ℕ → ℕ → Bool
is_path_future profile ts_path now = nat_lt (now + profile.skew_us) (ts_path * 1000000)

-- a packet's timestamp lies too far ahead
unfoldable pub is_early : Profile → ℕ → ℕ → Bool
is_early profile ts now = nat_lt (now + profile.skew_us) ts

-- a packet's timestamp is too old
unfoldable pub is_stale : Profile → ℕ → ℕ → Bool
is_stale profile ts now = nat_lt (ts + profile.lifetime_us) now

-- neither of the two
pub record IsFresh (profile : Profile) (ts now : ℕ) : Type 0 where
  pub not_early : ts ≤ now + profile.skew_us
  pub not_stale : now ≤ ts + profile.lifetime_us

-- replay windows count time in buckets of 262,144 microseconds
unfoldable pub bucket : ℕ → ℕ
bucket moment = moment / 262144

-- an entry with this timestamp is live until the bucket that lies this many past its own is over
unfoldable pub live_buckets : Profile → ℕ
live_buckets profile = bucket profile.lifetime_us + 1

unfoldable pub is_live : Profile → ℕ → ℕ → Bool
is_live profile ts now = nat_le (bucket now) (bucket ts + live_buckets profile)

-- the key epoch of a timestamp
unfoldable pub epoch_of : Profile → ℕ → ℕ
epoch_of profile ts = ts / profile.epoch_us
