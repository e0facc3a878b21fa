-- When a packet that its source sent is accepted all the way.
use Rattle.std.specs.Prelude.{◌≡◌, ◌⊎◌, ℕ, zero, suc, ◌+◌, ◌*◌, ◌<◌, ◌≤◌, Bool, true, false, ◌&&◌, if◌then◌else◌, length, None}
use Rattle.epic_num.specs.declared.hop.HopName.{HopName}
use Rattle.epic_num.specs.declared.name.AsId.{AsId}
use Rattle.epic_num.specs.Levels.{is_timed, is_tagged}
use Rattle.epic_num.specs.Moments.{is_expired, is_stale, is_early}
use Rattle.epic_num.specs.Same.{same_as}
use Rattle.epic_layout.specs.Contents.{Contents, hop_count}
use Rattle.epic_layout.specs.Route.{body}
use Rattle.epic_layout.specs.Spelling.{spelling}
use Rattle.epic_topo.specs.Network.{Network}
use Rattle.epic_window.specs.Entries.{seen, count}
use Rattle.epic_router.specs.Candidates.{tags_fit}
use Rattle.epic_router.specs.Checks.{is_turn}
use Rattle.epic_ledger.specs.History.{History, emitted}
use Rattle.epic_model.specs.Passing.{rolls, most_emitted}
use Rattle.epic_model.specs.Windows.{router_window, host_window}
use Rattle.epic_router.specs.Remembering.{key_at}

-- how many numbers below n meet the test
unfoldable pub count_below : (ℕ → Bool) → ℕ → ℕ
count_below test zero = 0
count_below test (suc n) = if test n then count_below test n + 1 else count_below test n

-- the packet comes at hop j to the router of this AS
unfoldable pub is_turn_at : Contents → (ℕ → HopName) → AsId → ℕ → Bool
is_turn_at p x a j = is_turn p j && same_as (x j).asn a

-- The forwarding key under which hop j was issued is its AS's present one, or the one before it, where the present one doesn't give
-- the same tags.
abbrev pub IsInForce : Network → History → Contents → HopName → ℕ → Type 0
IsInForce t h p x j =
    (x.generation ≡ rolls h.events x.asn)
    ⊎ ((x.generation + 1 ≡ rolls h.events x.asn) × (tags_fit t x.asn p j (rolls h.events x.asn) ≡ false))

-- At this moment, over this ledger, the packet's hops are valid and their keys in force, it is fresh, no router and no host on its
-- way has seen it, each has room for it, and so has the ledger.
pub record Honest (t : Network) (h : History) (now : ℕ) (p : Contents) (x : ℕ → HopName) : Type 0 where
  pub valid : (j : ℕ) → j < hop_count p → is_expired (body p.route j).ts_path (body p.route j).exp now ≡ false
  pub in_force : (j : ℕ) → j < hop_count p → IsInForce t h p (x j) j
  pub not_stale : is_timed p.first ≡ true → is_stale t.profile p.ts now ≡ false
  pub not_early : is_timed p.first ≡ true → is_early t.profile p.ts now ≡ false
  pub unseen : is_timed p.first ≡ true → (j : ℕ) → j < hop_count p → is_turn p j ≡ true
      → seen t.profile (router_window h (x j).asn) now (key_at p j) ≡ None
  pub room : is_timed p.first ≡ true → (j : ℕ) → j < hop_count p → is_turn p j ≡ true
      → count t.profile (router_window h (x j).asn) now p.src.asn + count_below (is_turn_at p x (x j).asn) (hop_count p) ≤ t.profile.window
  pub unseen_there : is_tagged p.first ≡ true → seen t.profile (host_window h p.dst) now (key_at p (hop_count p)) ≡ None
  pub room_there : is_tagged p.first ≡ true → count t.profile (host_window h p.dst) now p.src.asn < t.profile.window
  pub emissions : emitted h.emissions + count_below (is_turn p) (hop_count p) * length (spelling p) ≤ most_emitted
