-- Private: serves proofs of this crate alone; no public contract cites it.
-- What holds of a policer's accounts and packets.
use Rattle.std.specs.Prelude.{◌≡◌, ℕ, ◌<◌, ◌≤◌, if◌then◌else◌, List, length, sum_by, Some}
use Rattle.epic_num.specs.declared.name.AsId.{AsId}
use Rattle.epic_num.specs.Same.{same_as}
use Rattle.epic_pool.specs.Pool.{PoolState}
use Rattle.epic_policer.specs.Accounts.{list_in, used_in}
use Rattle.epic_policer.specs.Queue.{InOrder, IsQueue, entries_of}
use Rattle.epic_policer.specs.declared.accounts.Account.{Account}
use Rattle.epic_policer.specs.declared.packet.Packet.{Packet}

-- the bytes of all packets of a source
unfoldable pub total : List Packet → AsId → ℕ
total ps s = sum_by (λ p. if same_as p.source s then p.bytes else 0) ps

-- each source has used what its packets have, within the budget; its list is one of the pool's
pub record IsKept (budget latest : ℕ) (accounts : List (AsId × Account)) (pool : PoolState Packet) : Type 0 where
  pub queue : IsQueue pool
  pub in_order : InOrder 0 latest (entries_of pool)
  pub used_is : (s : AsId) → used_in accounts s ≡ total (entries_of pool) s
  pub within : (s : AsId) → used_in accounts s ≤ budget
  pub lists : (s : AsId) (l : ℕ) → list_in accounts s ≡ Some l → l < length pool.a
