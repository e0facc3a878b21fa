-- Private: serves proofs of this crate alone; no public contract cites it.
-- The packets that passed, oldest first, as the one list of a pool's second family.
use Rattle.std.specs.Prelude.{⊤, ◌≡◌, ℕ, ◌≤◌, true, List, [], ◌∷◌, length, filter_map, Option, IsSome}
use Rattle.epic_pool.specs.Pool.{PoolState, value_of, list_of}
use Rattle.epic_policer.specs.Offers.{is_live}
use Rattle.epic_policer.specs.declared.packet.Packet.{Packet}

-- the packets that passed
unfoldable pub entries_of : PoolState Packet → List Packet
entries_of pool = filter_map (value_of pool) (list_of pool.b 0)

-- none of these nodes is the one
abbrev pub IsOther : ℕ → List ℕ → Type 0
IsOther node [] = ⊤
IsOther node (n ∷ ns) = (n ≡ node → ⊥) × IsOther node ns

-- each of these nodes has a value, and no node comes twice
unfoldable pub Stand : (ℕ → Option Packet) → List ℕ → Type 0
Stand value [] = ⊤
Stand value (n ∷ ns) = IsSome (value n) × IsOther n ns × Stand value ns

pub record IsQueue (pool : PoolState Packet) : Type 0 where
  pub one : length pool.b ≡ 1
  pub stand : Stand (value_of pool) (list_of pool.b 0)

-- the first packet, if there is one, is live
abbrev pub StartsLive : ℕ → ℕ → List Packet → Type 0
StartsLive span now [] = ⊤
StartsLive span now (p ∷ ps) = is_live span now p ≡ true

-- the moments are in order, from one to another
unfoldable pub InOrder : ℕ → ℕ → List Packet → Type 0
InOrder from latest [] = from ≤ latest
InOrder from latest (p ∷ ps) = (from ≤ p.moment) × InOrder p.moment latest ps

-- each packet is live
abbrev pub AllLive : ℕ → ℕ → List Packet → Type 0
AllLive span now [] = ⊤
AllLive span now (p ∷ ps) = (is_live span now p ≡ true) × AllLive span now ps
