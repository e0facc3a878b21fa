-- The routers of a world: one an AS, made at first use. Their windows stand for what the ledger tells.
use Rattle.std.specs.Prelude.{◌≡◌, ℕ, ◌≤◌, List, [], Option, None, Some}
use Rattle.std.specs.BTreeMap.{is_at}
use Rattle.std.specs.Map.{lookup}
use Rattle.std.specs.Ordering.{nat_cmp}
use Rattle.epic_num.specs.declared.name.AsId.{AsId}
use Rattle.epic_topo.specs.Network.{Network}
use Rattle.epic_router.specs.Routers.{RouterState}
use Rattle.epic_ledger.specs.History.{History}
use Rattle.epic_model.specs.Standing.{StandsFor}
use Rattle.epic_model.specs.Windows.{router_window}

-- what is seen of the routers: the entries, by the numbers of their ASes, are read by `router_of` alone
pub record RouterTable : Type 0 where
  pub entries : List (ℕ × RouterState)

-- the router of an AS, if it has one
unfoldable pub router_of : RouterTable → AsId → Option RouterState
router_of table a = lookup (is_at (nat_cmp a.0)) table.entries

-- it is there, with room for so many more packets
abbrev pub HasRoom : ℕ → Option RouterState → Type 0
HasRoom n None = ⊥
HasRoom n (Some r) = n ≤ r.window.spare

-- An AS's router is its own, and from a moment on its window stands for what the ledger tells of it. Of an AS without a router the
-- ledger tells nothing.
abbrev pub StandsAt : Network → ℕ → History → AsId → Option RouterState → Type 0
StandsAt t now h a None = router_window h a ≡ []
StandsAt t now h a (Some r) = (r.asn ≡ a) × StandsFor t now r.window (router_window h a)

-- so the routers of all ASes
abbrev pub RoutersStandFor : Network → ℕ → RouterTable → History → Type 0
RoutersStandFor t now table h = (a : AsId) → StandsAt t now h a (router_of table a)
