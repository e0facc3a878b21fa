-- Keys that are kept ready, each with what it was made from.
use Rattle.std.specs.Prelude.{◌≡◌, ℕ, ◌+◌, ◌%◌, ◌==◌, Bool, true, List, if◌then◌else◌}
use Rattle.epic_num.specs.declared.key_name.KeyName.{KeyName}
use Rattle.epic_num.specs.declared.key_name.KeyName.TheVariants.{Fwd, Field, Dest}
use Rattle.epic_num.specs.declared.name.HostId.{HostId}
use Rattle.epic_topo.specs.Network.{Network}
use Rattle.epic_keys.specs.Keys.{owner, forwarding_key, secret_value, host_key, dest_key, master_key}

-- the key of a name, where this is its owner's master key
unfoldable pub key_under : List ℕ → KeyName → List ℕ
key_under master (Fwd a g) = forwarding_key master g
key_under master (Field a src epoch) = host_key (secret_value master epoch) src
key_under master (Dest dst src epoch) = dest_key (secret_value master epoch) dst.host src

-- the place of a secret value: whether it was made yet, the master key that it was made from, and its epoch
pub record Secret : Type 0 where
  pub is_made : Bool
  pub master : List ℕ
  pub epoch : ℕ

-- a place for a key: whether one was made yet, the master key that it was made from, and its name
pub record Made : Type 0 where
  pub is_made : Bool
  pub master : List ℕ
  pub name : KeyName

-- the places for keys
pub record Places : Type 0 where
  pub first : Made
  pub second : Made
  pub third : Made
  pub fourth : Made

-- the number of the place of a host
unfoldable pub place_of : HostId → ℕ
place_of h = (h.asn.0 % 4 + h.host % 4) % 4

-- the number of the place of a name: an owner has keys of many sources, and a source those of many destinations
unfoldable pub place : KeyName → ℕ
place (Fwd a g) = 0
place (Field a src epoch) = place_of src
place (Dest dst src epoch) = (place_of dst + place_of src) % 4

unfoldable pub kept_at : Places → ℕ → Made
kept_at p n = if n == 0 then p.first else if n == 1 then p.second else if n == 2 then p.third else p.fourth

-- the key of the name in this topology is kept ready
unfoldable pub IsKept : Places → Network → KeyName → Type 0
IsKept p t name = kept_at p (place name) ≡ record { is_made = true; master = master_key t (owner name); name = name }
