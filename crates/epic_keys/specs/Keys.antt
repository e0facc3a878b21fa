-- The key that a name stands for in a topology.
use Rattle.std.specs.Prelude.{ℕ, List, [], unwrap_or}
use Rattle.epic_cmac.specs.Cmac.{cmac}
use Rattle.epic_num.specs.declared.name.AsId.{AsId}
use Rattle.epic_num.specs.declared.name.HostId.{HostId}
use Rattle.epic_num.specs.declared.key_name.KeyName.{KeyName}
use Rattle.epic_num.specs.declared.key_name.KeyName.TheVariants.{Fwd, Field, Dest}
use Rattle.epic_num.specs.Messages.{forwarding_message, secret_message, as_key_message, host_key_message, dest_key_message}
use Rattle.epic_topo.specs.Network.{Network, master}

-- the AS from whose master key the key is derived
unfoldable pub owner : KeyName → AsId
owner (Fwd a g) = a
owner (Field a src epoch) = a
owner (Dest dst src epoch) = dst.asn

-- the forwarding key of a generation, of the AS with this master key
unfoldable pub forwarding_key : List ℕ → ℕ → List ℕ
forwarding_key master_key generation = cmac master_key (forwarding_message generation)

-- the secret value of an epoch
unfoldable pub secret_value : List ℕ → ℕ → List ℕ
secret_value master_key epoch = cmac master_key (secret_message epoch)

-- under the secret value of an epoch: the key for another AS
unfoldable pub as_key : List ℕ → AsId → List ℕ
as_key secret a = cmac secret (as_key_message a)

-- the key for a host of another AS
unfoldable pub host_key : List ℕ → HostId → List ℕ
host_key secret src = cmac (as_key secret src.asn) (host_key_message src.host)

-- the key that a host of the AS, by its number, shares with a host of another
unfoldable pub dest_key : List ℕ → ℕ → HostId → List ℕ
dest_key secret dst src = cmac (as_key secret src.asn) (dest_key_message dst src.host)

-- the master key of an AS, none where the topology doesn't have it
unfoldable pub master_key : Network → AsId → List ℕ
master_key t a = unwrap_or (master t a) []

-- the key of a name
unfoldable pub key : Network → KeyName → List ℕ
key t (Fwd a g) = forwarding_key (master_key t a) g
key t (Field a src epoch) = host_key (secret_value (master_key t a) epoch) src
key t (Dest dst src epoch) = dest_key (secret_value (master_key t dst.asn) epoch) dst.host src
