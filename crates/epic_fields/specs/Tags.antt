-- The tags of hops under the keys of a topology.
use Rattle.std.specs.Prelude.{ℕ, List}
use Rattle.epic_num.specs.declared.hop.HopName.{HopName}
use Rattle.epic_num.specs.declared.key_name.KeyName.TheVariants.{Fwd}
use Rattle.epic_topo.specs.Network.{Network}
use Rattle.epic_keys.specs.Keys.{key}
use Rattle.epic_fields.specs.Formulas.{authenticator, link_tag}

-- the forwarding key of a hop's AS, of the hop's generation
unfoldable pub hop_key : Network → HopName → List ℕ
hop_key t x = key t (Fwd x.asn x.generation)

-- a hop's authenticator
unfoldable pub sigma : Network → HopName → List ℕ
sigma t x = authenticator (hop_key t x) x.body

-- a hop's link tag, which the next hop of its segment carries
unfoldable pub link : Network → HopName → List ℕ
link t x = link_tag (hop_key t x) x.body
