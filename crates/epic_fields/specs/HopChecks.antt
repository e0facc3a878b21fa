-- What a hop's tags have to be where a packet's hop is taken for a hop of a name.
use Rattle.std.specs.Prelude.{ℕ, Bool, true, List, bytes_eq}
use Rattle.std.specs.Option.{option_map_or}
use Rattle.epic_num.specs.declared.hop.HopName.{HopName}
use Rattle.epic_num.specs.declared.name.AsId.{AsId}
use Rattle.epic_layout.specs.Contents.{Contents, field}
use Rattle.epic_layout.specs.Route.{place, successor, hop, body}
use Rattle.epic_topo.specs.Network.{Network}
use Rattle.epic_fields.specs.PacketTags.{field_of}
use Rattle.epic_fields.specs.Tags.{link}

-- the name of hop j of the packet at an AS, under a generation of its forwarding key
unfoldable pub hop_name : AsId → ℕ → Contents → ℕ → HopName
hop_name a generation p j = record { asn = a; generation = generation; body = body p.route j }

-- the field of hop j is this
unfoldable pub carries_field : List ℕ → Contents → ℕ → Bool
carries_field right p j = bytes_eq (field p j) right

-- the next hop of the segment in construction order, where there is one, carries this link tag
unfoldable pub carries_link : List ℕ → Contents → ℕ → Bool
carries_link right p j = option_map_or (λ s. bytes_eq (hop p.route s).link right) (successor (place p.route.segments j) j) true

-- the field of hop j is the one of the name
unfoldable pub has_field : Network → HopName → Contents → ℕ → Bool
has_field t x p j = carries_field (field_of t x p j) p j

-- the next hop carries the link tag of the name
unfoldable pub has_link : Network → HopName → Contents → ℕ → Bool
has_link t x p j = carries_link (link t x) p j
