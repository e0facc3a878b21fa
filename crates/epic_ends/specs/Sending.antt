-- The packet that a source sends over a path.
use Rattle.std.specs.Prelude.{ℕ, List, [], map, slice_index_or, if◌then◌else◌}
use Rattle.std.specs.List.{range_with_len}
use Rattle.epic_num.specs.declared.hop.HopName.{HopName}
use Rattle.epic_num.specs.declared.hop.Level.{Level}
use Rattle.epic_num.specs.declared.name.HostId.{HostId}
use Rattle.epic_num.specs.declared.segment.Leg.{Leg}
use Rattle.epic_num.specs.declared.segment.SegHop.{SegHop}
use Rattle.epic_num.specs.Levels.{first_byte, is_tagged}
use Rattle.epic_num.specs.Paths.{path_hops}
use Rattle.epic_layout.specs.Contents.{Contents, hop_count, unfilled}
use Rattle.epic_layout.specs.PathRoutes.{route_of}
use Rattle.epic_layout.specs.Spelling.{update_count}
use Rattle.epic_topo.specs.Network.{Network}
use Rattle.epic_fields.specs.PacketTags.{shared_key, field_over, update_over, dest_field_of}
use Rattle.epic_fields.specs.Tags.{sigma}
use Rattle.epic_beacon.specs.Segments.{name_of_hop}

-- ---- the hops of a path

-- what stands in the place of a hop that isn't there
abbrev pub no_hop : SegHop
no_hop = record {
  issue = 0;
  asn = record { 0 = 0 };
  body = record { pos = 0; exp = 0; ts_path = 0; inn = 0; out = 0; link = [] };
  sigma = [];
  generation = 0;
}

-- hop j of a path, and its name
unfoldable pub hop_of_path : List Leg → ℕ → SegHop
hop_of_path legs j = slice_index_or (path_hops legs) j no_hop

unfoldable pub name_at : List Leg → ℕ → HopName
name_at legs j = name_of_hop (hop_of_path legs j)

-- ---- tags over given authenticators

-- the fields of a packet over a path
unfoldable pub fields_over : Network → (SegHop → List ℕ) → List Leg → Contents → List (List ℕ)
fields_over t authenticator legs p =
    map
    (λ j. field_over (shared_key t (hop_of_path legs j).asn p) (authenticator (hop_of_path legs j)) p j)
    (range_with_len 0 (hop_count p))

-- the updates over which its destination field is made: one for each hop at level 3, none at level 2
unfoldable pub updates_over : Network → (SegHop → List ℕ) → List Leg → Contents → List (List ℕ)
updates_over t authenticator legs p =
    map
    (λ j. update_over (shared_key t (hop_of_path legs j).asn p) (authenticator (hop_of_path legs j)) p j)
    (range_with_len 0 (update_count p.first (hop_count p)))

-- ---- the packet

-- with its fields, and at levels 2 and 3 with its destination field, where each hop of the path has this authenticator
unfoldable pub packet_over : Network → (SegHop → List ℕ) → List Leg → ℕ → HostId → HostId → ℕ → List ℕ → Contents
packet_over t authenticator legs first src dst ts payload =
    let p = unfilled first src dst ts (route_of legs) payload in
    record p {
      fields = fields_over t authenticator legs p;
      dest_field = if is_tagged first then dest_field_of t p (updates_over t authenticator legs p) else p.dest_field;
    }

-- the packet that is sent: a source takes for a hop's authenticator the one that it got with the segment
unfoldable pub sent_packet : Network → List Leg → ℕ → Level → HostId → HostId → ℕ → List ℕ → Contents
sent_packet t legs version level src dst ts payload =
    packet_over t (λ h. h.sigma) legs (first_byte version level) src dst ts payload

-- the packet over the authenticators that the hops have in the topology
unfoldable pub made_packet : Network → List Leg → ℕ → HostId → HostId → ℕ → List ℕ → Contents
made_packet t legs first src dst ts payload = packet_over t (λ h. sigma t (name_of_hop h)) legs first src dst ts payload
