-- The way of a packet: what its hops are to one another and to the topology, and the packet at each of them.
use Rattle.std.specs.Prelude.{◌≡◌, ℕ, ◌+◌, ◌==◌, ◌<◌, true, false, if◌then◌else◌, List, ◌++◌, map, take, drop, Some}
use Rattle.std.specs.List.{range_with_len}
use Rattle.epic_num.specs.declared.hop.HopName.{HopName}
use Rattle.epic_num.specs.Levels.{is_tagged, is_updated}
use Rattle.epic_layout.specs.Contents.{Contents, hop_count, field}
use Rattle.epic_layout.specs.Route.{place, is_first, is_last, successor, ingress, egress, hop, body}
use Rattle.epic_layout.specs.Spelling.{update_count}
use Rattle.epic_topo.specs.declared.link_kind.LinkKind.{LinkKind}
use Rattle.epic_topo.specs.Network.{Network, neighbour}
use Rattle.epic_fields.specs.Tags.{link}
use Rattle.epic_fields.specs.PacketTags.{field_of, update_of, dest_field_of}

-- the link at the egress of hop j leads to the ingress of the next hop
pub record Leads (t : Network) (p : Contents) (x : ℕ → HopName) (j : ℕ) : Type 0 where
  pub kind : LinkKind
  pub linked : neighbour t (x j).asn (egress p.route j) ≡ Some ((x (j + 1)).asn, ingress p.route (j + 1), kind)

-- The packet's hops have these names, and each name makes the link tag that the next hop of its segment carries. A segment is
-- entered and left within an AS at its ends alone. Inside it links lead from hop to hop, and where it ends the next one begins in
-- the same AS. The way leads from the source's AS to the destination's.
pub record IsRoad (t : Network) (p : Contents) (x : ℕ → HopName) : Type 0 where
  pub starts : (x 0).asn ≡ p.src.asn
  pub ends : (j : ℕ) → j + 1 ≡ hop_count p → (x j).asn ≡ p.dst.asn
  pub bodies : (j : ℕ) → j < hop_count p → (x j).body ≡ body p.route j
  pub first_is : (j : ℕ) → j < hop_count p → is_first (place p.route.segments j) ≡ (ingress p.route j == 0)
  pub last_is : (j : ℕ) → j < hop_count p → is_last (place p.route.segments j) ≡ (egress p.route j == 0)
  pub leads : (j : ℕ) → j < hop_count p → is_last (place p.route.segments j) ≡ false → Leads t p x j
  pub switches : (j : ℕ) → j + 1 < hop_count p → is_last (place p.route.segments j) ≡ true → (x (j + 1)).asn ≡ (x j).asn
  pub linked : (j k : ℕ) → j < hop_count p → successor (place p.route.segments j) j ≡ Some k → (hop p.route k).link ≡ link t (x j)

-- ---- a packet that its source made, and as it is on its way

-- the updates that the routers of its hops are to give out, at level 3
unfoldable pub updates_of : Network → Contents → (ℕ → HopName) → List (List ℕ)
updates_of t p x = map (λ j. update_of t (x j) p j) (range_with_len 0 (update_count p.first (hop_count p)))

-- the packet at hop j: at level 3 the hops before it have these updates in their fields' places
unfoldable pub on_way : List (List ℕ) → Contents → ℕ → Contents
on_way updates p j = record p {
  current = j;
  fields = if is_updated p.first then take j updates ++ drop j p.fields else p.fields;
}

-- it is at its first hop, and its fields and its destination field are those of the formulas
pub record IsMade (t : Network) (p : Contents) (x : ℕ → HopName) : Type 0 where
  pub begins : p.current ≡ 0
  pub fields : (j : ℕ) → j < hop_count p → field p j ≡ field_of t (x j) p j
  pub dest_field : is_tagged p.first ≡ true → p.dest_field ≡ dest_field_of t p (updates_of t p x)
