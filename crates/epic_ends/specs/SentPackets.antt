-- What holds of the packets that sources send.
use Rattle.std.specs.Prelude.{◌≡◌, ℕ, ◌+◌, ◌<◌, ◌≤◌, ◌^◌, true, false, IsTrue, List, [], ◌∷◌, length, None, Some}
use Rattle.std.specs.List.{All}
use Rattle.epic_num.specs.declared.hop.HopName.{HopName}
use Rattle.epic_num.specs.declared.hop.Level.{Level}
use Rattle.epic_num.specs.declared.name.HostId.{HostId}
use Rattle.epic_num.specs.declared.segment.Leg.{Leg}
use Rattle.epic_num.specs.declared.segment.SegHop.{SegHop}
use Rattle.epic_num.specs.Bodies.{IsBody}
use Rattle.epic_num.specs.Levels.{first_byte, is_first_byte, is_tagged, is_updated}
use Rattle.epic_num.specs.Messages.{IsHost}
use Rattle.epic_num.specs.Paths.{is_lawful, path_start, path_end}
use Rattle.epic_layout.specs.declared.wire.TheConstants.{MAX_PAYLOAD}
use Rattle.epic_layout.specs.Contents.{Contents, IsPacket, hop_count, field}
use Rattle.epic_layout.specs.Layout.{fault, parse}
use Rattle.epic_layout.specs.PathRoutes.{route_of}
use Rattle.epic_layout.specs.Route.{place, is_first, is_last, successor, hop, body}
use Rattle.epic_layout.specs.Spelling.{spelling}
use Rattle.epic_layout.specs.Updates.{own_updates}
use Rattle.epic_topo.specs.Network.{Network}
use Rattle.epic_fields.specs.HopChecks.{hop_name, has_field, has_link}
use Rattle.epic_fields.specs.PacketTags.{field_of, dest_field_of}
use Rattle.epic_fields.specs.Tags.{sigma}
use Rattle.epic_ends.specs.Sending.{name_at, sent_packet, made_packet}
use Rattle.epic_ends.specs.Ways.{IsRoad, IsMade, updates_of, on_way}
use Rattle.epic_beacon.specs.Segments.{name_of_hop}

-- what holds of each hop of a path
abbrev pub EachHop : (SegHop → Type 0) → List Leg → Type 0
EachHop P [] = Unit {0}
EachHop P (leg ∷ legs) = All P leg.segment.hops.items × EachHop P legs

-- each has the authenticator that its name has in the topology
abbrev pub HaveSigmas : Network → List Leg → Type 0
HaveSigmas t legs = EachHop (λ h. h.sigma ≡ sigma t (name_of_hop h)) legs

-- the packet that is sent is then the one over the topology's authenticators
abbrev pub SentPacketsAreMade : Type 0
SentPacketsAreMade =
    (t : Network) (legs : List Leg) (version : ℕ) (level : Level) (src dst : HostId) (ts : ℕ) (payload : List ℕ)
    → HaveSigmas t legs
    → sent_packet t legs version level src dst ts payload ≡ made_packet t legs (first_byte version level) src dst ts payload

-- its fields and its destination field are those of its hops' names, each of which has the hop's body
pub record HasFields (t : Network) (legs : List Leg) (p : Contents) : Type 0 where
  pub made : IsMade t p (name_at legs)
  pub bodies : (j : ℕ) → j < hop_count p → (name_at legs j).body ≡ body p.route j
  pub starts : (name_at legs 0).asn ≡ path_start legs
  pub ends : (j : ℕ) → j + 1 ≡ hop_count p → (name_at legs j).asn ≡ path_end legs
  pub switches : (j : ℕ) → j + 1 < hop_count p → is_last (place p.route.segments j) ≡ true → (name_at legs (j + 1)).asn ≡ (name_at legs j).asn

abbrev pub MadePacketsHaveFields : Type 0
MadePacketsHaveFields =
    (t : Network) (legs : List Leg) (first : ℕ) (src dst : HostId) (ts : ℕ) (payload : List ℕ)
    → IsTrue (is_lawful legs) → HasFields t legs (made_packet t legs first src dst ts payload)

-- the bytes are a packet, which has these fields where the path's hops have the authenticators of the topology
pub record IsRightPacket (t : Network) (legs : List Leg) (bytes : List ℕ) : Type 0 where
  pub faultless : fault is_first_byte bytes ≡ None
  pub fields : HaveSigmas t legs → HasFields t legs (parse bytes)

-- the bodies of a path's hops fit their types
abbrev pub AreInRange : List Leg → Type 0
AreInRange legs = EachHop (λ h. IsBody h.body) legs

-- what is sent is within the layout's limits, and is read back from its bytes
abbrev pub MadePacketsAreSpelled : Type 0
MadePacketsAreSpelled =
    (t : Network) (legs : List Leg) (first : ℕ) (src dst : HostId) (ts : ℕ) (payload : List ℕ)
    → is_first_byte first ≡ true → IsHost src → IsHost dst → ts < 2 ^ 64 → length payload ≤ MAX_PAYLOAD
    → IsTrue (is_lawful legs) → AreInRange legs
    → (let p = made_packet t legs first src dst ts payload in IsPacket p × (parse (spelling p) ≡ p))

-- on a packet's way its tags are right under the hops' names at each hop, and at its end its destination field is
pub record IsRightAllAlong (t : Network) (p : Contents) (x : ℕ → HopName) : Type 0 where
  pub fields : (j : ℕ) → j < hop_count p → has_field t (x j) (on_way (updates_of t p x) p j) j ≡ true
  pub links : (j : ℕ) → j < hop_count p → has_link t (x j) (on_way (updates_of t p x) p j) j ≡ true
  pub dest_field : is_tagged p.first ≡ true
      → (let q = on_way (updates_of t p x) p (hop_count p) in q.dest_field ≡ dest_field_of t q (own_updates q))

abbrev pub PacketsStayRight : Type 0
PacketsStayRight =
    (t : Network) (p : Contents) (x : ℕ → HopName) → IsPacket p → IsRoad t p x → IsMade t p x → IsRightAllAlong t p x
