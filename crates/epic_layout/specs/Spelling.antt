-- The one spelling of a packet, and the messages that are made of its parts.
use Rattle.std.specs.Prelude.{◌≡◌, ◌≢◌, ℕ, ◌==◌, IsTrue, slice_index, List, [], ◌∷◌, ◌++◌, length, if◌then◌else◌, None}
use Rattle.std.specs.List.{All, flat_map, concat, zip}
use Rattle.epic_num.specs.Levels.{level_of, level_number, width_of, is_first_byte, is_tagged}
use Rattle.epic_num.specs.declared.name.HostId.{HostId}
use Rattle.epic_num.specs.BigEndian.{u16_bytes, u32_bytes, u64_bytes}
use Rattle.epic_num.specs.Messages.{host_bytes, dest_domain, field23_message}
use Rattle.epic_layout.specs.Route.{Route}
use Rattle.epic_layout.specs.Contents.{Contents, IsPacket, header_len, hop_count}
use Rattle.epic_layout.specs.Layout.{fault, parse}
use Rattle.epic_layout.specs.declared.head.SegmentHead.{SegmentHead}
use Rattle.epic_layout.specs.declared.head.HopHead.{HopHead}

-- a segment's header: direction (0 construction, 1 against), hop count, two zeros, timestamp
unfoldable pub segment_bytes : SegmentHead → List ℕ
segment_bytes s = (if s.against then 1 else 0) ∷ s.count ∷ 0 ∷ 0 ∷ u32_bytes s.ts_path

-- a hop without its field: expiry, interfaces, link tag
unfoldable pub hop_bytes : HopHead → List ℕ
hop_bytes h = h.exp ∷ (u16_bytes h.inn ++ (u16_bytes h.out ++ h.link))

-- the path bytes: the number of segments, their headers, and the hops without their fields
unfoldable pub path_bytes : Route → List ℕ
path_bytes r = length r.segments ∷ (flat_map segment_bytes r.segments ++ flat_map hop_bytes r.hops)

-- a hop with its field
unfoldable pub hop_with_field : HopHead × List ℕ → List ℕ
hop_with_field h = hop_bytes h.0 ++ h.1

-- version and level, no flags, lengths of header and payload, number of segments, current hop
abbrev pub sizes_bytes : ℕ → ℕ → ℕ → ℕ → ℕ → List ℕ
sizes_bytes first header payload segments current =
    first ∷ 0 ∷ (u16_bytes header ++ (u16_bytes payload ++ segments ∷ current ∷ []))

-- source AS, destination AS, source host, destination host, timestamp
abbrev pub ends_bytes : HostId → HostId → ℕ → List ℕ
ends_bytes src dst ts =
    u64_bytes src.asn.0 ++ (u64_bytes dst.asn.0 ++ (u32_bytes src.host ++ (u32_bytes dst.host ++ u64_bytes ts)))

unfoldable pub size_bytes : Contents → List ℕ
size_bytes p = sizes_bytes p.first (header_len p) (length p.payload) (length p.route.segments) p.current

unfoldable pub end_bytes : Contents → List ℕ
end_bytes p = ends_bytes p.src p.dst p.ts

-- levels 0 and 1 spell no destination field
unfoldable pub dest_bytes : Contents → List ℕ
dest_bytes p = if is_tagged p.first then p.dest_field else []

unfoldable pub spelling : Contents → List ℕ
spelling p =
    size_bytes p
    ++ (end_bytes p
    ++ (flat_map segment_bytes p.route.segments
    ++ (flat_map hop_with_field (zip p.route.hops p.fields)
    ++ (dest_bytes p ++ p.payload))))

-- the bytes have no fault, and the packet is what they say
pub record Spells (bytes : List ℕ) (p : Contents) : Type 0 where
  pub faultless : fault is_first_byte bytes ≡ None
  pub says : parse bytes ≡ p

-- ---- the message of a destination field

-- how many updates it has: one for each hop at level 3, none at level 2
unfoldable pub update_count : ℕ → ℕ → ℕ
update_count first hops = if level_number (level_of first) == 3 then hops else 0

pub record AreUpdates (first hops : ℕ) (updates : List (List ℕ)) : Type 0 where
  pub count : length updates ≡ update_count first hops
  pub widths : All (λ u. length u ≡ width_of first) updates

-- timestamp, source, destination, path bytes, the hops' updates, the payload after its length
unfoldable pub dest_message : Contents → List (List ℕ) → List ℕ
dest_message p updates =
    dest_domain p.first
    ∷ (u64_bytes p.ts
    ++ (host_bytes p.src
    ++ (host_bytes p.dst
    ++ (path_bytes p.route
    ++ (concat updates
    ++ (u16_bytes (length p.payload) ++ p.payload))))))

-- two destination fields are made over the same
pub record SameDestContent (p q : Contents) (us vs : List (List ℕ)) : Type 0 where
  pub same_first : p.first ≡ q.first
  pub same_ts : p.ts ≡ q.ts
  pub same_src : p.src ≡ q.src
  pub same_dst : p.dst ≡ q.dst
  pub same_route : p.route ≡ q.route
  pub same_updates : us ≡ vs
  pub same_payload : p.payload ≡ q.payload

-- equal messages of destination fields are made over the same, whatever the two packets' first bytes
abbrev pub DestMessagesDiffer : Type 0
DestMessagesDiffer =
    (p q : Contents) (us vs : List (List ℕ))
    → IsPacket p → IsPacket q
    → IsTrue (is_tagged p.first) → IsTrue (is_tagged q.first)
    → AreUpdates p.first (hop_count p) us → AreUpdates q.first (hop_count q) vs
    → dest_message p us ≡ dest_message q vs
    → SameDestContent p q us vs

-- the message of a destination field begins with another byte than that of a hop's field
abbrev pub KindsDiffer : Type 0
KindsDiffer =
    (p : Contents) (us : List (List ℕ)) (first ts : ℕ) (src : HostId) (hop : ℕ) (sigma : List ℕ)
    → IsTrue (is_tagged p.first) → IsTrue (is_tagged first)
    → slice_index (dest_message p us) 0 ≢ slice_index (field23_message first ts src hop sigma) 0
