-- What holds of a packet that a router accepts.
use Rattle.std.specs.Prelude.{◌≡◌, ◌≢◌, ◌⊎◌, ℕ, ◌+◌, ◌<◌, ◌≤◌, ◌==◌, true, false, List, slice_index, None, Contains, IsSome}
use Rattle.epic_num.specs.declared.name.AsId.{AsId}
use Rattle.epic_num.specs.declared.turn.Turn.{Turn}
use Rattle.epic_num.specs.declared.turn.Turn.TheVariants.{Forward, Deliver, Refused}
use Rattle.epic_num.specs.Levels.{is_first_byte, is_timed, is_updated}
use Rattle.epic_num.specs.Moments.{is_path_future, is_expired, is_stale, is_early}
use Rattle.epic_num.specs.Windows.{Told, was_here, has_no_room}
use Rattle.epic_layout.specs.Contents.{Contents, IsPacket, hop_count, field}
use Rattle.epic_layout.specs.Layout.{fault, parse}
use Rattle.epic_layout.specs.Reading.{IsRead}
use Rattle.epic_layout.specs.Route.{place, is_first, is_last, ingress, egress, body}
use Rattle.epic_topo.specs.Network.{Network, neighbour}
use Rattle.epic_fields.specs.HopChecks.{hop_name, has_field, has_link}
use Rattle.epic_fields.specs.PacketTags.{update_of}
use Rattle.epic_router.specs.Checks.{is_turn, handled_hops, last_handled}
use Rattle.epic_router.specs.Handling.{turn_of}
use Rattle.epic_router.specs.Leaving.{packet_after}

-- the packet came in by the hop's ingress, which is interface 0 exactly at the packet's first hop and its source's AS
pub record IsEntered (a : AsId) (iface : ℕ) (p : Contents) : Type 0 where
  pub ingress_is : ingress p.route p.current ≡ iface
  pub at_start : iface ≡ 0 → p.current ≡ 0
  pub from_inside : p.current ≡ 0 → iface ≡ 0
  pub source : iface ≡ 0 → p.src.asn ≡ a

-- hop j is valid at this moment, its tags are right under a generation that is tried, and its segment is entered and left at its ends
pub record IsRightHop (t : Network) (a : AsId) (candidates : List ℕ) (generation now : ℕ) (p : Contents) (j : ℕ) : Type 0 where
  pub not_future : is_path_future t.profile (body p.route j).ts_path now ≡ false
  pub not_expired : is_expired (body p.route j).ts_path (body p.route j).exp now ≡ false
  pub candidate : Contains candidates generation
  pub field_is : has_field t (hop_name a generation p j) p j ≡ true
  pub link_is : has_link t (hop_name a generation p j) p j ≡ true
  pub first_is : is_first (place p.route.segments j) ≡ (ingress p.route j == 0)
  pub last_is : is_last (place p.route.segments j) ≡ (egress p.route j == 0)

-- the packet is fresh, wasn't here before, and there is room to remember it
pub record IsTimely (t : Network) (now : ℕ) (told : Told) (p : Contents) : Type 0 where
  pub not_stale : is_stale t.profile p.ts now ≡ false
  pub not_early : is_early t.profile p.ts now ≡ false
  pub unseen : was_here told ≡ false
  pub room : has_no_room t.profile told ≡ false

-- the packet leaves so many hops on, with the updates of these hops at level 3, and is the same otherwise
pub record GoesOn (t : Network) (a : AsId) (p left : Contents) (hops : ℕ) (generations : List ℕ) : Type 0 where
  pub packet : IsPacket left
  pub current : left.current ≡ p.current + hops
  pub first : left.first ≡ p.first
  pub src : left.src ≡ p.src
  pub dst : left.dst ≡ p.dst
  pub ts : left.ts ≡ p.ts
  pub route : left.route ≡ p.route
  pub dest_field : left.dest_field ≡ p.dest_field
  pub payload : left.payload ≡ p.payload
  pub same_fields : is_updated p.first ≡ false → left.fields ≡ p.fields
  pub updates : is_updated p.first ≡ true → (i : ℕ) → i < hops
      → field left (p.current + i) ≡ update_of t (hop_name a (slice_index generations i) p (p.current + i)) p (p.current + i)
  pub others : (k : ℕ) → (k < p.current) ⊎ (p.current + hops ≤ k) → field left k ≡ field p k

-- a packet that this answer accepts, as it came in and as it leaves: so many hops were handled, from the current one on, each under a
-- generation
pub record IsAccepted (t : Network) (a : AsId) (candidates : List ℕ) (iface now : ℕ) (told : Told) (bytes : List ℕ) (answer : Turn) (hops : ℕ) (generations : List ℕ) : Type 0 where
  pub faultless : fault is_first_byte bytes ≡ None
  pub there : (parse bytes).current + hops ≤ hop_count (parse bytes)
  pub comes : is_turn (parse bytes) (parse bytes).current ≡ true
  pub entered : IsEntered a iface (parse bytes)
  pub hops_are : hops ≡ handled_hops (parse bytes) (parse bytes).current
  pub each : (i : ℕ) → i < hops → IsRightHop t a candidates (slice_index generations i) now (parse bytes) ((parse bytes).current + i)
  pub timely : is_timed (parse bytes).first ≡ true → IsTimely t now told (parse bytes)
  pub goes_on : GoesOn t a (parse bytes) (packet_after t a answer (parse bytes)) hops generations

-- it goes on over a link of the AS at the egress of the last hop that was handled
pub record IsForwarded (t : Network) (a : AsId) (p : Contents) (out : ℕ) : Type 0 where
  pub egress_is : egress p.route (last_handled p p.current) ≡ out
  pub leaves : out ≢ 0
  pub linked : IsSome (neighbour t a out)

-- it ends in the AS of its destination
pub record IsDelivered (a : AsId) (p : Contents) (host : ℕ) : Type 0 where
  pub egress_is : egress p.route (last_handled p p.current) ≡ 0
  pub destination : p.dst.asn ≡ a
  pub host_is : p.dst.host ≡ host

-- an answer that accepts bytes is right
abbrev pub IsRightTurn : Network → AsId → List ℕ → ℕ → ℕ → Told → List ℕ → Turn → Type 0
IsRightTurn t a candidates iface now told bytes (Forward out hops generations) =
    IsAccepted t a candidates iface now told bytes (Forward out hops generations) hops generations × IsForwarded t a (parse bytes) out
IsRightTurn t a candidates iface now told bytes (Deliver host hops generations) =
    IsAccepted t a candidates iface now told bytes (Deliver host hops generations) hops generations × IsDelivered a (parse bytes) host
IsRightTurn t a candidates iface now told bytes (Refused check hop) = Unit {0}

-- what a router accepts is right, whatever the bytes and whatever its window tells
abbrev pub TurnsAreRight : Type 0
TurnsAreRight =
    (t : Network) (a : AsId) (candidates : List ℕ) (iface now : ℕ) (told : Told) (bytes : List ℕ)
    → IsRead bytes → IsRightTurn t a candidates iface now told bytes (turn_of t a candidates iface now told bytes)
