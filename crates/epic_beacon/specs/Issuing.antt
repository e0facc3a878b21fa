-- Which hop is issued, or why none is: a table of refusals, of which the first that applies is told.
use Rattle.std.specs.Prelude.{◌≡◌, ◌⊎◌, ℕ, ◌+◌, ◌/◌, ◌==◌, Bool, true, false, not, ◌&&◌, List, [], ◌∷◌, length, replicate, Option, Some, option_map, is_some, is_none, unwrap_or, position, Result, Ok, Err}
use Rattle.std.specs.List.{list_any}
use Rattle.std.specs.Option.{option_map_or}
use Rattle.epic_num.specs.declared.beacon_error.BeaconError.{BeaconError}
use Rattle.epic_num.specs.declared.beacon_error.BeaconError.TheVariants.{NotCore, Unknown, Ended, TooLong, Loop, UnknownInterface, WrongKind, Expired, Duplicate, Full, OutOfMemory}
use Rattle.epic_num.specs.declared.hop.HopName.{HopName}
use Rattle.epic_num.specs.declared.name.AsId.{AsId}
use Rattle.epic_num.specs.declared.segment.SegKind.{SegKind}
use Rattle.epic_num.specs.declared.segment.SegKind.TheVariants.{Core, Child}
use Rattle.epic_num.specs.Chains.{chain}
use Rattle.epic_num.specs.Moments.{is_expired}
use Rattle.epic_num.specs.Same.{same_as}
use Rattle.epic_num.specs.Tables.{first_row, unless}
use Rattle.epic_topo.specs.declared.link_kind.LinkKind.{LinkKind}
use Rattle.epic_topo.specs.declared.link_kind.LinkKind.TheVariants.{Core as CoreLink, Parent as ParentLink, Child as ChildLink}
use Rattle.epic_topo.specs.Network.{Network, is_core, neighbour}
use Rattle.epic_fields.specs.Tags.{sigma, link}
use Rattle.epic_beacon.specs.declared.beacon.Beacon.{Beacon}
use Rattle.epic_beacon.specs.Store.{Store, beacon_at, issues_of, with_beacon}

-- ---- links

-- what the link at an interface is for the AS
unfoldable pub link_at : Network → AsId → ℕ → Option LinkKind
link_at t a out = option_map (λ far. far.2) (neighbour t a out)

-- the other end of the link at a hop's egress
unfoldable pub behind : Network → HopName → AsId × ℕ × LinkKind
behind t x = unwrap_or (neighbour t x.asn x.body.out) (record { 0 = 0 }, 0, CoreLink)

-- a chain is of core links where its first link is core, else of child links
unfoldable pub kind_by : LinkKind → SegKind
kind_by CoreLink = Core
kind_by ParentLink = Child
kind_by ChildLink = Child

-- core links go on to core ASes, child links from parent to child
unfoldable pub goes_on : SegKind → Option LinkKind → Bool
goes_on Core (Some CoreLink) = true
goes_on Child (Some ParentLink) = true
goes_on _ _ = false

-- ---- new hops

-- the first hop of a chain
unfoldable pub first_name : Store → AsId → ℕ → ℕ → ℕ → HopName
first_name s a out exp now = record {
  asn = a;
  generation = s.generations a;
  body = record { pos = 1; exp = exp; ts_path = now / 1000000; inn = 0; out = out; link = replicate 8 0 };
}

-- the hop behind another hop's egress
unfoldable pub next_name : Network → Store → HopName → ℕ → ℕ → HopName
next_name t s x out exp = record {
  asn = (behind t x).0;
  generation = s.generations (behind t x).0;
  body = record { pos = x.body.pos + 1; exp = exp; ts_path = x.body.ts_path; inn = (behind t x).1; out = out; link = link t x };
}

-- a hop with its authenticator
unfoldable pub beacon_of : Network → HopName → ℕ → SegKind → Beacon
beacon_of t x parent kind = record { name = x; parent = parent; sigma = sigma t x; kind = kind }

-- ---- refusals

-- the AS stands among the hops
unfoldable pub stands_in : AsId → List HopName → Bool
stands_in a names = list_any (λ x. same_as x.asn a) names

-- the beacon has the hop's AS, egress, expiry, timestamp and generation, and this parent
unfoldable pub is_twin : HopName → ℕ → Beacon → Bool
is_twin x parent b =
    same_as b.name.asn x.asn && b.parent == parent && b.name.body.out == x.body.out
    && b.name.body.exp == x.body.exp && b.name.body.ts_path == x.body.ts_path && b.name.generation == x.generation

-- the number of the first such beacon
unfoldable pub twin : List Beacon → HopName → ℕ → Option ℕ
twin beacons x parent = option_map (λ i. i + 1) (position (is_twin x parent) beacons)

-- a row of the table: whether it applies, and what it tells
abbrev pub Row : Type 0
Row = Bool × BeaconError

-- every new hop is one that wasn't issued before, and there are at most 65,536
unfoldable pub place_rows : List Beacon → HopName → ℕ → List Row
place_rows beacons x parent =
    (is_some (twin beacons x parent), Duplicate (unwrap_or (twin beacons x parent) 0))
    ∷ (length beacons == 65536, Full)
    ∷ []

unfoldable pub originate_rows : Network → Store → HopName → List Row
originate_rows t s x =
    (not (is_core t x.asn), NotCore)
    ∷ (is_none (link_at t x.asn x.body.out), UnknownInterface)
    ∷ place_rows s.beacons x 0

-- a hop behind another leads on over a link of the chain's kind, is valid for a time, and has a place
unfoldable pub onward_rows : Network → List Beacon → ℕ → SegKind → HopName → ℕ → List Row
onward_rows t beacons number kind x now =
    (not (x.body.out == 0) && is_none (link_at t x.asn x.body.out), UnknownInterface)
    ∷ (not (x.body.out == 0) && not (goes_on kind (link_at t x.asn x.body.out)), WrongKind)
    ∷ (is_expired x.body.ts_path x.body.exp now, Expired)
    ∷ place_rows beacons x number

unfoldable pub extend_rows : Network → Store → ℕ → Beacon → HopName → ℕ → List Row
extend_rows t s number p x now =
    (p.name.body.out == 0, Ended)
    ∷ (p.name.body.pos == 16, TooLong)
    ∷ (stands_in x.asn (chain (issues_of s.beacons) number), Loop x.asn)
    ∷ onward_rows t s.beacons number p.kind x now

-- the beacon that begins a chain at an AS and an interface, or why there is none
unfoldable pub originated : Network → Store → AsId → ℕ → ℕ → ℕ → Result Beacon BeaconError
originated t s a out exp now =
    let x = first_name s a out exp now in
    unless (first_row (originate_rows t s x)) (beacon_of t x 0 (option_map_or kind_by (link_at t a out) Core))

-- the beacon that goes on from a parent, or why there is none
unfoldable pub extended_from : Network → Store → ℕ → Beacon → ℕ → ℕ → ℕ → Result Beacon BeaconError
extended_from t s number p out exp now =
    let x = next_name t s p.name out exp in
    unless (first_row (extend_rows t s number p x now)) (beacon_of t x number p.kind)

unfoldable pub extended : Network → Store → ℕ → ℕ → ℕ → ℕ → Result Beacon BeaconError
extended t s number out exp now =
    option_map_or (λ p. extended_from t s number p out exp now) (beacon_at s.beacons number) (Err Unknown)

-- a call that is to issue a beacon or to tell a refusal, and answers by a number: the beacon then stands last and has
-- this number, or nothing has changed; want of memory alone may be told in place of either
abbrev pub Issues : Store → Store → Result Beacon BeaconError → Result ℕ BeaconError → Type 0
Issues old new (Ok b) (Ok number) = (number ≡ length old.beacons + 1) × (new ≡ with_beacon old b)
Issues old new (Err e) (Ok number) = ⊥
Issues old new told (Err e) = ((e ≡ OutOfMemory) ⊎ (told ≡ Err e)) × (new ≡ old)
