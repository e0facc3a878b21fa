-- What holds of every issue, and of every segment.
use Rattle.std.specs.Prelude.{◌≡◌, ◌⊎◌, ℕ, ◌/◌, ◌<◌, ◌^◌, List, [], ◌∷◌, ◌++◌, All, Some, Ok}
use Rattle.epic_num.specs.Bodies.{IsBody}
use Rattle.epic_num.specs.Chains.{Issue}
use Rattle.epic_num.specs.declared.name.AsId.{AsId}
use Rattle.epic_num.specs.declared.segment.SegHop.{SegHop}
use Rattle.epic_num.specs.declared.segment.Segment.{Segment}
use Rattle.epic_topo.specs.Lawful.{LinksLeadBack}
use Rattle.epic_topo.specs.Network.{Network}
use Rattle.epic_fields.specs.Issues.{IssuesKept}
use Rattle.epic_fields.specs.Tags.{sigma}
use Rattle.epic_beacon.specs.declared.beacon.Beacon.{Beacon}
use Rattle.epic_beacon.specs.Chained.{AreChained}
use Rattle.epic_beacon.specs.Issuing.{originated, extended}
use Rattle.epic_beacon.specs.Segments.{IsSegment, name_of_hop, segment}
use Rattle.epic_beacon.specs.Store.{Store, beacon_at, issue_of, issues_of}
use Rattle.epic_beacon.specs.Told.{beacons_in}

-- ---- segments

-- in a store whose beacons make chains, each segment is that of its chain
abbrev pub SegmentsAreChains : Type 0
SegmentsAreChains =
    (beacons : List Beacon) (number : ℕ) (s : Segment) → AreChained beacons → segment beacons number ≡ Ok s → IsSegment beacons number s

-- the authenticator of a hop is that of its name
abbrev pub HasSigma : Network → SegHop → Type 0
HasSigma t h = h.sigma ≡ sigma t (name_of_hop h)

-- and so it is in each segment of the beacons that issues tell of
abbrev pub SegmentsHaveSigmas : Type 0
SegmentsHaveSigmas =
    (t : Network) (issues : List Issue) (number : ℕ) (s : Segment) → segment (beacons_in t issues) number ≡ Ok s → All (HasSigma t) s.hops.items

-- ---- issues

-- the beacon is issued at a moment, with this egress and expiry: it begins a chain, or goes on from another
abbrev pub IsIssued : Network → Store → ℕ → ℕ → ℕ → Beacon → Type 0
IsIssued t s out exp now b =
    ((a : AsId) × (originated t s a out exp now ≡ Ok b))
    ⊎ ((number : ℕ) × (extended t s number out exp now ≡ Ok b))

-- with it the beacons go on to make chains
abbrev pub IssuesChain : Type 0
IssuesChain =
    (t : Network) (s : Store) (out exp now : ℕ) (b : Beacon) → LinksLeadBack t → AreChained s.beacons → IsIssued t s out exp now b
    → AreChained (s.beacons ++ b ∷ [])

-- the issues go on to keep what they keep
abbrev pub IssuesStayKept : Type 0
IssuesStayKept =
    (t : Network) (s : Store) (out exp now : ℕ) (b : Beacon) → LinksLeadBack t → IssuesKept t (issues_of s.beacons) → IsIssued t s out exp now b
    → IssuesKept t (issues_of (s.beacons ++ b ∷ []))

-- the beacons go on to be those of which their issues tell
abbrev pub IssuesTell : Type 0
IssuesTell =
    (t : Network) (s : Store) (out exp now : ℕ) (b : Beacon) (issues : List Issue) → s.beacons ≡ beacons_in t issues → IsIssued t s out exp now b
    → s.beacons ++ b ∷ [] ≡ beacons_in t (issues ++ issue_of b ∷ [])

-- of which they tell
abbrev pub TellsIssues : Type 0
TellsIssues = (t : Network) (issues : List Issue) → issues_of (beacons_in t issues) ≡ issues

-- the timestamp is the moment's, in seconds, or that of the beacon that it goes on from
abbrev pub IssuesHaveTimes : Type 0
IssuesHaveTimes =
    (t : Network) (s : Store) (out exp now : ℕ) (b : Beacon) → IsIssued t s out exp now b
    → (b.name.body.ts_path ≡ now / 1000000)
    ⊎ ((p : Beacon) × (beacon_at s.beacons b.parent ≡ Some p) × (b.name.body.ts_path ≡ p.name.body.ts_path))

-- the parts of each beacon's body fit their types
abbrev pub AreInRange : List Beacon → Type 0
AreInRange beacons = (number : ℕ) (b : Beacon) → beacon_at beacons number ≡ Some b → IsBody b.name.body

-- and of the new one, where those of the call do
abbrev pub IssuesStayInRange : Type 0
IssuesStayInRange =
    (t : Network) (s : Store) (out exp now : ℕ) (b : Beacon) → LinksLeadBack t → AreChained s.beacons → AreInRange s.beacons
    → out < 2 ^ 16 → exp < 2 ^ 8 → now / 1000000 < 2 ^ 32 → IsIssued t s out exp now b
    → AreInRange (s.beacons ++ b ∷ [])
