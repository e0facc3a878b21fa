-- The segments that ended chains make.
use Rattle.std.specs.Prelude.{◌≡◌, ◌==◌, ◌≤◌, ℕ, zero, suc, List, [], ◌∷◌, ◌++◌, length, map, filter_map, Some, Result, Ok, Err, true, if◌then◌else◌}
use Rattle.std.specs.List.{range_with_len}
use Rattle.std.specs.Option.{option_map_or}
use Rattle.std.specs.Result.{result_ok}
use Rattle.epic_num.specs.declared.hop.HopName.{HopName}
use Rattle.epic_num.specs.declared.segment.SegHop.{SegHop}
use Rattle.epic_num.specs.declared.segment.Segment.{Segment}
use Rattle.epic_num.specs.Chains.{chain}
use Rattle.epic_num.specs.Segments.{last_hop, is_well_formed}
use Rattle.epic_beacon.specs.declared.beacon.Beacon.{Beacon}
use Rattle.epic_beacon.specs.declared.segment.SegmentError.{SegmentError}
use Rattle.epic_beacon.specs.declared.segment.SegmentError.TheVariants.{Unknown, NotEnded}
use Rattle.epic_beacon.specs.Store.{beacon_at, issues_of}

-- a beacon as the hop of a segment
abbrev pub hop_of : ℕ → Beacon → SegHop
hop_of number b = record { issue = number; asn = b.name.asn; body = b.name.body; sigma = b.sigma; generation = b.name.generation }

abbrev pub name_of_hop : SegHop → HopName
name_of_hop h = record { asn = h.asn; generation = h.generation; body = h.body }

-- a beacon's hop after those of the beacons that it goes on from, at most so many in all
unfoldable pub last_hops : List Beacon → ℕ → ℕ → List SegHop
last_hops beacons zero number = []
last_hops beacons (suc most) number = option_map_or (λ b. last_hops beacons most b.parent ++ hop_of number b ∷ []) (beacon_at beacons number) []

-- the hops of the chain of a beacon with this number, as many as its position says
unfoldable pub segment_to : List Beacon → ℕ → Beacon → Segment
segment_to beacons number b = record { kind = b.kind; hops = record { items = last_hops beacons b.name.body.pos number } }

-- the segment that ends with the issue of a number: that issue is the last of its chain
unfoldable pub segment : List Beacon → ℕ → Result Segment SegmentError
segment beacons number =
    option_map_or (λ b. if b.name.body.out == 0 then Ok (segment_to beacons number b) else Err NotEnded) (beacon_at beacons number) (Err Unknown)

-- the segments of those of the numbers that have one
unfoldable pub segments_at : List Beacon → List ℕ → List Segment
segments_at beacons numbers = filter_map (λ number. result_ok (segment beacons number)) numbers

-- all segments, in the order of the issues that ended them
unfoldable pub segments : List Beacon → List Segment
segments beacons = segments_at beacons (range_with_len 1 (length beacons))

-- The segment is that of the ended chain whose last beacon has the number: it has the chain's names and kind, and makes a
-- segment of at most 16 hops.
pub record IsSegment (beacons : List Beacon) (number : ℕ) (s : Segment) : Type 0 where
  pub last : Beacon
  pub is_last : beacon_at beacons number ≡ Some last
  pub ended : last.name.body.out ≡ 0
  pub kind : s.kind ≡ last.kind
  pub names : map name_of_hop s.hops.items ≡ chain (issues_of beacons) number
  pub last_is : last_hop s.hops.items ≡ Some (hop_of number last)
  pub few : length s.hops.items ≤ 16
  pub well_formed : is_well_formed s ≡ true
