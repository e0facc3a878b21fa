-- The route of a packet over a path: its segments' headers from the legs, its hops from the bodies, in travel order.
use Rattle.std.specs.Prelude.{ℕ, List, length, map}
use Rattle.std.specs.Option.{option_map_or}
use Rattle.epic_num.specs.declared.segment.Leg.{Leg}
use Rattle.epic_num.specs.declared.segment.SegHop.{SegHop}
use Rattle.epic_num.specs.Paths.{path_hops}
use Rattle.epic_num.specs.Segments.{first_hop}
use Rattle.epic_layout.specs.Route.{Route}
use Rattle.epic_layout.specs.declared.head.SegmentHead.{SegmentHead}
use Rattle.epic_layout.specs.declared.head.HopHead.{HopHead}

-- a leg as the header of a packet's segment: all its hops have the first one's timestamp
unfoldable pub head_of : Leg → SegmentHead
head_of leg = record {
  against = leg.against;
  count = length leg.segment.hops.items;
  ts_path = option_map_or (λ h. h.body.ts_path) (first_hop leg.segment.hops.items) 0;
}

-- a hop of a segment as a packet's hop
unfoldable pub hop_head : SegHop → HopHead
hop_head h = record { exp = h.body.exp; inn = h.body.inn; out = h.body.out; link = h.body.link }

unfoldable pub route_of : List Leg → Route
route_of legs = record { segments = map head_of legs; hops = map hop_head (path_hops legs) }
