-- The parts of the packet that bytes say, each where it is read.
use Rattle.std.proofs.Common.{◌≡◌, ℕ, ◌<◌, List, [], get_or, refl, ap, zero-add}
use Rattle.std.proofs.lemmas.List.FromFn.{get_or-map-range_with_len}
use Rattle.epic_layout.specs.Pieces.{byte}
use Rattle.epic_layout.specs.Route.{place, hop, ingress, egress, body, body_at, ingress_of, egress_of, no_segment, no_hop}
use Rattle.epic_layout.specs.Contents.{field}
use Rattle.epic_layout.proofs.Shapes.{hop_count_parse, segments_parse}
use Rattle.epic_layout.specs.Layout.{parse, route_in, segments_in, segment_at, hops_in, hop_at, field_at}

pub segment_parse : (b : List ℕ) (i : ℕ) → i < byte b 6 → get_or (parse b).route.segments i no_segment ≡ segment_at b i
unfolding parse route_in segments_in
segment_parse b i h = get_or-map-range_with_len (segment_at b) 0 (byte b 6) i i no_segment h (zero-add i)

pub hop_parse : (b : List ℕ) (j : ℕ) → j < hops_in b → hop (parse b).route j ≡ hop_at b j
unfolding parse route_in hop
hop_parse b j h = get_or-map-range_with_len (hop_at b) 0 (hops_in b) j j no_hop h (zero-add j)

pub field_parse : (b : List ℕ) (j : ℕ) → j < hops_in b → field (parse b) j ≡ field_at b j
unfolding parse field
field_parse b j h = get_or-map-range_with_len (field_at b) 0 (hops_in b) j j [] h (zero-add j)

pub place_parse : (b : List ℕ) (j : ℕ) → place (parse b).route.segments j ≡ place (segments_in b) j
unfolding parse route_in
place_parse b j = refl

pub body_parse : (b : List ℕ) (j : ℕ) → j < hops_in b → body (parse b).route j ≡ body_at (place (segments_in b) j) (hop_at b j)
unfolding body parse route_in
body_parse b j h = ap (body_at (place (segments_in b) j)) (hop_parse b j h)

pub ingress_parse : (b : List ℕ) (j : ℕ) → j < hops_in b → ingress (parse b).route j ≡ ingress_of (place (segments_in b) j).head.against (hop_at b j)
unfolding ingress parse route_in
ingress_parse b j h = ap (ingress_of (place (segments_in b) j).head.against) (hop_parse b j h)

pub egress_parse : (b : List ℕ) (j : ℕ) → j < hops_in b → egress (parse b).route j ≡ egress_of (place (segments_in b) j).head.against (hop_at b j)
unfolding egress parse route_in
egress_parse b j h = ap (egress_of (place (segments_in b) j).head.against) (hop_parse b j h)

pub ruleset parsed = (hop_count_parse, segments_parse, segment_parse, place_parse, hop_parse, field_parse, body_parse, ingress_parse, egress_parse)
