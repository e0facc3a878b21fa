-- The hops that routers accepted, in a tree of paths.
use Rattle.std.proofs.Common.{◌≡◌, ℕ, zero, suc, ◌+◌, ◌-◌, ◌*◌, ◌%◌, ◌^◌, ◌<◌, ◌≤◌, List, [], ◌∷◌, ◌++◌, length, take, drop, Option, Some, refl, sym, ap, ◌∙◌, arith}
use Rattle.std.specs.Prelude.{filter_map, position, slice_index, slice_index_or}
use Rattle.std.specs.Cmp.{IsTotalOrder, unsigned_ties, both_tied}
use Rattle.std.specs.Cmp.Lexicographic.{slice_cmp, texts_ties}
use Rattle.std.specs.Int.{w32, from_be_bytes}
use Rattle.std.specs.List.{All, flat_map}
use Rattle.std.specs.Ordering.{is_eq, nat_cmp}
use Rattle.std.proofs.Math.Seq.{drop-append-add}
use Rattle.std.proofs.lemmas.Cmp.{nat_cmp_total, nat_list_cmp_total, on_total, then_total}
use Rattle.std.proofs.lemmas.List.{length-append, length-drop, drop-append-le, take-append-le}
use Rattle.std.proofs.lemmas.List.Concat.{flat_map-cons}
use Rattle.std.proofs.lemmas.List.Elements.{All-head, All-tail}
use Rattle.epic_layout.specs.Contents.{Contents, IsPacket, IsSegment, IsHop, hop_count}
use Rattle.epic_layout.specs.Pieces.{number}
use Rattle.epic_layout.specs.Route.{Route, hop, hops_of, no_hop}
use Rattle.epic_layout.specs.Spelling.{segment_bytes, hop_bytes, path_bytes}
use Rattle.epic_layout.specs.declared.head.HopHead.{HopHead}
use Rattle.epic_layout.specs.declared.head.SegmentHead.{SegmentHead}
use Rattle.epic_layout.proofs.Codes.{length-hop_bytes}
use Rattle.epic_layout.proofs.HopPlaces.{hops_of-cons}
use Rattle.epic_layout.proofs.ReadBack.{length-rows, segments_wide}
use Rattle.epic_tree.specs.Index.{IsTagOf, key_side}
use Rattle.epic_tree.specs.Sides.{Ordered, found, by_tag}
use Rattle.epic_ledger.specs.Facts.{Pass, as_pass, issues_in}
use Rattle.epic_ledger.specs.History.{Emission}
use Rattle.epic_ledger.specs.Indexes.{keys_of, IsIndexed, PathHop, sought_hop, path_key, path_cmp, path_tag, no_path, path_kind}
use Rattle.epic_ledger.specs.Lawful.{IsLawful}
use Rattle.epic_ledger.specs.Queries.{is_on_path, same_path, chain_pass}
use Rattle.epic_ledger.specs.declared.event.Event.{Event}
use Rattle.epic_ledger.proofs.KindLaws.{first_place, first_within, first_says, index_same}
use Rattle.epic_ledger.proofs.PassLaws.{pass_kept}
use Rattle.epic_ledger.proofs.RankLaws.{is_eq_back, tied_parts, same_text}

-- ---- the order

pub path_total : IsTotalOrder path_cmp
unfolding path_cmp
path_total = then_total (on_total (λ (x : PathHop). x.hop) nat_cmp_total) (on_total (λ (x : PathHop). x.path) nat_list_cmp_total)

-- the test of a pass, and the order of what it is sought by
path_ties : (route : Route) (j : ℕ) (w : Pass) → is_on_path route j w ≡ is_eq (path_cmp (path_key w) (sought_hop route j))
unfolding path_cmp path_key is_on_path same_path
path_ties route j w = both_tied _ _ _ _ (unsigned_ties w.hop j) (texts_ties (path_bytes w.packet.route) (path_bytes route))

path_back : (route : Route) (j : ℕ) (w : Pass) → is_eq (path_cmp (sought_hop route j) (path_key w)) ≡ is_on_path route j w
path_back route j w =
    is_eq_back (path_cmp (sought_hop route j) (path_key w)) (path_cmp (path_key w) (sought_hop route j)) (path_total.antisymm (sought_hop route j) (path_key w))
    ∙ sym (path_ties route j w)

pub path_tagged : IsTagOf path_cmp (λ x. path_tag x.path)
unfolding path_cmp
path_tagged x y e = ap path_tag (same_text x.path y.path (tied_parts _ (slice_cmp nat_cmp x.path y.path) e).1)

-- ---- the first that is sought

pub path_place : (events : List Event) (es : List Emission) (at : List ℕ) (tree : Ordered) (route : Route) (j : ℕ) (o : Option ℕ) → IsIndexed (path_kind es) events at tree → o ≡ found (by_tag tree.tags (path_tag (path_bytes route)) (key_side path_cmp no_path (keys_of (path_kind es) events) (sought_hop route j))) tree.places → o ≡ position (is_on_path route j) (filter_map (as_pass es) events)
path_place events es at tree route j o h e =
    first_place (path_kind es) events at tree (sought_hop route j) (is_on_path route j) o path_tagged (path_back route j) h e

pub path_within : (events : List Event) (es : List Emission) (at : List ℕ) (tree : Ordered) (route : Route) (j i : ℕ) → IsIndexed (path_kind es) events at tree → Some i ≡ found (by_tag tree.tags (path_tag (path_bytes route)) (key_side path_cmp no_path (keys_of (path_kind es) events) (sought_hop route j))) tree.places → i < length at
path_within events es at tree route j i h e =
    first_within (path_kind es) events at (is_on_path route j) i h.numbers (path_place events es at tree route j (Some i) h e)

pub path_answer : (events : List Event) (es : List Emission) (at : List ℕ) (tree : Ordered) (route : Route) (j i : ℕ) (e : Event) → IsIndexed (path_kind es) events at tree → Some i ≡ found (by_tag tree.tags (path_tag (path_bytes route)) (key_side path_cmp no_path (keys_of (path_kind es) events) (sought_hop route j))) tree.places → as_pass es (slice_index_or events (slice_index at i) e) ≡ chain_pass (filter_map (as_pass es) events) route j
unfolding chain_pass
path_answer events es at tree route j i e h f =
    first_says (path_kind es) events at (is_on_path route j) i e h.numbers (path_within events es at tree route j i h f)
    (path_place events es at tree route j (Some i) h f)

-- ---- among more emissions

pub paths_emit : (events : List Event) (es more : List Emission) (at : List ℕ) (tree : Ordered) → IsLawful (record { events = events; emissions = es }) → IsIndexed (path_kind es) events at tree → IsIndexed (path_kind (es ++ more)) events at tree
paths_emit events es more at tree lawful h =
    index_same (path_kind es) (as_pass (es ++ more)) events at tree (λ n e is. pass_kept es more (issues_in (take n events)) e (lawful.fit n e is)) h

-- ---- the tag of path bytes, by the packet's hops

number_past : (xs ys : List ℕ) (n k : ℕ) → length xs ≡ n → number w32 (xs ++ ys) (n + k) ≡ number w32 ys k
unfolding number
number_past xs ys n k e =
    ap (λ m. number w32 (xs ++ ys) (m + k)) (sym e) ∙ ap (λ zs. from_be_bytes w32 (take 4 zs)) (drop-append-add xs ys k)

number_first : (xs ys : List ℕ) (k : ℕ) → k + 4 ≤ length xs → number w32 (xs ++ ys) k ≡ number w32 xs k
unfolding number
number_first xs ys k h =
    ap (λ zs. from_be_bytes w32 (take 4 zs)) (drop-append-le k xs ys (omega arith))
    ∙ ap (from_be_bytes w32) (take-append-le 4 (drop k xs) ys (omega (arith, length-drop k xs)))

row_number : (hs : List HopHead) (j : ℕ) → All IsHop hs → j < length hs → number w32 (flat_map hop_bytes hs) (13 * j + 5) ≡ number w32 (hop_bytes (slice_index_or hs j no_hop)) 5
row_number [] j p h = absurd (omega arith)
row_number (x ∷ hs) zero p h =
    let long : length (hop_bytes x) ≡ 13 = length-hop_bytes x (All-head IsHop x hs p) in
    ap (λ bs. number w32 bs 5) (flat_map-cons hop_bytes x hs) ∙ number_first (hop_bytes x) (flat_map hop_bytes hs) 5 (omega (arith, long))
row_number (x ∷ hs) (suc j) p h =
    let at : 13 * suc j + 5 ≡ 13 + (13 * j + 5) = omega arith in
    (λ i. number w32 (flat_map-cons hop_bytes x hs i) (at i))
    ∙ number_past (hop_bytes x) (flat_map hop_bytes hs) 13 (13 * j + 5) (length-hop_bytes x (All-head IsHop x hs p))
    ∙ row_number hs j (All-tail IsHop x hs p) (omega arith)

hops_wide : (hs : List HopHead) → All IsHop hs → All (λ x. length (hop_bytes x) ≡ 13) hs
hops_wide hs p k d h = length-hop_bytes (slice_index_or hs k d) (p k d h)

-- where the link tag of a hop stands in the path bytes
path_number : (p : Contents) (j : ℕ) → IsPacket p → j < hop_count p → number w32 (path_bytes p.route) (suc (8 * length p.route.segments) + (13 * j + 5)) ≡ number w32 (hop_bytes (hop p.route j)) 5
unfolding path_bytes hop
path_number p j ip h =
    let n = length p.route.segments in
    let heads : length (flat_map segment_bytes p.route.segments) ≡ 8 * n = length-rows segment_bytes 8 p.route.segments (segments_wide p) in
    number_past (n ∷ flat_map segment_bytes p.route.segments) (flat_map hop_bytes p.route.hops) (suc (8 * n)) (13 * j + 5) (ap suc heads)
    ∙ row_number p.route.hops j ip.route.hops h

path_long : (p : Contents) → IsPacket p → length (path_bytes p.route) ≡ suc (8 * length p.route.segments + 13 * hop_count p)
unfolding path_bytes
path_long p ip =
    let heads = length-rows segment_bytes 8 p.route.segments (segments_wide p) in
    let rows = length-rows hop_bytes 13 p.route.hops (hops_wide p.route.hops ip.route.hops) in
    ap suc (length-append (flat_map segment_bytes p.route.segments) (flat_map hop_bytes p.route.hops) ∙ (λ i. heads i + rows i))

-- a packet has a hop
some_in : (segments : List SegmentHead) → 1 ≤ length segments → All IsSegment segments → 0 < hops_of segments
some_in [] h p = absurd (omega arith)
some_in (s ∷ segments) h p = let least = (All-head IsSegment s segments p).least in omega (arith, hops_of-cons s segments, least)

pub some_hop : (p : Contents) → IsPacket p → 0 < hop_count p
some_hop p ip = let some = some_in p.route.segments ip.route.some_segment ip.route.segments in omega (arith, ip.route.counted, some)

first_byte_of : (r : Route) → slice_index (path_bytes r) 0 ≡ length r.segments
unfolding path_bytes
first_byte_of r = refl

pub path_tag_is : (p : Contents) → IsPacket p → path_tag (path_bytes p.route) ≡ (number w32 (hop_bytes (hop p.route 0)) 5 + number w32 (hop_bytes (hop p.route (hop_count p - 1))) 5) % 2 ^ 32
unfolding path_tag
path_tag_is p ip =
    let n = length p.route.segments in
    let some = some_hop p ip in
    let first : 8 * slice_index (path_bytes p.route) 0 + 6 ≡ suc (8 * n) + (13 * 0 + 5) = omega (arith, first_byte_of p.route) in
    let last : length (path_bytes p.route) - 8 ≡ suc (8 * n) + (13 * (hop_count p - 1) + 5) = omega (arith, path_long p ip, some) in
    let left = ap (number w32 (path_bytes p.route)) first ∙ path_number p 0 ip some in
    let right = ap (number w32 (path_bytes p.route)) last ∙ path_number p (hop_count p - 1) ip (omega (arith, some)) in
    λ i. (left i + right i) % 2 ^ 32
