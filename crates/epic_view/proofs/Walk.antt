-- The walk along the segments to a hop's place.
use Rattle.std.proofs.Common.{◌≡◌, ℕ, ◌+◌, ◌-◌, ◌<◌, ◌≤◌, List, ◌∷◌, length, drop, get_or, ap, ◌∙◌, arith, zero-add}
use Rattle.std.proofs.lemmas.List.{at_drop_more, drop_all}
use Rattle.std.proofs.lemmas.List.FromFn.{get_or-map-range_with_len, length-map-range_with_len}
use Rattle.epic_layout.specs.Pieces.{byte}
use Rattle.epic_layout.specs.Route.{place_from, hops_of, no_segment}
use Rattle.epic_layout.specs.Layout.{segments_in, segment_at}
use Rattle.epic_layout.specs.declared.head.SegmentHead.{SegmentHead}
use Rattle.epic_layout.proofs.HopPlaces.{hops_of-cons, place_from_here, place_from_later}

pub length-segments : (b : List ℕ) → length (segments_in b) ≡ byte b 6
unfolding segments_in
length-segments b = length-map-range_with_len (segment_at b) 0 (byte b 6)

pub get_or-segments : (b : List ℕ) (i : ℕ) → i < byte b 6 → get_or (segments_in b) i no_segment ≡ segment_at b i
unfolding segments_in
get_or-segments b i h = get_or-map-range_with_len (segment_at b) 0 (byte b 6) i i no_segment h (zero-add i)

-- a word of what is left of the segments, at segment i
pub at_segment : {Y : Type 0} (F : List SegmentHead → Y) (b : List ℕ) (i : ℕ) → i < byte b 6 → F (drop i (segments_in b)) ≡ F (segment_at b i ∷ drop (i + 1) (segments_in b))
at_segment F b i h =
    let within : i < length (segments_in b) = omega (arith, length-segments b) in
    at_drop_more F (segments_in b) i no_segment within ∙ ap (λ s. F (s ∷ drop (i + 1) (segments_in b))) (get_or-segments b i h)

pub walk_here : (b : List ℕ) (i j : ℕ) → i < byte b 6 → j < (segment_at b i).count → place_from i (drop i (segments_in b)) j ≡ record { segment = i; head = segment_at b i; index = j }
walk_here b i j h l = at_segment (λ ss. place_from i ss j) b i h ∙ place_from_here i (segment_at b i) (drop (i + 1) (segments_in b)) j l

pub walk_on : (b : List ℕ) (i j : ℕ) → i < byte b 6 → (segment_at b i).count ≤ j → place_from i (drop i (segments_in b)) j ≡ place_from (i + 1) (drop (i + 1) (segments_in b)) (j - (segment_at b i).count)
walk_on b i j h l = at_segment (λ ss. place_from i ss j) b i h ∙ place_from_later i (segment_at b i) (drop (i + 1) (segments_in b)) j l

pub hops_left : (b : List ℕ) (i : ℕ) → i < byte b 6 → hops_of (drop i (segments_in b)) ≡ (segment_at b i).count + hops_of (drop (i + 1) (segments_in b))
hops_left b i h = at_segment hops_of b i h ∙ hops_of-cons (segment_at b i) (drop (i + 1) (segments_in b))

pub none_left : (b : List ℕ) (i : ℕ) → byte b 6 ≤ i → hops_of (drop i (segments_in b)) ≡ 0
unfolding hops_of
none_left b i h = ap (λ ss. hops_of ss) (drop_all i (segments_in b) (omega (arith, length-segments b)))

pub ruleset walk = (walk_here, walk_on, hops_left, none_left)
