-- The numbers of hops of a packet's segments, one segment after the other.
use Rattle.std.proofs.Common.{◌≡◌, ℕ, ◌+◌, ◌<◌, zero, suc, List, [], ◌∷◌, ◌++◌, map, length, take, refl, ap, arith, ◌∙◌}
use Rattle.std.specs.Prelude.{slice_index_or}
use Rattle.epic_layout.specs.declared.head.SegmentHead.{SegmentHead}
use Rattle.epic_layout.specs.Route.{no_segment}

abbrev counts : List SegmentHead → List ℕ
counts segments = map (λ (s : SegmentHead). s.count) segments

next_count : (segments : List SegmentHead) (i : ℕ) → i < length segments
    → take i (counts segments) ++ (slice_index_or segments i no_segment).count ∷ [] ≡ take (suc i) (counts segments)
next_count [] i h = absurd (omega (arith, h))
next_count (s ∷ segments) zero h = refl
next_count (s ∷ segments) (suc i) h = ap (λ cs. s.count ∷ cs) (next_count segments i (omega (arith, h)))

pub counts_more : (segments : List SegmentHead) (i : ℕ) → i < length segments
    → take i (counts segments) ++ (slice_index_or segments i no_segment).count ∷ [] ≡ take (i + 1) (counts segments)
counts_more segments i h =
    let next : suc i ≡ i + 1 = omega arith in
    next_count segments i h ∙ ap (λ n. take n (counts segments)) next

pub counts_all : (segments : List SegmentHead) → take (length segments) (counts segments) ≡ counts segments
counts_all [] = refl
counts_all (s ∷ segments) = ap (λ cs. s.count ∷ cs) (counts_all segments)
