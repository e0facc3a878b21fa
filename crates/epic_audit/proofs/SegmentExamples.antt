-- The hops of a packet over two segments: the first of two hops, against construction order, the second of three.
use Rattle.std.proofs.Common.{◌≡◌, true, false, List, [], ◌∷◌, refl}
use Rattle.epic_layout.specs.declared.head.SegmentHead.{SegmentHead}
use Rattle.epic_layout.specs.Route.{hops_of}
use Rattle.epic_audit.specs.Chain.{travelled, built}

segments : List SegmentHead
segments = record { against = true; count = 2; ts_path = 0 } ∷ record { against = false; count = 3; ts_path = 0 } ∷ []

first_built : built segments 0 ≡ 1 ∷ 0 ∷ []
unfolding segments built travelled hops_of
first_built = refl

second_built : built segments 1 ≡ 2 ∷ 3 ∷ 4 ∷ []
unfolding segments built travelled hops_of
second_built = refl
