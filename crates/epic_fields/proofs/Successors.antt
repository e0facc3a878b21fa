-- The hop that comes next in construction order is a hop of the packet.
use Rattle.std.proofs.Common.{◌≡◌, ℕ, ◌+◌, ◌-◌, ◌<◌, ◌≤◌, List, [], ◌∷◌, Some, sym, subst, ⊎_elim, arith}
use Rattle.std.proofs.lemmas.Bool.{cases_lt}
use Rattle.epic_layout.specs.Route.{place, place_from, hops_of, position, successor}
use Rattle.epic_layout.specs.declared.head.SegmentHead.{SegmentHead}
use Rattle.epic_layout.specs.declared.head.HopPlace.{HopPlace}
use Rattle.epic_layout.proofs.HopPlaces.{hops_of-cons, place_from_here, place_from_later, places_are_one}

-- what is left of the hop's segment is part of what is left of the packet
left_from : (n : ℕ) (ss : List SegmentHead) (j : ℕ) → j < hops_of ss → j + (place_from n ss j).head.count ≤ hops_of ss + (place_from n ss j).index
unfolding hops_of
left_from n [] j h = absurd (omega arith)
left_from n (s ∷ ss) j h =
    let total = hops_of-cons s ss in
    ⊎_elim
    (λ l. subst (λ p. j + p.head.count ≤ hops_of (s ∷ ss) + p.index) (sym (place_from_here n s ss j l)) (omega (arith, total)))
    (λ g. let rest = left_from (n + 1) ss (j - s.count) (omega (arith, total, h, g)) in
    subst (λ p. j + p.head.count ≤ hops_of (s ∷ ss) + p.index) (sym (place_from_later n s ss j g)) (omega (arith, total, rest, g)))
    (cases_lt j s.count)

pub left : (ss : List SegmentHead) (j : ℕ) → j < hops_of ss → j + (place ss j).head.count ≤ hops_of ss + (place ss j).index
unfolding place
left ss j h = left_from 0 ss j h

next_within : (p : HopPlace) (j s total : ℕ) → successor p j ≡ Some s → p.index < p.head.count → j < total → j + p.head.count ≤ total + p.index → s < total
unfolding successor position
next_within p j s total e inside there left = grind arith

pub successor_there : (ss : List SegmentHead) (j s : ℕ) → successor (place ss j) j ≡ Some s → j < hops_of ss → s < hops_of ss
successor_there ss j s e h = next_within (place ss j) j s (hops_of ss) e ((places_are_one ss).placed j h).inside h (left ss j h)
