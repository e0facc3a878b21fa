-- The places of a packet's hops among its segments.
use Rattle.std.proofs.Common.{◌≡◌, ℕ, ◌+◌, ◌-◌, ◌<◌, ◌≤◌, Bool, true, false, cond, length, get_or, sym, subst, arith}
use Rattle.epic_layout.specs.Contents.{Contents, IsPacket, hop_count}
use Rattle.epic_layout.specs.Laws.{IsPlaceOf}
use Rattle.epic_layout.specs.Route.{place, position, no_segment}
use Rattle.epic_layout.specs.declared.head.HopPlace.{HopPlace}
use Rattle.epic_layout.proofs.HopPlaces.{places_are_one}

placed : (p : Contents) (j : ℕ) → IsPacket p → j < hop_count p → IsPlaceOf p.route.segments j (place p.route.segments j)
placed p j is h = (places_are_one p.route.segments).placed j (subst (λ (n : ℕ). j < n) (sym is.route.counted) h)

pub segment_there : (p : Contents) (j : ℕ) → IsPacket p → j < hop_count p → (place p.route.segments j).segment < length p.route.segments
segment_there p j is h = (placed p j is h).segment_there

pub head_there : (p : Contents) (j : ℕ) → IsPacket p → j < hop_count p
    → get_or p.route.segments (place p.route.segments j).segment no_segment ≡ (place p.route.segments j).head
head_there p j is h = sym (placed p j is h).head_is

position_most : (p : HopPlace) → p.index < p.head.count → position p ≤ p.head.count
unfolding position
position_most p h = either p.head.against
  where
    either : (against : Bool) → cond against (p.head.count - p.index) (p.index + 1) ≤ p.head.count
    either true = omega arith
    either false = omega arith

pub position_within : (p : Contents) (j : ℕ) → IsPacket p → j < hop_count p
    → position (place p.route.segments j) ≤ (place p.route.segments j).head.count
position_within p j is h = position_most (place p.route.segments j) (placed p j is h).inside

pub ruleset spots = (segment_there, head_there, position_within)
