-- The place of a packet's hop among the segments.
use Rattle.std.proofs.Common.{◌≡◌, ℕ, ◌+◌, ◌-◌, ◌<◌, ◌≤◌, Bool, true, false, cond, List, length, get_or, refl, sym, ap, subst, arith}
use Rattle.std.specs.Prelude.{Some, None, nat_lt, if◌then◌else◌}
use Rattle.std.proofs.lemmas.Option.{same_Some}
use Rattle.epic_num.specs.Chains.{Issue}
use Rattle.epic_layout.specs.Contents.{hop_count}
use Rattle.epic_layout.specs.Layout.{parse, route_in, segments_in}
use Rattle.epic_layout.specs.Laws.{IsPlaceOf}
use Rattle.epic_layout.specs.Route.{place, position, no_segment}
use Rattle.epic_layout.specs.declared.head.HopPlace.{HopPlace}
use Rattle.epic_ledger.specs.Facts.{Sent, sent_issue}
use Rattle.epic_num.specs.Chains.{ancestor}
use Rattle.epic_ledger.specs.Walks.{spot, issue_of_hop}
use Rattle.epic_ledger.specs.declared.spot.Spot.{Spot}
use Rattle.epic_layout.proofs.HopPlaces.{places_are_one}
use Rattle.epic_layout.proofs.Shapes.{hop_count_parse}

placed : (b : List ℕ) (j : ℕ) → j < hop_count (parse b) → IsPlaceOf (parse b).route.segments j (place (parse b).route.segments j)
unfolding parse route_in
placed b j h =
    (places_are_one (segments_in b)).placed j (subst (λ (n : ℕ). j < n) (hop_count_parse b) h)

pub segment_there : (b : List ℕ) (j : ℕ) → j < hop_count (parse b) → (place (parse b).route.segments j).segment < length (parse b).route.segments
segment_there b j h = (placed b j h).segment_there

pub head_there : (b : List ℕ) (j : ℕ) → j < hop_count (parse b)
    → get_or (parse b).route.segments (place (parse b).route.segments j).segment no_segment ≡ (place (parse b).route.segments j).head
head_there b j h = sym (placed b j h).head_is

position_most : (p : HopPlace) → p.index < p.head.count → position p ≤ p.head.count
unfolding position
position_most p h = either p.head.against
  where
    either : (against : Bool) → cond against (p.head.count - p.index) (p.index + 1) ≤ p.head.count
    either true = omega arith
    either false = omega arith

pub position_within : (b : List ℕ) (j : ℕ) → j < hop_count (parse b)
    → position (place (parse b).route.segments j) ≤ (place (parse b).route.segments j).head.count
position_within b j h = position_most (place (parse b).route.segments j) (placed b j h).inside

pub ruleset spots = (segment_there, head_there, position_within)

-- the issue at a spot is that of the hop
pub spot_hit : (issues : List Issue) (s : Sent) (j : ℕ) (x : Spot) → Some x ≡ spot s.packet j
    → Some (ancestor issues (get_or s.segments x.segment 0) x.after) ≡ issue_of_hop issues s j
unfolding spot issue_of_hop sent_issue
spot_hit issues s j x h =
    let at = place s.packet.route.segments j in
    either (nat_lt j (hop_count s.packet)) (record { segment = at.segment; after = at.head.count - position at }) h
  where
    either : (b : Bool) (v : Spot) → Some x ≡ (if b then Some v else None)
        → Some (ancestor issues (get_or s.segments x.segment 0) x.after) ≡ (if b then Some (ancestor issues (get_or s.segments v.segment 0) v.after) else None)
    either true v e = ap (λ (y : Spot). Some (ancestor issues (get_or s.segments y.segment 0) y.after)) (same_Some x v e)
    either false v e = absurd (cc)

pub spot_miss : (issues : List Issue) (s : Sent) (j : ℕ) → None ≡ spot s.packet j → None ≡ issue_of_hop issues s j
unfolding spot issue_of_hop
spot_miss issues s j h =
    let at = place s.packet.route.segments j in
    either (nat_lt j (hop_count s.packet)) (record { segment = at.segment; after = at.head.count - position at }) (sent_issue issues s j) h
  where
    either : (b : Bool) (v : Spot) (n : ℕ) → None ≡ (if b then Some v else None) → None ≡ (if b then Some n else None)
    either true v n e = absurd (cc)
    either false v n e = refl

pub ruleset spots_sent = (spot_hit, spot_miss)
