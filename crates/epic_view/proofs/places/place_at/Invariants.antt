use Rattle.std.proofs.Common.{◌≡◌, ◌<◌, ◌≤◌, drop}
use Rattle.epic_layout.specs.Route.{place, place_from, hops_of}
use Rattle.epic_layout.specs.Layout.{segments_in}
use Rattle.epic_view.proofs.places.place_at.Given as goal

abbrev pub invariant-loop-segment : goal.invariant-loop-segment
invariant-loop-segment l = record {
  walked : place_from l.segment (drop l.segment (segments_in l.bytes)) l.index ≡ place (segments_in l.bytes) l.hop;
  left : l.index < hops_of (drop l.segment (segments_in l.bytes));
  passed : l.index ≤ l.hop;
}
