-- The links so far, and then those of the values that are left.
use Rattle.std.proofs.Common.{◌≡◌, ◌+◌, ◌≤◌, length, drop}
use Rattle.toml.specs.View.{items_view}
use Rattle.epic_topo.specs.Reading.{with_links}
use Rattle.epic_topo.proofs.reading.links.with_links.Given as goal

abbrev pub invariant-loop-value : goal.invariant-loop-value
invariant-loop-value l =
    (with_links l.topology (items_view (drop l.value-index l.values)) ≡ with_links l.initial.topology (items_view l.values))
    × (length l.topology.links ≡ l.value-index) × (l.place ≡ l.value-index + 1) × (length l.values ≤ 16384)
