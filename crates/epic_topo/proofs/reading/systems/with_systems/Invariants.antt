-- The ASes so far, and then those of the values that are left.
use Rattle.std.proofs.Common.{◌≡◌, ◌+◌, ◌≤◌, [], length, drop}
use Rattle.toml.specs.View.{items_view}
use Rattle.epic_topo.specs.Reading.{with_systems}
use Rattle.epic_topo.proofs.reading.systems.with_systems.Given as goal

abbrev pub invariant-loop-value : goal.invariant-loop-value
invariant-loop-value l =
    (with_systems l.topology (items_view (drop l.value-index l.values)) ≡ with_systems l.initial.topology (items_view l.values))
    × (length l.topology.systems ≡ l.value-index) × (l.topology.links ≡ []) × (l.place ≡ l.value-index + 1) × (length l.values ≤ 4096)
