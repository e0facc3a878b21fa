-- Private: serves proofs of this crate alone; no public contract cites it.
-- A router's table of checks in the blocks in which they are made.
use Rattle.std.specs.Prelude.{ℕ, List, ◌++◌}
use Rattle.epic_num.specs.declared.name.AsId.{AsId}
use Rattle.epic_layout.specs.Contents.{Contents}
use Rattle.epic_topo.specs.Network.{Network}
use Rattle.epic_router.specs.Checks.{Row, entry_rows, valid_rows, fresh_rows, tag_rows, switch_rows, second_rows, exit_rows, last_handled}

-- how a packet comes to its current hop, and whether both are of this time
unfoldable pub arrival_rows : Network → AsId → ℕ → ℕ → Contents → List Row
arrival_rows t a iface now p = entry_rows a iface p p.current ++ (valid_rows t now p p.current ++ fresh_rows t now p p.current)

-- hop j by its tags and its place
unfoldable pub hop_rows : Network → AsId → List ℕ → Contents → ℕ → List Row
hop_rows t a candidates p j = tag_rows t a candidates p j ++ switch_rows p j

-- the hops that are handled from hop j on
unfoldable pub hops_rows : Network → AsId → List ℕ → ℕ → Contents → ℕ → List Row
hops_rows t a candidates now p j = hop_rows t a candidates p j ++ second_rows t a candidates now p j

-- all checks but those of the window
unfoldable pub checked_rows : Network → AsId → List ℕ → ℕ → ℕ → Contents → List Row
checked_rows t a candidates iface now p =
    arrival_rows t a iface now p ++ (hops_rows t a candidates now p p.current ++ exit_rows t a p (last_handled p p.current))
