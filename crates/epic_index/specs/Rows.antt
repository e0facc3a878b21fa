-- The keys of rows, as a table of them has them.
use Rattle.std.specs.Prelude.{ℕ, List}
use Rattle.std.specs.declared.cmp.Ordering.{Ordering}
use Rattle.epic_tree.specs.Index.{IsTagged}
use Rattle.epic_tree.specs.Sides.{Ordered}

-- the rows' keys in order, and for how many more rows there is room
pub record Rows (K : Type 0) : Type 0 where
  pub keys : List K
  pub spare : ℕ

-- the tree finds the first row of each key
abbrev pub IsTable : {K : Type 0} → (K → K → Ordering) → (K → ℕ) → List K → Ordered → Type 0
IsTable {K} R tag keys tree = (none : K) → IsTagged R tag none keys tree
