-- The updates that stand in a packet.
use Rattle.std.specs.Prelude.{ℕ, List, take}
use Rattle.epic_layout.specs.Contents.{Contents, hop_count}
use Rattle.epic_layout.specs.Spelling.{update_count}

-- those over which a destination checks its field: at level 3 the packet's own fields, none at level 2
unfoldable pub own_updates : Contents → List (List ℕ)
own_updates p = take (update_count p.first (hop_count p)) p.fields
