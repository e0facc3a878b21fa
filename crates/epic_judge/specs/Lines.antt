-- Private: what is decided of a line of a hop, and of one of a destination.
use Rattle.std.specs.Prelude.{◌≡◌, ℕ, ◌&&◌, Bool}
use Rattle.epic_num.specs.declared.hop.HopName.{HopName}
use Rattle.epic_num.specs.declared.verdict.Verdict.{Verdict}
use Rattle.epic_layout.specs.Contents.{Contents}
use Rattle.epic_topo.specs.Network.{Network}
use Rattle.epic_ledger.specs.Facts.{Facts}
use Rattle.epic_record.specs.declared.told.Told.{Told}
use Rattle.epic_judging.specs.HopTests.{holds_of_hop}
use Rattle.epic_judging.specs.DestTests.{holds_of_dest}
use Rattle.epic_judging.specs.Judging.{meant_at_dest, meant_at_hop}
use Rattle.epic_judging.specs.Same.{same_told}
use Rattle.epic_judging.specs.Telling.{told_of}

-- whether the verdict is true of hop j, whose name is x, and is told so
abbrev pub is_hop_line : Network → Facts → HopName → Contents → ℕ → Told → Verdict → Bool
is_hop_line t f x p j line v = same_told (told_of t p v) line && holds_of_hop t f x p j v

-- the answer to whether the verdict that the line means is
abbrev pub IsHopLine : Network → Facts → HopName → Contents → ℕ → Told → Bool → Type 0
IsHopLine t f x p j line result = result ≡ is_hop_line t f x p j line (meant_at_hop x.generation j line)

-- the verdict is true of the packet at its destination, and is told so
abbrev pub is_dest_line : Network → Facts → Contents → Told → Verdict → Bool
is_dest_line t f p line v = same_told (told_of t p v) line && holds_of_dest t f p v

-- the answer to whether the verdict that the line means is
abbrev pub IsDestLine : Network → Facts → Contents → Told → Bool → Type 0
IsDestLine t f p line result = result ≡ is_dest_line t f p line (meant_at_dest f p line)
