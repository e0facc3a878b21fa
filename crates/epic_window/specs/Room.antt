-- Private: serves proofs of this crate alone; no public contract cites it.
-- For how many more entries three maps have room.
use Rattle.std.specs.Prelude.{ℕ, min}
use Rattle.std.specs.HashMap.{HashMap, spare}
use Rattle.epic_num.specs.declared.name.AsId.{AsId}
use Rattle.epic_window.specs.declared.key.WinKey.{WinKey}
use Rattle.epic_window.specs.declared.seeded.Seeded.{Seeded}
use Rattle.epic_window.specs.declared.slots.Slot.{Slot}
use Rattle.epic_window.specs.declared.totals.Total.{Total}

unfoldable pub room : HashMap WinKey ℕ Seeded → HashMap Slot ℕ Seeded → HashMap AsId Total Seeded → ℕ
room turns slots totals = min (min (min (spare turns) (spare slots)) (spare totals)) 4294967295
