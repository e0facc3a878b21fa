-- Bytes that spell a packet within the layout's limits, if any.
use Rattle.std.specs.Prelude.{◌≡◌, ℕ, List, None}
use Rattle.epic_num.specs.Levels.{is_first_byte}
use Rattle.epic_layout.specs.Contents.{IsBytes, IsPacket}
use Rattle.epic_layout.specs.Layout.{fault, parse}

-- where the bytes have no fault, what they say is a packet within the limits
abbrev pub IsRead : List ℕ → Type 0
IsRead bytes = fault is_first_byte bytes ≡ None → IsPacket (parse bytes)

-- so it is with every list of bytes
abbrev pub BytesAreRead : Type 0
BytesAreRead = (bytes : List ℕ) → IsBytes bytes → IsRead bytes
