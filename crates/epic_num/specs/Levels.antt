-- What a packet's first byte says: 0xE0 plus the level in version 1, and 0xF0 plus the level in version 2, which has levels 2 and 3 alone.
use Rattle.std.specs.Prelude.{ℕ, ◌+◌, ◌%◌, Bool, not, List, [], ◌∷◌, ◌==◌, nat_lt, if◌then◌else◌}
use Rattle.std.specs.List.{list_any}
use Rattle.epic_num.specs.declared.hop.Level.{Level}
use Rattle.epic_num.specs.declared.hop.Level.TheVariants.{L0, L1, L2, L3}

-- the first bytes that packets have
abbrev pub first_bytes : List ℕ
first_bytes = 0xE0 ∷ 0xE1 ∷ 0xE2 ∷ 0xE3 ∷ 0xF2 ∷ 0xF3 ∷ []

-- those of levels 2 and 3, whose packets carry a destination field
abbrev pub tagged_first_bytes : List ℕ
tagged_first_bytes = 0xE2 ∷ 0xE3 ∷ 0xF2 ∷ 0xF3 ∷ []

unfoldable pub is_first_byte : ℕ → Bool
is_first_byte first = list_any (λ b. first == b) first_bytes

unfoldable pub is_tagged : ℕ → Bool
is_tagged first = list_any (λ b. first == b) tagged_first_bytes

unfoldable pub level_number : Level → ℕ
level_number L0 = 0
level_number L1 = 1
level_number L2 = 2
level_number L3 = 3

unfoldable pub level_of : ℕ → Level
level_of first = if first % 16 == 0 then L0 else if first % 16 == 1 then L1 else if first % 16 == 2 then L2 else L3

-- levels 1 to 3, whose fields are made for one packet and its timestamp
unfoldable pub is_timed : ℕ → Bool
is_timed first = not (level_number (level_of first) == 0)

-- level 3, at which each router puts its update in the place of its field
unfoldable pub is_updated : ℕ → Bool
is_updated first = level_number (level_of first) == 3

unfoldable pub first_byte : ℕ → Level → ℕ
first_byte version level = if version == 1 then 0xE0 + level_number level else 0xF0 + level_number level

unfoldable pub version_of : ℕ → ℕ
version_of first = if nat_lt first 0xF0 then 1 else 2

-- how many bytes a hop's field has
unfoldable pub width_of : ℕ → ℕ
width_of first = if nat_lt first 0xF0 then 3 else 6
