-- The 18 bytes of a hop's body.
use Rattle.std.specs.Prelude.{◌≡◌, ℕ, ◌<◌, ◌^◌, List, ◌∷◌, ◌++◌, length}
use Rattle.epic_num.specs.declared.hop.Body.{Body}
use Rattle.epic_num.specs.BigEndian.{u16_bytes, u32_bytes}

-- position, expiry, the segment's timestamp, both interfaces, and the link tag of the hop before
unfoldable pub body_bytes : Body → List ℕ
body_bytes b = b.pos ∷ b.exp ∷ (u32_bytes b.ts_path ++ (u16_bytes b.inn ++ (u16_bytes b.out ++ b.link)))

-- the parts of a body fit the fields of its type
pub record IsBody (b : Body) : Type 0 where
  pub pos : b.pos < 2 ^ 8
  pub exp : b.exp < 2 ^ 8
  pub ts_path : b.ts_path < 2 ^ 32
  pub inn : b.inn < 2 ^ 16
  pub out : b.out < 2 ^ 16
  pub link : length b.link ≡ 8
