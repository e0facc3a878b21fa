-- The body that 18 bytes spell.
use Rattle.std.specs.Prelude.{ℕ, List, take, drop, slice_index}
use Rattle.std.specs.Int.{w16, w32, from_be_bytes}
use Rattle.epic_num.specs.declared.hop.Body.{Body}

-- position, expiry, the segment's timestamp, both interfaces, and the link tag of the hop before; numbers have the
-- highest byte first
unfoldable pub body_of : List ℕ → Body
body_of bytes = record {
  pos = slice_index bytes 0;
  exp = slice_index bytes 1;
  ts_path = from_be_bytes w32 (take 4 (drop 2 bytes));
  inn = from_be_bytes w16 (take 2 (drop 6 bytes));
  out = from_be_bytes w16 (take 2 (drop 8 bytes));
  link = drop 10 bytes;
}
