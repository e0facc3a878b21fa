-- Fields as lists of bytes, and as values of six bytes.
use Rattle.std.proofs.Common.{◌≡◌, ℕ, List, ap, ◌∙◌}
use Rattle.epic_num.specs.declared.hop.Field.{Field}
use Rattle.epic_layout.specs.Contents.{as_field, field_bytes}
use Rattle.epic_layout.proofs.Fields.{field_bytes-as_field}

pub field_read : (f : Field) (v : List ℕ) → f ≡ as_field v → field_bytes f ≡ v
field_read f v e = ap field_bytes e ∙ field_bytes-as_field v
