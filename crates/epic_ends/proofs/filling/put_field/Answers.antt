use Rattle.std.proofs.Common.{rules}
use Rattle.epic_layout.specs.Contents.{field_bytes}
use Rattle.epic_ends.proofs.Filled.{same_shape}
use Rattle.epic_ends.proofs.filling.put_field.Goals as goal

pub returns-clause-shape : goal.returns-clause-shape
returns-clause-shape c = same_shape c.args.bytes.now _ c.args.shape c.args.j (field_bytes c.args.field.now) c.requires.shape (search rules) (search rules)
