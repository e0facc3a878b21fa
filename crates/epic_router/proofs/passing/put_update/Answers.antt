use Rattle.std.proofs.Common.{rules}
use Rattle.epic_layout.specs.Contents.{field_bytes}
use Rattle.epic_router.specs.Passing.{updated_by}
use Rattle.epic_router.proofs.PassedHops.{updated_checked}
use Rattle.epic_router.proofs.passing.put_update.Goals as goal

pub returns-clause-checked : goal.returns-clause-checked
unfolding updated_by
returns-clause-checked c =
    updated_checked c.args.bytes.now _ c.args.sizes (field_bytes c.args.update.now) c.requires.checked (search rules) (search rules)
