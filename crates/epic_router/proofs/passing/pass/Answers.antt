use Rattle.std.proofs.Common.{rules, ◌≡◌, ap, ◌∙◌}
use Rattle.epic_layout.specs.Contents.{field_bytes}
use Rattle.epic_layout.specs.Layout.{parse}
use Rattle.epic_router.specs.Passing.{passed, updated_by}
use Rattle.epic_router.proofs.PassedHops.{passed_checked, updated_there}
use Rattle.epic_router.proofs.passing.pass.Goals as goal

pub advance-requires : goal.advance-requires
advance-requires c =
    updated_there (field_bytes c.args.update.now) (parse c.args.bytes.now) (parse c.of-view.result.bytes.now)
    (ap parse c.of-view.ensures.bytes ∙ c.put_update.ensures.packet) c.requires.there

pub returns-clause-checked : goal.returns-clause-checked
unfolding passed
returns-clause-checked c =
    passed_checked c.args.bytes.now _ c.args.sizes (field_bytes c.args.update.now) c.requires.checked (search rules) (search rules)
