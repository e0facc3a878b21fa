use Rattle.epic_layout.specs.Contents.{field_bytes}
use Rattle.epic_layout.specs.Layout.{parse}
use Rattle.epic_router.proofs.PassedHops.{passed_there, passed_width, two_on}
use Rattle.epic_router.proofs.passing.pass_two_hops.Goals as goal

pub pass-requires-2-clause-there : goal.pass-requires-2-clause-there
pass-requires-2-clause-there c =
    passed_there (field_bytes c.args.first.now) (parse c.args.bytes.now) (parse c.pass.new.bytes) c.pass.ensures.packet c.requires.there

pub pass-requires-2-clause-width : goal.pass-requires-2-clause-width
pass-requires-2-clause-width c =
    passed_width (field_bytes c.args.first.now) (parse c.args.bytes.now) (parse c.pass.new.bytes) c.args.second.now c.pass.ensures.packet c.requires.second

pub returns : goal.returns
returns c = λ t a g h first second.
    two_on t a g h c.args.bytes.now c.pass.new.bytes c.pass-2.new.bytes c.args.first.now c.args.second.now
    c.pass.ensures.packet c.pass-2.ensures.packet c.pass-2.ensures.spelled first second
