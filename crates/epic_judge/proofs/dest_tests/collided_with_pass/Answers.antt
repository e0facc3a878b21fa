use Rattle.std.proofs.Common.{sym, ap, ◌∙◌}
use Rattle.epic_num.specs.Levels.{is_tagged}
use Rattle.epic_ledger.specs.Facts.{facts_of}
use Rattle.epic_judge.proofs.DestLines.{pass_none, pass_some, pass_untagged}
use Rattle.epic_judge.proofs.dest_tests.collided_with_pass.Goals as goal

pub returns-then-not-is_tagged : goal.returns-then-not-is_tagged
returns-then-not-is_tagged c =
    pass_untagged c.args.index.now.network (facts_of c.args.index.now.history) c.args.packet.now c.args.collision.now
    (sym (c.is_tagged.ensures ∙ ap is_tagged c.first_byte.ensures) ∙ c.if-not-is_tagged.true)

pub returns-in-Some : goal.returns-in-Some
returns-in-Some c =
    pass_some c.args.index.now.network (facts_of c.args.index.now.history) c.args.packet.now c.args.collision.now (c.in-Some.hop, c.in-Some.name) _
    (sym (c.is_tagged.ensures ∙ ap is_tagged c.first_byte.ensures) ∙ c.if-not-is_tagged.false)
    (sym c.in-Some.is ∙ c.uncovered.ensures.value) c.hop_collided.ensures

pub returns-in-None : goal.returns-in-None
returns-in-None c =
    pass_none c.args.index.now.network (facts_of c.args.index.now.history) c.args.packet.now c.args.collision.now (sym c.in-None.is ∙ c.uncovered.ensures.value)
