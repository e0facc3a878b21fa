use Rattle.std.proofs.Common.{sym, ◌∙◌, refl}
use Rattle.epic_path.proofs.ConditionLaws.{different_step, different_end}
use Rattle.epic_path.proofs.conditions.have_different_ases.Goals as goal

pub returns-then-has_as : goal.returns-then-has_as
returns-then-has_as c = sym (different_step c.args.hops.now c.loop-index.index _ _ _ c.loop-index-test.true refl (sym c.has_as.ensures ∙ c.if-has_as.true)) ∙ c.loop-index.invariant

pub loop-index-preserved : goal.loop-index-preserved
loop-index-preserved c = sym (different_step c.args.hops.now c.loop-index.index _ _ _ c.loop-index-test.true refl (sym c.has_as.ensures ∙ c.if-has_as.false)) ∙ c.loop-index.invariant

pub returns : goal.returns
returns c = sym (different_end c.args.hops.now c.loop-index.index c.loop-index-test.false) ∙ c.loop-index.invariant
