use Rattle.std.proofs.Common.{sym, ◌∙◌}
use Rattle.std.proofs.lemmas.Bool.{eq-eqb, ne_eqb}
use Rattle.epic_path.proofs.ConditionLaws.{placed_step, placed_end}
use Rattle.epic_path.proofs.conditions.are_placed.Goals as goal

pub returns-then-from-index : goal.returns-then-from-index
returns-then-from-index c =
    sym (placed_step c.args.hops.now c.loop-index.index _ c.from.result _ c.loop-index-test.true c.from.ensures (ne_eqb _ _ c.if-from-index.true)) ∙ c.loop-index.invariant

pub loop-index-preserved : goal.loop-index-preserved
loop-index-preserved c =
    sym (placed_step c.args.hops.now c.loop-index.index _ c.from.result _ c.loop-index-test.true c.from.ensures (eq-eqb _ _ c.if-from-index.false)) ∙ c.loop-index.invariant

pub returns : goal.returns
returns c = sym (placed_end c.args.hops.now c.loop-index.index c.loop-index-test.false) ∙ c.loop-index.invariant
