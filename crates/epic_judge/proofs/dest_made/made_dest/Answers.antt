use Rattle.std.proofs.Common.{refl, sym, ◌∙◌, arith}
use Rattle.epic_judge.proofs.DestMade.{made_first}
use Rattle.epic_judge.proofs.DestMade.{any_hit, any_next, any_past}
use Rattle.epic_judge.proofs.dest_made.made_dest.Goals as goal

pub loop-number-init : goal.loop-number-init
loop-number-init c = made_first c.args.index.now.network c.args.index.now.history c.args.dst c.args.src c.args.epoch c.args.message.now

pub loop-number-preserved : goal.loop-number-preserved
loop-number-preserved c = any_next _ c.args.index.now.history c.loop-number.number _ c.loop-number.invariant (sym c.if-dest_made_at.false ∙ c.dest_made_at.ensures)

pub returns-then-dest_made_at : goal.returns-then-dest_made_at
returns-then-dest_made_at c = any_hit _ c.args.index.now.history c.loop-number.number _ c.loop-number.invariant (sym c.if-dest_made_at.true ∙ c.dest_made_at.ensures)

pub returns : goal.returns
returns c = any_past _ c.args.index.now.history c.loop-number.number _ c.loop-number.invariant (omega (arith, c.events-number-end.ensures))
