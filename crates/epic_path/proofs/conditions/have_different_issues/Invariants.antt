use Rattle.epic_path.proofs.ConditionLaws.{SameAnswer}
use Rattle.epic_path.proofs.conditions.have_different_issues.Given as goal

abbrev pub invariant-loop-index : goal.invariant-loop-index
invariant-loop-index l = SameAnswer l.segments l.index
