use Rattle.epic_router.proofs.Right.{turns_are_right}
use Rattle.epic_router.proofs.right_turns.turns_are_right.Goals as goal

pub returns : goal.returns
returns c = turns_are_right
