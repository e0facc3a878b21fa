-- A run: the steps of a list of commands, from the state in which nothing has happened.
use Rattle.std.specs.Prelude.{List, [], ◌∷◌}
use Rattle.epic_num.specs.declared.answer.Answer.{Answer}
use Rattle.epic_num.specs.declared.command.Command.{Command}
use Rattle.epic_topo.specs.Network.{Network}
use Rattle.epic_model.specs.State.{State, start}
use Rattle.epic_model.specs.Steps.{next}
use Rattle.epic_model.specs.Traces.{Passage}

-- a step that was done: its command, the states around it, what it answered, and its passages
pub record Done : Type 0 where
  pub command : Command
  pub before : State
  pub answer : Answer
  pub passages : List Passage
  pub after : State

unfoldable pub done_by : Network → State → Command → Done
done_by t s c =
    let n = next t s c in
    record { command = c; before = s; answer = n.answer; passages = n.passages; after = n.state }

-- the steps of the commands in order
unfoldable pub run_from : Network → State → List Command → List Done
run_from t s [] = []
run_from t s (c ∷ cs) = done_by t s c ∷ run_from t (next t s c).state cs

-- the state after them
unfoldable pub state_after : Network → State → List Command → State
state_after t s [] = s
state_after t s (c ∷ cs) = state_after t (next t s c).state cs

unfoldable pub run : Network → List Command → List Done
run t commands = run_from t start commands
