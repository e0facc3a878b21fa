-- How calls that are to make a step end.
use Rattle.std.specs.Prelude.{◌≡◌, ◌≤◌, true, Result, Ok, Err}
use Rattle.epic_num.specs.declared.answer.Answer.{Answer}
use Rattle.epic_num.specs.declared.answer.Answer.TheVariants.{Carried}
use Rattle.epic_num.specs.declared.command.Command.{Command}
use Rattle.epic_num.specs.declared.command.Command.TheVariants as command
use Rattle.epic_num.specs.declared.memory.OutOfMemory.{OutOfMemory}
use Rattle.epic_num.specs.declared.moment.TheConstants.{MAX_MOMENT}
use Rattle.epic_num.specs.declared.passed.PassedList.{PassedList}
use Rattle.epic_num.specs.Levels.{first_byte, is_first_byte}
use Rattle.epic_model.specs.State.{State}
use Rattle.epic_model.specs.Traces.{Stepped}

-- the answer of the call and the state after it are those of the step, or it was out of memory and nothing has changed
abbrev pub Steps : Stepped → Result Answer OutOfMemory → State → State → Type 0
Steps n (Ok answer) old new = (answer ≡ n.answer) × (new ≡ n.state)
Steps n (Err e) old new = new ≡ old

-- so where the step is a carry: the call tells its passes
abbrev pub Carries : Stepped → Result PassedList OutOfMemory → State → State → Type 0
Carries n (Ok passes) old new = (n.answer ≡ Carried passes) × (new ≡ n.state)
Carries n (Err e) old new = new ≡ old

-- a command whose moment fits, and whose packet is of a level and version that exist
unfoldable pub IsPossible : Command → Type 0
IsPossible (command.At moment) = moment ≤ MAX_MOMENT
IsPossible (command.Originate a out exp) = Unit {0}
IsPossible (command.Extend parent out exp) = Unit {0}
IsPossible (command.Fetch source owner epoch) = Unit {0}
IsPossible (command.Paths from to) = Unit {0}
IsPossible (command.Send version level src dst segments payload) = is_first_byte (first_byte version level) ≡ true
IsPossible (command.Turn a iface bytes) = Unit {0}
IsPossible (command.Arrive host bytes) = Unit {0}
IsPossible (command.Pass emission) = Unit {0}
IsPossible (command.Carry emission) = Unit {0}
IsPossible (command.Reveal holder) = Unit {0}
IsPossible (command.Roll a) = Unit {0}
