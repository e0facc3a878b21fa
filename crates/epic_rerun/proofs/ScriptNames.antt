-- The commands of a script have names that fit.
use Rattle.std.proofs.Common.{◌≡◌, ℕ, List, [], ◌∷◌, Ok}
use Rattle.std.specs.List.{All}
use Rattle.std.proofs.lemmas.List.Elements.{All-cons, All-head, All-nil, All-tail}
use Rattle.epic_num.specs.declared.command.Command.{Command}
use Rattle.epic_num.specs.declared.command.Command.TheVariants as command
use Rattle.epic_text.specs.RunScript.{CommandsAreSpelled, IsSpelled}
use Rattle.epic_rerun.specs.Rerun.{NamesFit, ScriptNamesFit}

names_fit : (k : Command) → IsSpelled k → NamesFit k
names_fit (command.At moment) is = tt
names_fit (command.Originate a out exp) is = tt
names_fit (command.Extend parent out exp) is = tt
names_fit (command.Fetch source owner epoch) is = is
names_fit (command.Paths from to) is = tt
names_fit (command.Send version level src dst segments payload) is = tt
names_fit (command.Turn a iface bytes) is = tt
names_fit (command.Arrive host bytes) is = is.0
names_fit (command.Pass emission) is = tt
names_fit (command.Carry emission) is = tt
names_fit (command.Reveal holder) is = is
names_fit (command.Roll a) is = tt

all_fit : (commands : List Command) → All IsSpelled commands → All NamesFit commands
all_fit [] are = All-nil NamesFit
all_fit (k ∷ commands) are =
    All-cons NamesFit k commands (names_fit k (All-head IsSpelled k commands are)) (all_fit commands (All-tail IsSpelled k commands are))

pub script_names_fit : CommandsAreSpelled → ScriptNamesFit
script_names_fit spelled text commands is = all_fit commands (spelled text commands is)
