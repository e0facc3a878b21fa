-- What a script spells can be done.
use Rattle.std.proofs.Common.{◌≡◌, ℕ, List, [], ◌∷◌, Ok}
use Rattle.std.specs.List.{All}
use Rattle.std.proofs.lemmas.List.Elements.{All-cons, All-head, All-nil, All-tail}
use Rattle.epic_num.specs.declared.command.Command.{Command}
use Rattle.epic_num.specs.declared.command.Command.TheVariants as command
use Rattle.epic_text.specs.RunScript.{CommandsAreSpelled, IsSpelled, run_rule}
use Rattle.epic_text.specs.Script.{commands_of}
use Rattle.epic_world.specs.Stepped.{IsPossible}

possible : (c : Command) → IsSpelled c → IsPossible c
unfolding IsPossible
possible (command.At moment) is = is
possible (command.Originate a out exp) is = tt
possible (command.Extend parent out exp) is = tt
possible (command.Fetch source owner epoch) is = tt
possible (command.Paths from to) is = tt
possible (command.Send version level src dst segments payload) is = is.0
possible (command.Turn a iface bytes) is = tt
possible (command.Arrive host bytes) is = tt
possible (command.Pass emission) is = tt
possible (command.Carry emission) is = tt
possible (command.Reveal holder) is = tt
possible (command.Roll a) is = tt

all_possible : (cs : List Command) → All IsSpelled cs → All IsPossible cs
all_possible [] are = All-nil IsPossible
all_possible (c ∷ cs) are =
    All-cons IsPossible c cs (possible c (All-head IsSpelled c cs are))
    (all_possible cs (All-tail IsSpelled c cs are))

-- each command of a script is one
pub script_possible : CommandsAreSpelled → (text : List ℕ) (cs : List Command)
    → commands_of run_rule text ≡ Ok cs → All IsPossible cs
script_possible spelled text cs is = all_possible cs (spelled text cs is)
