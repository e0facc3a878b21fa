-- The judge says yes to what a run writes.
use Rattle.std.specs.Prelude.{◌≡◌, ℕ, ◌+◌, ◌<◌, ◌≤◌, ◌^◌, List, [], flat_map, length, Ok, ⊤}
use Rattle.std.specs.List.{All}
use Rattle.epic_num.specs.declared.command.Command.{Command}
use Rattle.epic_num.specs.declared.command.Command.TheVariants as command
use Rattle.epic_num.specs.declared.verdict.Verdict.{Verdict}
use Rattle.epic_num.specs.Messages.{IsHost}
use Rattle.epic_topo.specs.Lawful.{IsTopology}
use Rattle.epic_topo.specs.Network.{Network}
use Rattle.epic_model.specs.State.{start}
use Rattle.epic_model.specs.World.{Fits, most_steps}
use Rattle.epic_text.specs.RunScript.{HolderFits, run_rule}
use Rattle.epic_text.specs.Script.{commands_of}
use Rattle.epic_record.specs.LedgerFile.{history_in, most_ledger}
use Rattle.epic_record.specs.LedgerText.{ledger_text}
use Rattle.epic_record.specs.VerdictFile.{most_verdicts}
use Rattle.epic_record.specs.VerdictLines.{acceptances, verdict_text}
use Rattle.epic_judging.specs.declared.judged.Judged.TheVariants.{Yes}
use Rattle.epic_judging.specs.Judgment.{IsJudgment, accepted_after}
use Rattle.epic_reread.specs.JudgedYes.{AreGivenOf}
use Rattle.epic_reread.specs.LedgerFitting.{ItemFits}
use Rattle.epic_reread.specs.LedgerRereading.{ArePlaced}
use Rattle.epic_world.specs.Run.{Done, run, state_after}
use Rattle.epic_rerun.specs.Ledgers.{items_told, verdicts_told}

-- ---- commands

-- What a ledger has from the command alone fits its type: an epoch, and the host of an arrival or of a reveal. Of all else `Fits` and
-- what ledgers keep say so.
abbrev pub NamesFit : Command → Type 0
NamesFit (command.Fetch source owner epoch) = epoch < 2 ^ 64
NamesFit (command.Arrive host bytes) = IsHost host
NamesFit (command.Reveal holder) = HolderFits holder
NamesFit (command.At moment) = ⊤
NamesFit (command.Originate a out exp) = ⊤
NamesFit (command.Extend parent out exp) = ⊤
NamesFit (command.Paths from to) = ⊤
NamesFit (command.Send version level src dst segments payload) = ⊤
NamesFit (command.Turn a iface bytes) = ⊤
NamesFit (command.Pass emission) = ⊤
NamesFit (command.Carry emission) = ⊤
NamesFit (command.Roll a) = ⊤

-- so it is with each command that a script spells
abbrev pub ScriptNamesFit : Type 0
ScriptNamesFit = (text : List ℕ) (commands : List Command) → commands_of run_rule text ≡ Ok commands → All NamesFit commands

-- a run that a world makes
pub record IsRun (t : Network) (commands : List Command) : Type 0 where
  pub topology : IsTopology t
  pub fit : All Fits commands
  pub names_fit : All NamesFit commands
  pub few : length commands + 1 < most_steps

-- ---- what steps tell

-- the verdicts of a step's passages
abbrev pub step_given : Done → List Verdict
step_given d = flat_map (λ x. x.happened.verdicts) d.passages

-- of all steps
unfoldable pub all_given : List Done → List Verdict
all_given steps = flat_map step_given steps

-- Each item of the steps may follow those before it, and its parts fit their types. Together they are the ledger after the steps. Each
-- acceptance has its verdict, which holds over the ledger before the acceptance's passage and can be told; the verdict lines are those
-- of these.
pub record AreTold (t : Network) (steps : List Done) : Type 0 where
  pub placed : ArePlaced t [] (items_told steps)
  pub fit : All ItemFits (items_told steps)
  pub given : AreGivenOf t (accepted_after [] (items_told steps)) (all_given steps)
  pub lines : verdicts_told t steps ≡ verdict_text t (acceptances (items_told steps)) (all_given steps)

-- ---- the laws

abbrev pub RunsAreTold : Type 0
RunsAreTold =
    (t : Network) (commands : List Command)
    → IsRun t commands
    → AreTold t (run t commands) × (history_in (items_told (run t commands)) ≡ (state_after t start commands).history)

-- where both files are within the limits
abbrev pub RunsAreJudgedTrue : Type 0
RunsAreJudgedTrue =
    (t : Network) (commands : List Command)
    → IsRun t commands
    → length (ledger_text (items_told (run t commands))) ≤ most_ledger
    → length (verdicts_told t (run t commands)) ≤ most_verdicts
    → IsJudgment t (ledger_text (items_told (run t commands))) (verdicts_told t (run t commands))
    (Ok (Yes (length (acceptances (items_told (run t commands))))))
