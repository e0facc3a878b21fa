-- What the report of a command that was done claims, for a reader.
use Rattle.std.specs.Prelude.{◌≡◌, ℕ, ◌<◌, ◌≤◌, ◌↔◌, List, [], length, Option, Some, None, Ok, IsTrue, ⊤}
use Rattle.std.specs.List.{All, list_any}
use Rattle.epic_num.specs.declared.command.Command.{Command}
use Rattle.epic_capture.specs.Records.{Captured}
use Rattle.epic_capture.specs.Saving.{saved}
use Rattle.epic_feed.specs.Forms.{records_in}
use Rattle.epic_judging.specs.declared.judged.Judged.{Judged}
use Rattle.epic_judging.specs.declared.judged.Judged.TheVariants.{Yes}
use Rattle.epic_judging.specs.Judgment.{IsJudgment}
use Rattle.epic_ports.specs.Files.{Files}
use Rattle.epic_ports.specs.Written.{Appends}
use Rattle.epic_record.specs.LedgerFile.{most_ledger}
use Rattle.epic_record.specs.LedgerText.{ledger_text}
use Rattle.epic_record.specs.VerdictFile.{most_verdicts}
use Rattle.epic_record.specs.VerdictLines.{acceptances}
use Rattle.epic_topo.specs.Network.{Network}
use Rattle.epic_topo.specs.Reading.{topology as topology_of}
use Rattle.epic_gen.specs.Script.{generated}
use Rattle.epic_gen.specs.Text.{topology_text}
use Rattle.epic_gen.specs.Topology.{generated_network}
use Rattle.epic_model.specs.State.{start}
use Rattle.epic_text.specs.RunScript.{run_rule}
use Rattle.epic_text.specs.Script.{commands_of}
use Rattle.epic_world.specs.Run.{Done, run, state_after}
use Rattle.epic_world.specs.Sound.{StateHolds, StepHolds}
use Rattle.epic_app.specs.declared.hop_answer.HopAnswer.{HopAnswer}
use Rattle.epic_app.specs.declared.hop_file.HopCommand.{HopCommand}
use Rattle.epic_app.specs.Acts.{World}
use Rattle.epic_app.specs.Captures.{run_commands}
use Rattle.epic_app.specs.Doing.{showing}
use Rattle.epic_app.specs.Generating.{gen_text, generated_steps}
use Rattle.epic_app.specs.HopFile.{hop_rule}
use Rattle.epic_app.specs.HopReport.{AllHold, is_forged, report_text}
use Rattle.epic_rerun.specs.Ledgers.{items_told, verdicts_told}
use Rattle.epic_app.specs.JudgeReport.{is_no, judged_text}
use Rattle.epic_app.specs.Readings.{Holds}
use Rattle.epic_words.specs.Request.{Request, Hop, Run, Gen, Judge, RunRequest, request_of}
use Rattle.epic_app.specs.RunReport.{run_text, has_alarm, run_alarms}
use Rattle.epic_app.specs.Saved.{captured_by}

-- the file holds commands; the lines are those of answers, each of which holds; status 1 tells that one is forged
pub record HopHolds (key name : List ℕ) (old new : World) (status : ℕ) : Type 0 where
  pub bytes : List ℕ
  pub is_file : Holds old.contents name bytes
  pub commands : List HopCommand
  pub are_commands : commands_of hop_rule bytes ≡ Ok commands
  pub given : List HopAnswer
  pub hold : AllHold key [] commands given
  pub report : Appends old.written new.written (report_text given)
  pub forged : (status ≡ 1) ↔ IsTrue (list_any is_forged given)

-- a file holds these bytes, if one is named, where contents are told before and after
abbrev pub Keeps : Option (List ℕ) → List ℕ → Option Files → Option Files → Type 0
Keeps None bytes old new = ⊤
Keeps (Some name) bytes None new = ⊤
Keeps (Some name) bytes (Some old) new = Holds new name bytes

-- a capture holds these records and no damage, if one is named; else there are none
abbrev pub HoldsRecords : Option (List ℕ) → Option Files → List Captured → Type 0
HoldsRecords None files records = records ≡ []
HoldsRecords (Some name) files records =
    (bytes : List ℕ) × Holds files name bytes × (records_in bytes ≡ record { items = records; damage = None })

-- Of the ledger file and the verdict file of these steps the judge says yes, with the number of what was accepted, where both files are
-- within its limits.
abbrev pub IsJudgedTrue : Network → List Done → Type 0
IsJudgedTrue t steps =
    length (ledger_text (items_told steps)) ≤ most_ledger
    → length (verdicts_told t steps) ≤ most_verdicts
    → IsJudgment t (ledger_text (items_told steps)) (verdicts_told t steps) (Ok (Yes (length (acceptances (items_told steps)))))

-- The files hold a topology, commands and records; the lines are those of the steps of the commands and of the records. Each step goes on from a state that holds: the
-- verdicts of its passages are true, each over the ledger before its passage, and honest packets are carried. So does the end of the
-- run. Status 1 tells that a verdict says forged or collided. The saved file holds a capture of what was emitted,
-- the ledger file the lines of all that happened, and the verdict file the verdicts of what was accepted: the judge says yes of these
-- two.
pub record RunHolds (r : RunRequest) (old new : World) (status : ℕ) : Type 0 where
  pub text : List ℕ
  pub bytes : List ℕ
  pub is_topology : Holds old.contents r.topology text
  pub is_script : Holds old.contents r.script bytes
  pub network : Network
  pub is_network : topology_of text ≡ Ok network
  pub commands : List Command
  pub are_commands : commands_of run_rule bytes ≡ Ok commands
  pub records : List Captured
  pub are_records : HoldsRecords r.capture old.contents records
  pub steps : All (StepHolds network) (run network (run_commands commands records))
  pub last : StateHolds network (state_after network start (run_commands commands records))
  pub report : Appends old.written new.written (run_text (showing r (length commands)) network (run network (run_commands commands records)))
  pub alarm : (status ≡ 1) ↔ IsTrue (run_alarms (showing r (length commands)) network (run network (run_commands commands records)))
  pub saved : Keeps r.save (saved (captured_by (run network (run_commands commands records)))) old.contents new.contents
  pub ledger : Keeps r.ledger (ledger_text (items_told (run network (run_commands commands records)))) old.contents new.contents
  pub verdicts : Keeps r.verdicts (verdicts_told network (run network (run_commands commands records))) old.contents new.contents
  pub judged : IsJudgedTrue network (run network (run_commands commands records))

-- The two lines are those of the generated commands' steps over the generated topology, whose text `run` reads as it. Each step goes on
-- from a state that holds, and so does the end of the run, as for `run`. Status 1 tells that a verdict says forged or collided.
pub record GenHolds (seed packets : ℕ) (old new : World) (status : ℕ) : Type 0 where
  pub is_network : topology_of (topology_text seed) ≡ Ok (generated_network seed)
  pub steps : All (StepHolds (generated_network seed)) (generated_steps seed packets)
  pub last : StateHolds (generated_network seed) (state_after (generated_network seed) start (generated seed packets))
  pub report : Appends old.written new.written (gen_text (generated_network seed) (generated_steps seed packets))
  pub alarm : (status ≡ 1) ↔ IsTrue (has_alarm (generated_steps seed packets))

-- The files hold a topology, a ledger's lines and verdict lines. The line tells the judgment on these: yes, where each verdict line is
-- true over the ledger's lines before what it speaks of, or no and the first that isn't. Status 1 tells no.
pub record JudgeHolds (topology ledger verdicts : List ℕ) (old new : World) (status : ℕ) : Type 0 where
  pub text : List ℕ
  pub happened : List ℕ
  pub told : List ℕ
  pub is_topology : Holds old.contents topology text
  pub is_ledger : Holds old.contents ledger happened
  pub are_verdicts : Holds old.contents verdicts told
  pub network : Network
  pub is_network : topology_of text ≡ Ok network
  pub said : Judged
  pub is_judgment : IsJudgment network happened told (Ok said)
  pub report : Appends old.written new.written (judged_text said)
  pub alarm : (status ≡ 1) ↔ IsTrue (is_no said)

abbrev pub HoldsUnder : Option Request → World → World → ℕ → Type 0
HoldsUnder None old new status = ⊤
HoldsUnder (Some (Hop key name)) old new status = status < 2 → HopHolds key name old new status
HoldsUnder (Some (Run r)) old new status = status < 2 → RunHolds r old new status
HoldsUnder (Some (Gen seed packets)) old new status = status < 2 → GenHolds seed packets old new status
HoldsUnder (Some (Judge topology ledger verdicts)) old new status = status < 2 → JudgeHolds topology ledger verdicts old new status

abbrev pub ReportHolds : List (List ℕ) → World → World → ℕ → Type 0
ReportHolds words old new status = HoldsUnder (request_of words) old new status
