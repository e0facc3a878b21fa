-- What a command does, from what it read of its files. A new command adds a case to `doing`.
use Rattle.std.specs.Prelude.{ℕ, Bool, if◌then◌else◌, nat_lt, List, [], ◌∷◌, ◌++◌, length, count_by, Option, Some, None, Result, Ok, Err}
use Rattle.epic_num.specs.declared.command.Command.{Command}
use Rattle.epic_capture.specs.Records.{Captured}
use Rattle.epic_feed.specs.declared.damage.Damage.{Damage}
use Rattle.epic_feed.specs.Forms.{records_in}
use Rattle.epic_topo.specs.Network.{Network}
use Rattle.epic_topo.specs.Reading.{topology as topology_of}
use Rattle.epic_topo.specs.declared.fault.TopoError.{TopoError}
use Rattle.epic_topo.specs.declared.fault.TopoError.TheVariants.{Bad, OutOfMemory}
use Rattle.epic_gen.specs.Topology.{generated_network}
use Rattle.epic_judging.specs.declared.judged.Judged.{Judged}
use Rattle.epic_judging.specs.declared.judged.JudgeError.{JudgeError}
use Rattle.epic_judging.specs.declared.judged.JudgeError.TheVariants as judge_error
use Rattle.epic_record.specs.declared.fault.FileKind.TheVariants.{TooLong}
use Rattle.epic_text.specs.Counts.{counts_of, end_line}
use Rattle.epic_text.specs.RunScript.{run_rule}
use Rattle.epic_text.specs.Script.{Fault, Rule, commands_of}
use Rattle.epic_world.specs.Run.{Done, run}
use Rattle.epic_app.specs.declared.hop_file.HopCommand.{HopCommand}
use Rattle.epic_app.specs.declared.judge_file.JudgedFile.{JudgedFile}
use Rattle.epic_app.specs.declared.judge_file.JudgedFile.TheVariants.{Ledger, Verdicts}
use Rattle.epic_app.specs.Showing.{Showing}
use Rattle.epic_app.specs.Acts.{Act, prints}
use Rattle.epic_app.specs.Along.{along}
use Rattle.epic_app.specs.Captures.{run_commands, shown}
use Rattle.epic_app.specs.FaultLines.{capture_line, fault_line, file_line, long_topology_line, read_line, too_long_line, topology_line}
use Rattle.epic_app.specs.Generating.{gen_text, generated_steps}
use Rattle.epic_app.specs.HopFile.{hop_rule}
use Rattle.epic_app.specs.HopReport.{answers, hop_report, is_forged}
use Rattle.epic_app.specs.JudgeReport.{is_no, judged_text, judgment}
use Rattle.epic_app.specs.Keeping.{kept_by}
use Rattle.epic_app.specs.Kept.{Kept, adding, opening}
use Rattle.epic_app.specs.Limits.{file_limit, limit_of, script_limit, topology_limit}
use Rattle.epic_app.specs.Readings.{Reading, Whole, Failed, Unread}
use Rattle.epic_words.specs.Request.{Request, Hop, Run, Gen, Judge, RunRequest}
use Rattle.epic_app.specs.RunReport.{all_verdicts, has_alarm, run_alarms, step_text}

pub record Progress : Type 0 where
  -- what it does, in order
  pub acts : List Act
  -- status and line on the errors; none where more of its files has to be read first
  pub ending : Option (ℕ × List ℕ)

abbrev pub ends : List Act → ℕ → List ℕ → Progress
ends acts status line = record { acts = acts; ending = Some (status, line) }

abbrev pub goes_on : List Act → Progress
goes_on acts = record { acts = acts; ending = None }

-- ---- files, in the order in which they are read

-- what follows from the bytes of a file
unfoldable pub whole : List ℕ → Reading → (List ℕ → Progress) → Progress
whole name (Whole bytes) next = next bytes
whole name (Failed front) next = ends [] 6 (read_line name)
whole name Unread next = goes_on []

-- bytes beyond a limit end the command with this status and line
unfoldable pub within : ℕ → ℕ → List ℕ → List ℕ → Progress → Progress
within limit status line bytes next = if nat_lt limit (length bytes) then ends [] status line else next

unfoldable pub by_topology : Result Network TopoError → (Network → Progress) → Progress
by_topology (Ok t) next = next t
by_topology (Err (Bad kind key item)) next = ends [] 3 (topology_line kind key item)
by_topology (Err OutOfMemory) next = goes_on []

unfoldable pub by_commands : {C : Type 0} → Result (List C) Fault → (List C → Progress) → Progress
by_commands (Ok commands) next = next commands
by_commands (Err (line, kind)) next = ends [] 4 (fault_line line kind)

-- what follows from the topology of a file
unfoldable pub on_topology : List ℕ → Reading → (Network → Progress) → Progress
on_topology name reading next =
    whole name reading (λ text. within topology_limit 3 long_topology_line text (by_topology (topology_of text) next))

-- what follows from the commands of a file
unfoldable pub on_commands : {C : Type 0} → List ℕ → ℕ → Rule C → Reading → (List C → Progress) → Progress
on_commands name limit rule reading next =
    whole name reading (λ text. within limit 4 too_long_line text (by_commands (commands_of rule text) next))

-- what follows from the bytes of a file that is judged
unfoldable pub on_judged : JudgedFile → List ℕ → Reading → (List ℕ → Progress) → Progress
on_judged file name reading next =
    whole name reading (λ text. within (limit_of file) 4 (file_line file 0 TooLong) text (next text))

-- what follows from what is said of two files
unfoldable pub by_judgment : Result Judged JudgeError → (Judged → Progress) → Progress
by_judgment (Ok said) next = next said
by_judgment (Err (judge_error.Ledger line kind)) next = ends [] 4 (file_line Ledger line kind)
by_judgment (Err (judge_error.Verdicts line kind)) next = ends [] 4 (file_line Verdicts line kind)
by_judgment (Err judge_error.OutOfMemory) next = goes_on []

-- ---- commands

-- 1 tells that some tag was forged, or that two hops have one, or that some verdict isn't true
abbrev pub alarm_status : Bool → ℕ
alarm_status alarm = if alarm then 1 else 0

-- the answers of `hop` to all commands of its file are written
unfoldable pub hop_done : List ℕ → List HopCommand → Progress
hop_done key commands =
    ends (prints (hop_report key commands)) (alarm_status (nat_lt 0 (count_by is_forged (answers key commands)))) []

-- the lines of a step behind others are written, and then it is added to the files that are kept
unfoldable pub step_acts : List Kept → Showing → Network → List Done → Done → List Act
step_acts kept show t before d = prints (step_text show t before d) ++ adding kept t d

-- the files are made, and the steps are done
unfoldable pub steps_acts : List Kept → Showing → Network → List Done → List Act
steps_acts kept show t steps = opening kept ++ along (step_acts kept show t) [] steps

-- so, and at the end the line with the counts is written
unfoldable pub run_acts : List Kept → Showing → Network → List Done → List Act
run_acts kept show t steps =
    opening kept
    ++ (along (step_acts kept show t) [] steps ++ prints (end_line (counts_of (shown show.script (length steps)) (all_verdicts steps))))

-- how the steps are shown of a run with these words, whose script has so many
abbrev pub showing : RunRequest → ℕ → Showing
showing r script = record { script = script; makers = r.makers; police = r.police }

-- the script's commands and then those of records are done one after the other
unfoldable pub run_done : List Kept → Showing → Network → List Command → List Captured → Progress
run_done kept show t commands records =
    let steps = run t (run_commands commands records) in
    ends (run_acts kept show t steps) (alarm_status (run_alarms show t steps)) []

-- they are done, but then the run ends without its last line
unfoldable pub run_cut : List Kept → Showing → Network → List Command → List Captured → ℕ → List ℕ → Progress
run_cut kept show t commands records status line =
    ends (steps_acts kept show t (run t (run_commands commands records))) status line

-- the records of a whole capture, up to its first damage
unfoldable pub by_records : List Kept → Showing → Network → List Command → List Captured → Option Damage → Progress
by_records kept show t commands records None = run_done kept show t commands records
by_records kept show t commands records (Some damage) = run_cut kept show t commands records 5 (capture_line damage)

-- a run whose capture is this reading
unfoldable pub on_capture : List ℕ → Reading → List Kept → Showing → Network → List Command → Progress
on_capture name (Whole bytes) kept show t commands = by_records kept show t commands (records_in bytes).items (records_in bytes).damage
on_capture name (Failed front) kept show t commands = run_cut kept show t commands (records_in front).items 6 (read_line name)
on_capture name Unread kept show t commands = goes_on (steps_acts kept show t (run t commands))

-- a run of a script, and of a capture if one is named
unfoldable pub run_by : Option (List ℕ) → List Reading → List Kept → Showing → Network → List Command → Progress
run_by None [] kept show t commands = run_done kept show t commands []
run_by (Some name) (reading ∷ []) kept show t commands = on_capture name reading kept show t commands
run_by capture readings kept show t commands = goes_on []

-- so of a run with these words
abbrev pub run_with : RunRequest → List Reading → Network → List Command → Progress
run_with r readings t commands = run_by r.capture readings (kept_by r) (showing r (length commands)) t commands

-- the generated commands are done over the generated topology
unfoldable pub gen_done : ℕ → ℕ → Progress
gen_done seed packets =
    let steps = generated_steps seed packets in
    ends (prints (gen_text (generated_network seed) steps)) (alarm_status (has_alarm steps)) []

-- what is said of two files is written
unfoldable pub judge_done : Judged → Progress
judge_done said = ends (prints (judged_text said)) (alarm_status (is_no said)) []

-- What a command does and how it ends, from a reading of each of its files; they are looked at in order, and the first that
-- refuses or fails decides.
unfoldable pub doing : Request → List Reading → Progress
doing (Hop key name) (file ∷ []) = on_commands name file_limit hop_rule file (hop_done key)
doing (Run r) (first ∷ second ∷ rest) =
    on_topology r.topology first (λ t. on_commands r.script script_limit run_rule second (run_with r rest t))
doing (Gen seed packets) [] = gen_done seed packets
doing (Judge topology ledger verdicts) (first ∷ second ∷ third ∷ []) =
    on_topology topology first (λ t.
    on_judged Ledger ledger second (λ l.
    on_judged Verdicts verdicts third (λ v. by_judgment (judgment t l v) judge_done)))
doing request readings = goes_on []
