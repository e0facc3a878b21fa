-- What a report claims, from the contract of the top call.
use Rattle.std.proofs.Common.{◌≡◌, ◌↔◌, ℕ, ◌+◌, ◌<◌, Bool, true, false, cond, ◌≤◌, ltb, ◌||◌, List, [], ◌∷◌, length, drop, length-append, Option, Some, None, Result, Ok, Err, count_by, IsTrue, refl, sym, ap, subst, ◌∙◌, inl, inr, arith}
use Rattle.std.specs.List.{All, AllByRecursion, list_any}
use Rattle.std.specs.Option.{option_to_list}
use Rattle.std.proofs.lemmas.Bool.Decides.{nat_tests}
use Rattle.std.proofs.lemmas.List.Elements.{All-append, All-nil}
use Rattle.std.proofs.lemmas.List.Sums.{sum_by-cons}
use Rattle.epic_num.specs.declared.command.Command.{Command}
use Rattle.epic_capture.specs.Records.{Captured}
use Rattle.epic_feed.specs.declared.damage.Damage.{Damage}
use Rattle.epic_feed.specs.Forms.{records_in}
use Rattle.epic_feed.proofs.Few.{few_records}
use Rattle.epic_ports.specs.Files.{Files}
use Rattle.epic_ports.specs.Written.{Appends}
use Rattle.epic_judging.specs.declared.judged.Judged.{Judged}
use Rattle.epic_judging.specs.declared.judged.JudgeError.{JudgeError}
use Rattle.epic_judging.specs.declared.judged.JudgeError.TheVariants as judge_error
use Rattle.epic_judging.specs.Laws.{JudgmentsAreDecided}
use Rattle.epic_record.specs.declared.fault.FileKind.TheVariants.{TooLong}
use Rattle.epic_topo.specs.Lawful.{IsTopology}
use Rattle.epic_topo.specs.Network.{Network}
use Rattle.epic_topo.specs.Reading.{topology}
use Rattle.epic_topo.specs.declared.fault.TopoError.{TopoError}
use Rattle.epic_topo.specs.declared.fault.TopoError.TheVariants.{Bad, OutOfMemory}
use Rattle.epic_topo.proofs.ReadLawful.{read_lawful}
use Rattle.epic_topo.proofs.Steps.{at_ok}
use Rattle.epic_num.specs.declared.command.Command.TheVariants as command
use Rattle.epic_gen.specs.Script.{generated}
use Rattle.epic_gen.specs.Topology.{generated_network}
use Rattle.epic_gen.proofs.Places.{length-generated}
use Rattle.epic_gen.proofs.Read.{network_lawful, text_read}
use Rattle.epic_text.specs.RunScript.{CommandsAreSpelled, IsSpelled, run_rule}
use Rattle.epic_text.specs.Script.{Fault, Rule, commands_of}
use Rattle.epic_model.specs.State.{start}
use Rattle.epic_world.specs.Run.{run, run_from}
use Rattle.epic_model.specs.World.{Fits, most_steps}
use Rattle.epic_rerun.specs.Rerun.{NamesFit, RunsAreJudgedTrue, ScriptNamesFit}
use Rattle.epic_world.specs.Sound.{RunsHold}
use Rattle.epic_app.specs.declared.judge_file.JudgedFile.{JudgedFile}
use Rattle.epic_app.specs.declared.judge_file.JudgedFile.TheVariants.{Ledger, Verdicts}
use Rattle.epic_app.specs.JudgeReport.{is_no, judged_text, judgment}
use Rattle.epic_app.specs.Keeping.{kept_by}
use Rattle.epic_app.specs.Kept.{Kept}
use Rattle.epic_app.specs.Acts.{Act, World, Does, printed, prints}
use Rattle.epic_app.specs.Captures.{RecordsFit, records_commands, run_commands}
use Rattle.epic_app.specs.Claims.{GenHolds, HopHolds, HoldsRecords, HoldsUnder, JudgeHolds, RunHolds}
use Rattle.epic_app.specs.Doing.{Progress, by_commands, by_judgment, by_records, by_topology, doing, ends, gen_done, hop_done, judge_done, on_capture, on_commands, on_judged, on_topology, run_acts, run_by, run_with, showing, run_cut, run_done, whole, within, steps_acts}
use Rattle.epic_app.specs.Showing.{Showing}
use Rattle.epic_app.specs.FaultLines.{capture_line, fault_line, file_line, long_topology_line, read_line, too_long_line, topology_line}
use Rattle.epic_app.specs.Generating.{gen_text, generated_steps}
use Rattle.epic_app.specs.HopFile.{hop_rule}
use Rattle.epic_app.specs.HopReport.{answers, hop_report, is_forged}
use Rattle.epic_app.specs.Limits.{file_limit, limit_of, script_limit, topology_limit}
use Rattle.epic_app.specs.Outcome.{ErrorSink, EndsBy, EndsUnder}
use Rattle.epic_app.specs.Readings.{Reading, Whole, Failed, Unread, Holds, AreRead, IsRead}
use Rattle.epic_words.specs.Request.{Request, Hop, Run, Gen, Judge, RunRequest, reads_of, shares_files}
use Rattle.epic_app.specs.RunReport.{has_alarm, run_alarms}
use Rattle.epic_app.proofs.ActFiles.{printed-prints}
use Rattle.epic_app.proofs.ScriptCommands.{few_commands}
use Rattle.epic_app.proofs.RunActs.{ledger_whole, printed-run, saved_whole, verdicts_whole}
use Rattle.epic_app.proofs.AllOf.{all_map}
use Rattle.epic_app.proofs.RanLaws.{two_each}
use Rattle.epic_app.proofs.AnswersHold.{answers_hold}
use Rattle.epic_app.proofs.FewPackets.{HasFew}
use Rattle.epic_app.proofs.GenClaims.{all_fit}
use Rattle.epic_app.proofs.JudgmentLaws.{judgment_holds}

-- ---- what decided a status of 0 or 1

abbrev IsEnd : Progress → ℕ → Type 0
IsEnd p status = (line : List ℕ) × (p.ending ≡ Some (status, line))

abbrev ended_by : Option (ℕ × List ℕ) → ℕ
ended_by None = 0
ended_by (Some ending) = ending.0

status_by : (n : ℕ) (text : List ℕ) (status : ℕ) (line : List ℕ) → ◌≡◌ {A = Option (ℕ × List ℕ)} (Some (n, text)) (Some (status, line)) → n ≡ status
status_by n text status line is = ap ended_by is

-- the status of an end
abbrev ended_status : Progress → ℕ
ended_status p = ended_by p.ending

ended_at : (p : Progress) (status : ℕ) → IsEnd p status → ended_status p ≡ status
ended_at p status (line, is) = ap ended_by is

-- another status
no_end : (acts : List Act) (n : ℕ) (line : List ℕ) (status : ℕ) → 1 < n → status < 2 → IsEnd (ends acts n line) status → ⊥
no_end acts n line status many below (told, is) = omega (arith, status_by n line status told is, many, below)

-- the commands of a file decided
record ByCommands {C : Type 0} (name : List ℕ) (limit : ℕ) (rule : Rule C) (reading : Reading) (next : List C → Progress) : Type 0 where
  bytes : List ℕ
  is_whole : reading ≡ Whole bytes
  commands : List C
  are : commands_of rule bytes ≡ Ok commands
  leads : on_commands name limit rule reading next ≡ next commands

commands_decide : {C : Type 0} (name : List ℕ) (limit : ℕ) (rule : Rule C) (reading : Reading) (next : List C → Progress) (status : ℕ)
    → status < 2 → IsEnd (on_commands name limit rule reading next) status → ByCommands name limit rule reading next
unfolding on_commands whole within by_commands
commands_decide name limit rule (Failed front) next status below end = absurd (no_end [] 6 (read_line name) status (omega arith) below end)
commands_decide name limit rule Unread next status below (line, is) = absurd (cc)
commands_decide {C} name limit rule (Whole bytes) next status below end = by (ltb limit (length bytes)) (commands_of rule bytes) refl refl end
  where
    by : (long : Bool) (r : Result (List C) Fault) → ltb limit (length bytes) ≡ long → commands_of rule bytes ≡ r
        → IsEnd (cond long (ends [] 4 too_long_line) (by_commands r next)) status → ByCommands name limit rule (Whole bytes) next
    by true r e is end = absurd (no_end [] 4 too_long_line status (omega arith) below end)
    by false (Err (line, kind)) e is end = absurd (no_end [] 4 (fault_line line kind) status (omega arith) below end)
    by false (Ok commands) e is end = record { bytes = bytes; is_whole = refl; commands = commands; are = is; leads = rw (e, is) refl }

-- the topology of a file decided
record ByTopology (name : List ℕ) (reading : Reading) (next : Network → Progress) : Type 0 where
  bytes : List ℕ
  is_whole : reading ≡ Whole bytes
  network : Network
  is : topology bytes ≡ Ok network
  leads : on_topology name reading next ≡ next network

topology_decides : (name : List ℕ) (reading : Reading) (next : Network → Progress) (status : ℕ)
    → status < 2 → IsEnd (on_topology name reading next) status → ByTopology name reading next
unfolding on_topology whole within by_topology
topology_decides name (Failed front) next status below end = absurd (no_end [] 6 (read_line name) status (omega arith) below end)
topology_decides name Unread next status below (line, is) = absurd (cc)
topology_decides name (Whole bytes) next status below end = by (ltb topology_limit (length bytes)) (topology bytes) refl refl end
  where
    by : (long : Bool) (r : Result Network TopoError) → ltb topology_limit (length bytes) ≡ long → topology bytes ≡ r
        → IsEnd (cond long (ends [] 3 long_topology_line) (by_topology r next)) status → ByTopology name (Whole bytes) next
    by true r e is end = absurd (no_end [] 3 long_topology_line status (omega arith) below end)
    by false (Err (Bad kind key item)) e is end = absurd (no_end [] 3 (topology_line kind key item) status (omega arith) below end)
    by false (Err OutOfMemory) e is (line, none) = absurd (cc)
    by false (Ok t) e is end = record { bytes = bytes; is_whole = refl; network = t; is = is; leads = rw (e, is) refl }

-- ---- counts of alarms

one_more : (b : Bool) (n : ℕ) (r : Bool) → ltb 0 n ≡ r → ltb 0 (cond b 1 0 + n) ≡ (b || r)
one_more true n r is = grind (arith, nat_tests)
one_more false n r is = grind (arith, nat_tests)

any_count : {X : Type 0} (p : X → Bool) (xs : List X) → ltb 0 (count_by p xs) ≡ list_any p xs
any_count p [] = refl
any_count p (x ∷ xs) = ap (ltb 0) (sum_by-cons (λ y. cond (p y) 1 0) x xs) ∙ one_more (p x) (count_by p xs) (list_any p xs) (any_count p xs)

status_one : (b c : Bool) (status : ℕ) → b ≡ c → cond b 1 0 ≡ status → (status ≡ 1) ↔ IsTrue c
status_one true c status same is = (λ h. sym same, λ h. sym is)
status_one false c status same is = (λ h. absurd (omega (arith, is, h)), λ h. cc)

-- ---- reports

-- a text was printed
text_printed : (p : Progress) (text : List ℕ) (old new : World) → p.acts ≡ prints text → Does p.acts old new → Appends old.written new.written text
text_printed p text old new are done =
    let P = Appends old.written new.written in subst P (ap printed are ∙ printed-prints text) done.output

-- a whole file that was read holds its bytes
file_held : (old new : World) (name : List ℕ) (reading : Reading) (bytes : List ℕ) → reading ≡ Whole bytes → IsRead old new name reading → Holds old.contents name bytes
file_held old new name reading bytes is read = let P = IsRead old new name in subst P is read

-- the answers of `hop`
hop_claims : (key name : List ℕ) (old new : World) (reading : Reading) (status : ℕ) → IsRead old new name reading → status < 2
    → IsEnd (doing (Hop key name) (reading ∷ [])) status → Does (doing (Hop key name) (reading ∷ [])).acts old new → HopHolds key name old new status
unfolding doing hop_done
hop_claims key name old new reading status read below end done =
    let by = commands_decide name file_limit hop_rule reading (hop_done key) status below end in
    record {
      bytes = by.bytes;
      is_file = file_held old new name reading by.bytes by.is_whole read;
      commands = by.commands;
      are_commands = by.are;
      given = answers key by.commands;
      hold = answers_hold key [] by.commands;
      report = text_printed (doing (Hop key name) (reading ∷ [])) (hop_report key by.commands) old new (ap (λ (p : Progress). p.acts) by.leads) done;
      forged = status_one (ltb 0 (count_by is_forged (answers key by.commands))) (list_any is_forged (answers key by.commands)) status
          (any_count is_forged (answers key by.commands))
          (sym (ap (λ (p : Progress). ended_status p) by.leads) ∙ ended_at (doing (Hop key name) (reading ∷ [])) status end);
    }

-- the parts of a command that a script spells fit their types
fits_so : (c : Command) → IsSpelled c → Fits c
fits_so (command.At moment) is = is
fits_so (command.Originate a out exp) is = is
fits_so (command.Extend parent out exp) is = is
fits_so (command.Fetch source owner epoch) is = tt
fits_so (command.Paths from to) is = tt
fits_so (command.Send version level src dst segments payload) is = is
fits_so (command.Turn a iface bytes) is = is
fits_so (command.Arrive host bytes) is = is.1
fits_so (command.Pass emission) is = tt
fits_so (command.Carry emission) is = tt
fits_so (command.Reveal holder) is = tt
fits_so (command.Roll a) is = tt

-- the records of a capture decided, if one is named
record ByCapture (capture : Option (List ℕ)) (kept : List Kept) (show : Showing) (t : Network) (commands : List Command) (p : Progress) (contents : Option Files) : Type 0 where
  records : List Captured
  are : HoldsRecords capture contents records
  leads : p ≡ run_done kept show t commands records
  fit : All Fits (records_commands records)
  names_fit : All NamesFit (records_commands records)
  few : length records ≤ 262144

capture_decides : (capture : Option (List ℕ)) (kept : List Kept) (show : Showing) (t : Network) (commands : List Command) (rest : List Reading) (old new : World) (status : ℕ)
    → status < 2 → IsEnd (run_by capture rest kept show t commands) status → AreRead old new (option_to_list capture) rest → AllByRecursion RecordsFit rest
    → ByCapture capture kept show t commands (run_by capture rest kept show t commands) old.contents
unfolding run_by on_capture by_records run_cut records_commands
capture_decides None kept show t commands [] old new status below end read fits =
    record { records = []; are = refl; leads = refl; fit = All-nil Fits; names_fit = All-nil NamesFit; few = omega arith }
capture_decides None kept show t commands (reading ∷ rest) old new status below end read fits = absurd read
capture_decides (Some name) kept show t commands [] old new status below end read fits = absurd read
capture_decides (Some name) kept show t commands (Failed front ∷ []) old new status below end read fits =
    absurd (no_end (steps_acts kept show t (run t (run_commands commands (records_in front).items))) 6 (read_line name) status (omega arith) below end)
capture_decides (Some name) kept show t commands (Unread ∷ []) old new status below (line, is) read fits = absurd (cc)
capture_decides (Some name) kept show t commands (Whole bytes ∷ []) old new status below end (holds, none) ((fits, names), no_more) =
    by (records_in bytes).damage refl end
  where
    by : (damage : Option Damage) → (records_in bytes).damage ≡ damage → IsEnd (by_records kept show t commands (records_in bytes).items damage) status
        → ByCapture (Some name) kept show t commands (by_records kept show t commands (records_in bytes).items (records_in bytes).damage) old.contents
    by (Some e) is end =
        absurd (no_end (steps_acts kept show t (run t (run_commands commands (records_in bytes).items))) 5 (capture_line e) status (omega arith) below end)
    by None is end = record {
      records = (records_in bytes).items;
      are = (bytes, holds, ap (λ (damage : Option Damage). record { items = (records_in bytes).items; damage = damage }) is);
      leads = ap (by_records kept show t commands (records_in bytes).items) is;
      fit = fits;
      names_fit = names;
      few = few_records bytes;
    }
capture_decides (Some name) kept show t commands (reading ∷ second ∷ rest) old new status below end (read, many) fits = absurd many

module _ (runs_hold : RunsHold) (spelled : CommandsAreSpelled) (script_names : ScriptNamesFit) (judged_true : RunsAreJudgedTrue) where
  run_claims : (r : RunRequest) (old new : World) (first second : Reading) (rest : List Reading) (status : ℕ) → IsRead old new r.topology first → IsRead old new r.script second
      → AreRead old new (option_to_list r.capture) rest → AllByRecursion RecordsFit rest → shares_files (Run r) ≡ false → status < 2
      → IsEnd (doing (Run r) (first ∷ second ∷ rest)) status → Does (doing (Run r) (first ∷ second ∷ rest)).acts old new → RunHolds r old new status
  unfolding doing run_done run run_commands
  run_claims r old new first second rest status read read_too reads fits unshared below end done =
      let next : Network → Progress = λ t. on_commands r.script script_limit run_rule second (run_with r rest t) in
      let top = topology_decides r.topology first next status below end in
      let t = top.network in
      let end_next : IsEnd (next t) status = let P : Progress → Type 0 = λ p. IsEnd p status in subst P top.leads end in
      let by = commands_decide r.script script_limit run_rule second (run_with r rest t) status below end_next in
      let end_last : IsEnd (run_with r rest t by.commands) status = let P : Progress → Type 0 = λ p. IsEnd p status in subst P by.leads end_next in
      let of = capture_decides r.capture (kept_by r) (showing r (length by.commands)) t by.commands rest old new status below end_last reads fits in
      let leads = top.leads ∙ (by.leads ∙ of.leads) in
      let commands = run_commands by.commands of.records in
      let steps = run_from t start commands in
      let acts = run_acts (kept_by r) (showing r (length by.commands)) t steps in
      let did : Does acts old new = let P : List Act → Type 0 = λ a. Does a old new in subst P (ap (λ (p : Progress). p.acts) leads) done in
      let lawful : IsTopology t = at_ok IsTopology (topology top.bytes) t top.is (read_lawful top.bytes) in
      let fit = All-append Fits by.commands (records_commands of.records) (all_map IsSpelled Fits by.commands fits_so (spelled by.bytes by.commands by.are)) of.fit in
      let few : length commands + 1 < most_steps
      = omega (arith, few_commands run_rule by.bytes by.commands by.are, of.few, two_each of.records, length-append by.commands (records_commands of.records)) in
      let holds = runs_hold t commands lawful fit few in
      let names = All-append NamesFit by.commands (records_commands of.records) (script_names by.bytes by.commands by.are) of.names_fit in
      record {
        text = top.bytes;
        bytes = by.bytes;
        is_topology = file_held old new r.topology first top.bytes top.is_whole read;
        is_script = file_held old new r.script second by.bytes by.is_whole read_too;
        network = t;
        is_network = top.is;
        commands = by.commands;
        are_commands = by.are;
        records = of.records;
        are_records = of.are;
        steps = holds.0;
        last = holds.1;
        report = (let P = Appends old.written new.written in subst P (printed-run (kept_by r) (showing r (length by.commands)) t steps) did.output);
        alarm = status_one (run_alarms (showing r (length by.commands)) t steps) (run_alarms (showing r (length by.commands)) t steps) status refl
            (sym (ap (λ (p : Progress). ended_status p) leads) ∙ ended_at (doing (Run r) (first ∷ second ∷ rest)) status end);
        saved = saved_whole r (showing r (length by.commands)) t steps old.contents new.contents unshared did.files;
        ledger = ledger_whole r (showing r (length by.commands)) t steps old.contents new.contents unshared did.files;
        verdicts = verdicts_whole r (showing r (length by.commands)) t steps old.contents new.contents unshared did.files;
        judged = judged_true t commands (record { topology = lawful; fit = fit; names_fit = names; few = few });
      }

-- ---- generated runs

gen_claims : RunsHold → (seed packets : ℕ) (old new : World) (status : ℕ) → packets ≤ 100000
    → IsEnd (doing (Gen seed packets) []) status → Does (doing (Gen seed packets) []).acts old new → GenHolds seed packets old new status
unfolding doing gen_done generated_steps run
gen_claims runs_hold seed packets old new status few end done =
    let t = generated_network seed in
    let steps = generated_steps seed packets in
    let holds = runs_hold t (generated seed packets) (network_lawful seed) (all_fit seed packets few) (omega (arith, few, length-generated seed packets)) in
    record {
      is_network = text_read seed;
      steps = holds.0;
      last = holds.1;
      report = text_printed (doing (Gen seed packets) []) (gen_text t steps) old new refl done;
      alarm = status_one (has_alarm steps) (has_alarm steps) status refl (ended_at (doing (Gen seed packets) []) status end);
    }

-- ---- the command `judge`

-- the bytes of a file that is judged decided
record ByJudged (file : JudgedFile) (name : List ℕ) (reading : Reading) (next : List ℕ → Progress) : Type 0 where
  bytes : List ℕ
  is_whole : reading ≡ Whole bytes
  leads : on_judged file name reading next ≡ next bytes

judged_decides : (file : JudgedFile) (name : List ℕ) (reading : Reading) (next : List ℕ → Progress) (status : ℕ)
    → status < 2 → IsEnd (on_judged file name reading next) status → ByJudged file name reading next
unfolding on_judged whole within
judged_decides file name (Failed front) next status below end = absurd (no_end [] 6 (read_line name) status (omega arith) below end)
judged_decides file name Unread next status below (line, is) = absurd (cc)
judged_decides file name (Whole bytes) next status below end = by (ltb (limit_of file) (length bytes)) refl end
  where
    by : (long : Bool) → ltb (limit_of file) (length bytes) ≡ long → IsEnd (cond long (ends [] 4 (file_line file 0 TooLong)) (next bytes)) status
        → ByJudged file name (Whole bytes) next
    by true e end = absurd (no_end [] 4 (file_line file 0 TooLong) status (omega arith) below end)
    by false e end = record { bytes = bytes; is_whole = refl; leads = rw e refl }

-- what was said decided
said_decides : (r : Result Judged JudgeError) (status : ℕ) → status < 2 → IsEnd (by_judgment r judge_done) status → (said : Judged) × (r ≡ Ok said)
unfolding by_judgment
said_decides (Ok said) status below end = (said, refl)
said_decides (Err (judge_error.Ledger line kind)) status below end = absurd (no_end [] 4 (file_line Ledger line kind) status (omega arith) below end)
said_decides (Err (judge_error.Verdicts line kind)) status below end = absurd (no_end [] 4 (file_line Verdicts line kind) status (omega arith) below end)
said_decides (Err judge_error.OutOfMemory) status below (line, is) = absurd (cc)

judge_claims : JudgmentsAreDecided → (m n o : List ℕ) (old new : World) (first second third : Reading) (status : ℕ)
    → IsRead old new m first → IsRead old new n second → IsRead old new o third → status < 2
    → IsEnd (doing (Judge m n o) (first ∷ second ∷ third ∷ [])) status → Does (doing (Judge m n o) (first ∷ second ∷ third ∷ [])).acts old new
    → JudgeHolds m n o old new status
unfolding doing by_judgment judge_done
judge_claims decided m n o old new first second third status read read_too read_last below end done =
    let P : Progress → Type 0 = λ p. IsEnd p status in
    let on_third : Network → List ℕ → Progress = λ t l. on_judged Verdicts o third (λ v. by_judgment (judgment t l v) judge_done) in
    let on_second : Network → Progress = λ t. on_judged Ledger n second (on_third t) in
    let top = topology_decides m first on_second status below end in
    let t = top.network in
    let end_second : IsEnd (on_second t) status = subst P top.leads end in
    let happened = judged_decides Ledger n second (on_third t) status below end_second in
    let l = happened.bytes in
    let end_third : IsEnd (on_third t l) status = subst P happened.leads end_second in
    let told = judged_decides Verdicts o third (λ v. by_judgment (judgment t l v) judge_done) status below end_third in
    let v = told.bytes in
    let end_last : IsEnd (by_judgment (judgment t l v) judge_done) status = subst P told.leads end_third in
    let (said, is) = said_decides (judgment t l v) status below end_last in
    let leads : doing (Judge m n o) (first ∷ second ∷ third ∷ []) ≡ judge_done said =
    top.leads ∙ (happened.leads ∙ (told.leads ∙ ap (λ r. by_judgment r judge_done) is)) in
    record {
      text = top.bytes;
      happened = l;
      told = v;
      is_topology = file_held old new m first top.bytes top.is_whole read;
      is_ledger = file_held old new n second l happened.is_whole read_too;
      are_verdicts = file_held old new o third v told.is_whole read_last;
      network = t;
      is_network = top.is;
      said = said;
      is_judgment = judgment_holds decided t l v said is;
      report = text_printed (doing (Judge m n o) (first ∷ second ∷ third ∷ [])) (judged_text said) old new (ap (λ (p : Progress). p.acts) leads) done;
      alarm = status_one (is_no said) (is_no said) status refl
          (sym (ap (λ (p : Progress). ended_status p) leads) ∙ ended_at (doing (Judge m n o) (first ∷ second ∷ third ∷ [])) status end);
    }

-- ---- the whole

-- a status below 6 was decided by what was read
decided : (p : Progress) (old new : World) (e f : ErrorSink) (status : ℕ) → EndsBy p old new e f status → status < 2 → IsEnd p status × Does p.acts old new
decided p old new e f status (inl by) below = ((by.line, by.is_ending), by.done)
decided p old new e f status (inr (inl by)) below = absurd (omega (arith, by.is_status, below))
decided p old new e f status (inr (inr by)) below = absurd (omega (arith, by.is_status, below))

hop_holds : (key name : List ℕ) (old new : World) (e f : ErrorSink) (status : ℕ) (readings : List Reading) → AreRead old new (name ∷ []) readings
    → EndsBy (doing (Hop key name) readings) old new e f status → status < 2 → HopHolds key name old new status
hop_holds key name old new e f status [] read by below = absurd read
hop_holds key name old new e f status (reading ∷ []) (read, none) by below =
    let (end, done) = decided _ old new e f status by below in
    hop_claims key name old new reading status read below end done
hop_holds key name old new e f status (reading ∷ second ∷ more) (read, many) by below = absurd many

gen_holds : RunsHold → (seed packets : ℕ) (old new : World) (e f : ErrorSink) (status : ℕ) (readings : List Reading) → packets ≤ 100000 → AreRead old new [] readings
    → EndsBy (doing (Gen seed packets) readings) old new e f status → status < 2 → GenHolds seed packets old new status
gen_holds runs_hold seed packets old new e f status [] few read by below =
    let (end, done) = decided _ old new e f status by below in
    gen_claims runs_hold seed packets old new status few end done
gen_holds runs_hold seed packets old new e f status (reading ∷ more) few read by below = absurd read

judge_holds : JudgmentsAreDecided → (m n o : List ℕ) (old new : World) (e f : ErrorSink) (status : ℕ) (readings : List Reading) → AreRead old new (m ∷ n ∷ o ∷ []) readings
    → EndsBy (doing (Judge m n o) readings) old new e f status → status < 2 → JudgeHolds m n o old new status
judge_holds judgments m n o old new e f status [] read by below = absurd read
judge_holds judgments m n o old new e f status (first ∷ []) (read, none) by below = absurd none
judge_holds judgments m n o old new e f status (first ∷ second ∷ []) (read, (read_too, none)) by below = absurd none
judge_holds judgments m n o old new e f status (first ∷ second ∷ third ∷ []) (read, (read_too, (read_last, none))) by below =
    let (end, done) = decided _ old new e f status by below in
    judge_claims judgments m n o old new first second third status read read_too read_last below end done
judge_holds judgments m n o old new e f status (first ∷ second ∷ third ∷ fourth ∷ more) (read, (read_too, (read_last, many))) by below = absurd many

module _ (runs_hold : RunsHold) (spelled : CommandsAreSpelled) (script_names : ScriptNamesFit) (judged_true : RunsAreJudgedTrue) (judgments : JudgmentsAreDecided) where
  run_holds : (r : RunRequest) (old new : World) (e f : ErrorSink) (status : ℕ) (readings : List Reading) → AreRead old new (reads_of (Run r)) readings
      → EndsBy (doing (Run r) readings) old new e f status → (status < 2 → AllByRecursion RecordsFit (drop 2 readings)) → shares_files (Run r) ≡ false → status < 2 → RunHolds r old new status
  run_holds r old new e f status [] read by fits unshared below = absurd read
  run_holds r old new e f status (first ∷ []) (read, none) by fits unshared below = absurd none
  run_holds r old new e f status (first ∷ second ∷ rest) (read, (read_too, reads)) by fits unshared below =
      let (end, done) = decided _ old new e f status by below in
      run_claims runs_hold spelled script_names judged_true r old new first second rest status read read_too reads (fits below) unshared below end done

  pub holds_under : (words : List (List ℕ)) (request : Option Request) (old new : World) (e f : ErrorSink) (status : ℕ)
      → HasFew request → EndsUnder words request old new e f status → HoldsUnder request old new status
  holds_under words None old new e f status few ended = tt
  holds_under words (Some (Hop key name)) old new e f status few ended = λ below. hop_holds key name old new e f status ended.readings ended.are_read ended.ends below
  holds_under words (Some (Run r)) old new e f status few ended = λ below. run_holds r old new e f status ended.readings ended.are_read ended.ends ended.fits few below
  holds_under words (Some (Gen seed packets)) old new e f status few ended =
      λ below. gen_holds runs_hold seed packets old new e f status ended.readings few ended.are_read ended.ends below
  holds_under words (Some (Judge topology ledger verdicts)) old new e f status few ended =
      λ below. judge_holds judgments topology ledger verdicts old new e f status ended.readings ended.are_read ended.ends below
