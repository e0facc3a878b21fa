-- How commands end, from what their files led to and how their reports were written.
use Rattle.std.proofs.Common.{◌≡◌, ◌⊎◌, ℕ, suc, ◌≤◌, ltb, Bool, List, length, [], ◌∷◌, Option, Some, None, Result, Ok, Err, Contains, count_by, refl, sym, ap, subst, ◌∙◌, inl, inr, arith}
use Rattle.std.specs.Global.{Vec}
use Rattle.std.specs.List.{AllByRecursion}
use Rattle.std.specs.Option.{option_to_list}
use Rattle.std.specs.Prelude.{IfOk}
use Rattle.epic_num.specs.declared.command.Command.{Command}
use Rattle.epic_ports.specs.Faults.{CountsOnly, Rose}
use Rattle.epic_ports.specs.Files.{Files, KeepsFiles}
use Rattle.epic_ports.specs.Written.{Appends}
use Rattle.epic_ports.specs.declared.error.PortError.{PortError}
use Rattle.epic_ports.specs.declared.error.PortError.TheVariants as port_error
use Rattle.epic_topo.specs.Network.{Network}
use Rattle.epic_gen.specs.Topology.{generated_network}
use Rattle.epic_ports.proofs.Appended.{Appends-none}
use Rattle.epic_text.specs.RunScript.{run_rule}
use Rattle.epic_app.specs.declared.end.End.{End}
use Rattle.epic_app.specs.declared.end.End.TheVariants.{Done, BadWords, BadTopology, LongTopology, BadScript, LongScript, BadCapture, BadFile, ReadFault, WriteFault, OutOfMemory}
use Rattle.epic_app.specs.declared.hop_file.HopCommand.{HopCommand}
use Rattle.epic_app.specs.Acts.{World, world}
use Rattle.epic_app.specs.Captures.{RecordsFit}
use Rattle.epic_app.specs.Doing.{Progress, doing, gen_done, hop_done, on_commands, on_topology, run_with, showing}
use Rattle.epic_app.specs.End.{Blames, EndsAs, HasCause, end_after}
use Rattle.epic_app.specs.FilesRead.{IsEarly, Leads, follows}
use Rattle.epic_app.specs.Generating.{gen_text, generated_steps}
use Rattle.epic_app.specs.HopFile.{hop_rule}
use Rattle.epic_app.specs.HopReport.{answers, hop_report, is_forged}
use Rattle.epic_app.specs.Keeping.{kept_by}
use Rattle.epic_app.specs.Kept.{names}
use Rattle.epic_app.specs.Limits.{file_limit, script_limit}
use Rattle.epic_app.specs.Outcome.{CountsStay, FilesStay}
use Rattle.epic_app.specs.Readings.{AreRead, Reading, Unread, IsReading}
use Rattle.epic_app.specs.RunEnding.{RunBlames, RunEnds}
use Rattle.epic_words.specs.Request.{Request, Hop, Run, Gen, RunRequest, reads_of, writes_of}
use Rattle.epic_app.specs.Performing.{Blamed, OthersKeep, Works}
use Rattle.epic_app.specs.RunReport.{has_alarm}
use Rattle.epic_app.specs.Writing.{Writes}
use Rattle.epic_app.proofs.ActFiles.{does_nothing}
use Rattle.epic_app.proofs.Apart.{kept_names}
use Rattle.epic_app.proofs.ActLaws.{memory_first, report_cause}
use Rattle.epic_app.proofs.RanLaws.{blamed_later, cause_read, works_both, works_read}
use Rattle.epic_app.proofs.FileLaws.{keeps_both, keeps_itself, later_by, reading_between}

-- ---- causes

-- an end before anything is done
pub early_cause : {X : Type 0} (next : X → Progress) (name : List ℕ) (before now : ℕ) (old new : World) (end : End) → IsEarly name before now end
    → KeepsFiles old.contents new.contents → Appends old.written new.written [] → HasCause (follows (Err end) next) old new end
early_cause next name before now old new (Done forged) early keeps nothing = absurd early
early_cause next name before now old new BadWords early keeps nothing = absurd early
early_cause next name before now old new (BadTopology kind key item) early keeps nothing = record { is_ending = refl; done = does_nothing old new keeps nothing }
early_cause next name before now old new LongTopology early keeps nothing = record { is_ending = refl; done = does_nothing old new keeps nothing }
early_cause next name before now old new (BadScript line kind) early keeps nothing = record { is_ending = refl; done = does_nothing old new keeps nothing }
early_cause next name before now old new LongScript early keeps nothing = record { is_ending = refl; done = does_nothing old new keeps nothing }
early_cause next name before now old new (BadCapture damage) early keeps nothing = record { is_ending = refl; done = does_nothing old new keeps nothing }
early_cause next name before now old new (BadFile file line kind) early keeps nothing = record { is_ending = refl; done = does_nothing old new keeps nothing }
early_cause next name before now old new (ReadFault told) early keeps nothing = record { is_ending = refl; done = does_nothing old new keeps nothing }
early_cause next name before now old new WriteFault early keeps nothing = absurd early
early_cause next name before now old new OutOfMemory early keeps nothing = memory_first old new keeps nothing

rose_in : (a b c : ℕ) → a ≤ b → Rose b c → Rose a c
rose_in a b c low rose = grind (arith, low, rose)

pub early_blames : (request : Request) (name : List ℕ) (before : ℕ) (old new : World) (end : End) → IsEarly name before (new.reads name) end
    → Contains (reads_of request) name → old.reads name ≤ before → Blames request old new end
early_blames request name before old new (Done forged) early reads low = tt
early_blames request name before old new BadWords early reads low = tt
early_blames request name before old new (BadTopology kind key item) early reads low = tt
early_blames request name before old new LongTopology early reads low = tt
early_blames request name before old new (BadScript line kind) early reads low = tt
early_blames request name before old new LongScript early reads low = tt
early_blames request name before old new (BadCapture damage) early reads low = tt
early_blames request name before old new (BadFile file line kind) early reads low = tt
early_blames request name before old new (ReadFault told) (is, rose) reads low =
    let P : List ℕ → Type 0 = λ q. Contains (reads_of request) q × Rose (old.reads q) (new.reads q) in
    subst P (sym is) (reads, rose_in (old.reads name) before (new.reads name) low rose)
early_blames request name before old new WriteFault early reads low = absurd early
early_blames request name before old new OutOfMemory early reads low = tt

pub report_blames : (request : Request) (text : List ℕ) (old new : World) (r : Result Bool PortError)
    → Writes text old.written new.written old.faults new.faults r → Blames request old new (end_after r)
report_blames request text old new (Ok b) writes = tt
report_blames request text old new (Err port_error.Failed) (less, rose) = inl rose
report_blames request text old new (Err port_error.OutOfMemory) writes = tt

pub files_stay : (request : Request) (old new : Option Files) → KeepsFiles old new → FilesStay request old new
files_stay request None new keeps = tt
files_stay request (Some old) None keeps = keeps
files_stay request (Some old) (Some new) keeps = λ name absent. ap (λ (files : Files). files name) keeps

pub cause_by : (p q : Progress) (old new : World) (end : End) → p ≡ q → HasCause q old new end → HasCause p old new end
cause_by p q old new end same cause = let P : Progress → Type 0 = λ x. HasCause x old new end in subst P (sym same) cause

-- ---- the command `hop`

one_of : (name q : List ℕ) → q ≡ name → Contains (name ∷ []) q
one_of name q e = (0, omega arith, sym e)

module _ (key name : List ℕ) (old new : World) (keeps : KeepsFiles old.contents new.contents) (only : CountsOnly name old.reads new.reads) (same : new.writes ≡ old.writes) where
  hop_counts : CountsStay (Hop key name) old new
  hop_counts = record {
    reads = λ q absent. only.others q (λ e. absent (one_of name q e));
    writes = λ q absent. ap (λ (counts : List ℕ → ℕ). counts q) same;
  }

  pub hop_refused : (end : End)
      → Leads {X = Vec HopCommand} old.contents name (old.reads name) (new.reads name) (on_commands name file_limit hop_rule) (λ v. v.items) (Err end)
      → Appends old.written new.written [] → EndsAs (Hop key name) old new end
  unfolding doing
  hop_refused end file nothing = record {
    readings = file.reading ∷ [];
    are_read = (file.is_reading, tt);
    cause = cause_by _ _ old new end (file.leads (hop_done key)) (early_cause {X = Vec HopCommand} (λ v. hop_done key v.items) name (old.reads name) (new.reads name) old new end file.early keeps nothing);
    blames = early_blames (Hop key name) name (old.reads name) old new end file.early (one_of name name refl) (omega arith);
    fits = λ below. tt;
    counts = hop_counts;
    files = files_stay (Hop key name) old.contents new.contents keeps;
  }

  pub hop_answered : (commands : Vec HopCommand) (r : Result Bool PortError)
      → Leads old.contents name (old.reads name) (new.reads name) (on_commands name file_limit hop_rule) (λ v. v.items) (Ok commands)
      → Writes (hop_report key commands.items) old.written new.written old.faults new.faults r
      → IfOk r (λ forged. forged ≡ ltb 0 (count_by is_forged (answers key commands.items)))
      → EndsAs (Hop key name) old new (end_after r)
  unfolding doing hop_done
  hop_answered commands r file writes alarm = record {
    readings = file.reading ∷ [];
    are_read = (file.is_reading, tt);
    cause = cause_by _ _ old new (end_after r) (file.leads (hop_done key))
        (report_cause (hop_report key commands.items) (ltb 0 (count_by is_forged (answers key commands.items))) old new r keeps writes alarm);
    blames = report_blames (Hop key name) (hop_report key commands.items) old new r writes;
    fits = λ below. tt;
    counts = hop_counts;
    files = files_stay (Hop key name) old.contents new.contents keeps;
  }

-- ---- the command `gen`

-- its two lines were written, or less of them
pub gen_answered : (seed packets : ℕ) (contents : Option Files) (reads writes : List ℕ → ℕ) (before after : Option (List ℕ)) (m n : ℕ) (text : List ℕ) (r : Result Bool PortError)
    → text ≡ gen_text (generated_network seed) (generated_steps seed packets) → Writes text before after m n r
    → IfOk r (λ alarm. alarm ≡ has_alarm (generated_steps seed packets))
    → EndsAs (Gen seed packets) (world contents reads writes before m) (world contents reads writes after n) (end_after r)
unfolding doing gen_done
gen_answered seed packets contents reads writes before after m n text r is written alarm =
    let old = world contents reads writes before m in
    let new = world contents reads writes after n in
    let whole = gen_text (generated_network seed) (generated_steps seed packets) in
    let lines : Writes whole before after m n r = subst (λ t. Writes t before after m n r) is written in
    record {
      readings = [];
      are_read = tt;
      cause = report_cause whole (has_alarm (generated_steps seed packets)) old new r (keeps_itself contents) lines alarm;
      blames = report_blames (Gen seed packets) whole old new r lines;
      fits = λ below. tt;
      counts = record { reads = λ q absent. refl; writes = λ q absent. refl };
      files = files_stay (Gen seed packets) contents contents (keeps_itself contents);
    }

-- memory was wanting before anything was written
pub gen_memory : (seed packets : ℕ) (w : World) → EndsAs (Gen seed packets) w w OutOfMemory
gen_memory seed packets w = record {
  readings = [];
  are_read = tt;
  cause = record { before = []; after = _; order = refl; done = does_nothing w w (keeps_itself w.contents) (Appends-none w.written) };
  blames = tt;
  fits = λ below. tt;
  counts = record { reads = λ q absent. refl; writes = λ q absent. refl };
  files = files_stay (Gen seed packets) w.contents w.contents (keeps_itself w.contents);
}

-- ---- the command `run`

first_of : (m n : List ℕ) (more : List (List ℕ)) (q : List ℕ) → q ≡ m → Contains (m ∷ n ∷ more) q
first_of m n more q e = (0, omega arith, sym e)

second_of : (m n : List ℕ) (more : List (List ℕ)) (q : List ℕ) → q ≡ n → Contains (m ∷ n ∷ more) q
second_of m n more q e = (1, omega arith, sym e)

behind_two : (m n : List ℕ) (more : List (List ℕ)) (q : List ℕ) → Contains more q → Contains (m ∷ n ∷ more) q
behind_two m n more q (k, within, is) = (suc (suc k), omega (arith, within), is)

-- a capture that was not looked at, if one is named
abbrev unread : Option (List ℕ) → List Reading
unread None = []
unread (Some name) = Unread ∷ []

unread_is : (capture : Option (List ℕ)) (old new : World) → AreRead old new (option_to_list capture) (unread capture)
unread_is None old new = tt
unread_is (Some name) old new = (tt, tt)

unread_fits : (capture : Option (List ℕ)) → AllByRecursion RecordsFit (unread capture)
unread_fits None = tt
unread_fits (Some name) = (tt, tt)

-- the counts that a run blames
run_blames : (r : RunRequest) (old late new : World) (end : End) → RunBlames r.capture (kept_by r) late new end → Works (kept_by r) old late
    → ((q : List ℕ) → old.reads q ≤ late.reads q) → Blames (Run r) old new end
run_blames r old late new (Done forged) blames works later = tt
run_blames r old late new BadWords blames works later = tt
run_blames r old late new (BadTopology kind key item) blames works later = tt
run_blames r old late new LongTopology blames works later = tt
run_blames r old late new (BadScript line kind) blames works later = tt
run_blames r old late new LongScript blames works later = tt
run_blames r old late new (BadCapture damage) blames works later = tt
run_blames r old late new (BadFile file line kind) blames works later = tt
run_blames r old late new (ReadFault name) (is, rose) works later =
    (behind_two r.topology r.script (option_to_list r.capture) name.now is, rose_in (old.reads name.now) (late.reads name.now) (new.reads name.now) (later name.now) rose)
run_blames r old late new WriteFault blames works later = by (blamed_later (kept_by r) old late new works blames)
  where
    by : Blamed (kept_by r) old new → Rose old.faults new.faults ⊎ ((name : List ℕ) × Contains (writes_of (Run r)) name × Rose (old.writes name) (new.writes name))
    by (inl rose) = inl rose
    by (inr (name, among, rose)) = inr (name, subst (λ (all : List (List ℕ)). Contains all name) (kept_names r) among, rose)
run_blames r old late new OutOfMemory blames works later = tt

-- a file that isn't written isn't kept
not_kept : (r : RunRequest) (q : List ℕ) → ¬ Contains (writes_of (Run r)) q → ¬ Contains (names (kept_by r)) q
not_kept r q absent = λ among. absent (subst (λ (all : List (List ℕ)). Contains all q) (kept_names r) among)

-- files other than those that are kept stay
others_files : (r : RunRequest) (old new : Option Files) → OthersKeep (kept_by r) old new → FilesStay (Run r) old new
others_files r None new others = tt
others_files r (Some f) None others = absurd others
others_files r (Some f) (Some g) others = λ q absent. others q (not_kept r q absent)

-- a reading of the capture stays one
captures_read : (capture : Option (List ℕ)) (readings : List Reading) (old late new : World) → KeepsFiles old.contents late.contents
    → ((q : List ℕ) → old.reads q ≤ late.reads q) → AreRead late new (option_to_list capture) readings → AreRead old new (option_to_list capture) readings
captures_read None [] old late new keeps later read = tt
captures_read None (reading ∷ more) old late new keeps later read = absurd read
captures_read (Some name) [] old late new keeps later read = absurd read
captures_read (Some name) (reading ∷ []) old late new keeps later (read, none) =
    (reading_between old.contents late.contents name (old.reads name) (late.reads name) (new.reads name) (new.reads name) reading keeps (later name) (omega arith) read, tt)
captures_read (Some name) (reading ∷ second ∷ more) old late new keeps later (read, many) = absurd many

-- where the topology ends the command
pub run_refused_first : (r : RunRequest) (old new : World) (end : End)
    → KeepsFiles old.contents new.contents → CountsOnly r.topology old.reads new.reads → new.writes ≡ old.writes
    → Leads {X = Network} old.contents r.topology (old.reads r.topology) (new.reads r.topology) (on_topology r.topology) (λ t. t) (Err end)
    → Appends old.written new.written [] → EndsAs (Run r) old new end
unfolding doing
run_refused_first r old new end keeps only same file nothing =
    let m = r.topology in
    let n = r.script in
    let rest = option_to_list r.capture in
    let next : Network → Progress = λ t. on_commands n script_limit run_rule Unread (run_with r (unread r.capture) t) in
    record {
      readings = file.reading ∷ Unread ∷ unread r.capture;
      are_read = (file.is_reading, (tt, unread_is r.capture old new));
      cause = cause_by _ _ old new end (file.leads next) (early_cause {X = Network} next m (old.reads m) (new.reads m) old new end file.early keeps nothing);
      blames = early_blames (Run r) m (old.reads m) old new end file.early (first_of m n rest m refl) (omega arith);
      fits = λ below. unread_fits r.capture;
      counts = record {
        reads = λ q absent. only.others q (λ e. absent (first_of m n rest q e));
        writes = λ q absent. ap (λ (counts : List ℕ → ℕ). counts q) same;
      };
      files = files_stay (Run r) old.contents new.contents keeps;
    }

-- where both files were looked at; between the two the world was `mid`, and behind them `late`
module _ (r : RunRequest) (old mid late : World) (keeps : KeepsFiles old.contents mid.contents) (keeps_on : KeepsFiles mid.contents late.contents)
    (first : CountsOnly r.topology old.reads mid.reads) (second : CountsOnly r.script mid.reads late.reads) (same : mid.writes ≡ old.writes) (same_on : late.writes ≡ mid.writes)
    (t : Network) (file : Leads {X = Network} old.contents r.topology (old.reads r.topology) (mid.reads r.topology) (on_topology r.topology) (λ t. t) (Ok t)) where
  abbrev m : List ℕ
  m = r.topology

  abbrev n : List ℕ
  n = r.script

  abbrev rest : List (List ℕ)
  rest = option_to_list r.capture

  read_counts : (q : List ℕ) → ¬ Contains (m ∷ n ∷ rest) q → late.reads q ≡ old.reads q
  read_counts q absent = second.others q (λ e. absent (second_of m n rest q e)) ∙ first.others q (λ e. absent (first_of m n rest q e))

  all_keeps : KeepsFiles old.contents late.contents
  all_keeps = keeps_both old.contents mid.contents late.contents keeps keeps_on

  all_later : (q : List ℕ) → old.reads q ≤ late.reads q
  all_later q = omega (arith, later_by m q old.reads mid.reads first, later_by n q mid.reads late.reads second)

  -- a reading of the topology or the script stays one
  reads_first : (now : ℕ) → late.reads m ≤ now → IsReading old.contents m (old.reads m) now file.reading
  reads_first now later =
      reading_between old.contents old.contents m (old.reads m) (old.reads m) (mid.reads m) now file.reading
      (keeps_itself old.contents) (omega arith) (omega (arith, later_by n m mid.reads late.reads second, later)) file.is_reading

  reads_second : (reading : Reading) (now : ℕ) → late.reads n ≤ now → IsReading mid.contents n (mid.reads n) (late.reads n) reading
      → IsReading old.contents n (old.reads n) now reading
  reads_second reading now later is =
      reading_between old.contents mid.contents n (old.reads n) (mid.reads n) (late.reads n) now reading
      keeps (later_by m n old.reads mid.reads first) later is

  pub run_refused_second : (end : End)
      → Leads {X = Vec Command} mid.contents n (mid.reads n) (late.reads n) (on_commands n script_limit run_rule) (λ v. v.items) (Err end)
      → Appends old.written late.written [] → EndsAs (Run r) old late end
  unfolding doing
  run_refused_second end script nothing =
      let next : List Command → Progress = run_with r (unread r.capture) t in
      record {
        readings = file.reading ∷ script.reading ∷ unread r.capture;
        are_read = (reads_first (late.reads m) (omega arith), (reads_second script.reading (late.reads n) (omega arith) script.is_reading, unread_is r.capture old late));
        cause = cause_by _ _ old late end (file.leads (λ t. on_commands n script_limit run_rule script.reading (run_with r (unread r.capture) t)) ∙ script.leads next)
            (early_cause {X = Vec Command} (λ v. next v.items) n (mid.reads n) (late.reads n) old late end script.early all_keeps nothing);
        blames = early_blames (Run r) n (mid.reads n) old late end script.early (second_of m n rest n refl) (later_by m n old.reads mid.reads first);
        fits = λ below. unread_fits r.capture;
        counts = record {
          reads = read_counts;
          writes = λ q absent. ap (λ (counts : List ℕ → ℕ). counts q) (same_on ∙ same);
        };
        files = files_stay (Run r) old.contents late.contents all_keeps;
      }

  pub run_answered : (new : World) (commands : Vec Command) (end : End)
      → Leads mid.contents n (mid.reads n) (late.reads n) (on_commands n script_limit run_rule) (λ v. v.items) (Ok commands)
      → Appends old.written late.written [] → old.faults ≤ late.faults
      → RunEnds r.capture (kept_by r) (showing r (length commands.items)) t commands.items late new end → EndsAs (Run r) old new end
  unfolding doing
  run_answered new commands end script nothing faults ended =
      let works : Works (kept_by r) old late = works_read (kept_by r) old late all_keeps faults (same_on ∙ same) in
      let next : List Command → Progress = run_with r ended.readings t in
      record {
        readings = file.reading ∷ script.reading ∷ ended.readings;
        are_read = (
          reads_first (new.reads m) (ended.later m),
          (
            reads_second script.reading (new.reads n) (ended.later n) script.is_reading,
            captures_read r.capture ended.readings old late new all_keeps all_later ended.are_read,
          ),
        );
        cause = cause_by _ _ old new end
            (file.leads (λ t. on_commands n script_limit run_rule script.reading (run_with r ended.readings t)) ∙ script.leads next)
            (cause_read (next commands.items) old late new end (does_nothing old late all_keeps nothing) works ended.cause);
        blames = run_blames r old late new end ended.blames works all_later;
        fits = ended.fits;
        counts = record {
          reads = λ q absent. ended.reads q (λ is. absent (behind_two m n rest q is)) ∙ read_counts q absent;
          writes = λ q absent. ended.works.others q (not_kept r q absent) ∙ ap (λ (counts : List ℕ → ℕ). counts q) (same_on ∙ same);
        };
        files = others_files r old.contents new.contents (works_both (kept_by r) old late new works ended.works).files;
      }
