-- How a run ends behind its script: with the records of a capture, or with none.
use Rattle.std.proofs.Common.{◌≡◌, ◌⊎◌, ℕ, ◌+◌, ◌*◌, ◌<◌, ◌≤◌, ◌^◌, Bool, ltb, ◌||◌, List, [], ◌∷◌, ◌++◌, length, Option, Some, None, Result, Ok, Err, Contains, refl, sym, ap, subst, ◌∙◌, inl, inr, append-nil, append_assoc, length-append, arith}
use Rattle.std.specs.Prelude.{IfOk}
use Rattle.std.specs.List.{list_any}
use Rattle.std.proofs.lemmas.List.Folds.{list_any-append}
use Rattle.epic_num.specs.declared.command.Command.{Command}
use Rattle.epic_capture.specs.Records.{Captured}
use Rattle.epic_feed.specs.declared.damage.Damage.{Damage}
use Rattle.epic_feed.specs.Feeding.{OfFile, OfFront, TookAll, TookSome, StoppedAt, capture_in}
use Rattle.epic_feed.specs.Forms.{records_in}
use Rattle.epic_ports.specs.Faults.{CountsOnly, Rose}
use Rattle.epic_ports.specs.Files.{Files, KeepsFiles, bytes_or_none}
use Rattle.epic_ports.specs.declared.error.PortError.{PortError}
use Rattle.epic_ports.specs.declared.error.PortError.TheVariants.{Failed as NotDone, OutOfMemory as NoMemory}
use Rattle.epic_topo.specs.Network.{Network}
use Rattle.epic_text.specs.declared.counts.Counts.{Counts}
use Rattle.epic_text.specs.Counts.{counts_of, end_line, total}
use Rattle.epic_feed.proofs.Few.{few_records}
use Rattle.epic_model.specs.State.{start}
use Rattle.epic_world.specs.Run.{Done as DoneStep, run, run_from, state_after}
use Rattle.epic_app.specs.Keeping.{kept_in}
use Rattle.epic_app.specs.Kept.{Kept, names, opening}
use Rattle.epic_app.specs.declared.end.End.{End}
use Rattle.epic_app.specs.declared.end.End.TheVariants.{Done, BadWords, BadTopology, LongTopology, BadScript, LongScript, BadCapture, BadFile, ReadFault, WriteFault, OutOfMemory}
use Rattle.epic_app.specs.declared.taking.Records.{Records}
use Rattle.epic_app.specs.Showing.{Showing}
use Rattle.epic_app.specs.Acts.{Act, World, Does, StopsBefore, prints}
use Rattle.epic_app.specs.Along.{along}
use Rattle.epic_app.specs.Captures.{records_commands, run_commands, shown}
use Rattle.epic_app.specs.Doing.{Progress, by_records, on_capture, run_acts, run_by, run_cut, run_done, step_acts, steps_acts}
use Rattle.epic_app.specs.End.{HasCause, end_after, status_of}
use Rattle.epic_app.specs.FaultLines.{read_line}
use Rattle.epic_app.specs.Noting.{shows_alarm}
use Rattle.epic_app.specs.Performing.{OthersKeep, Performs, Stopped, Works}
use Rattle.epic_app.specs.Readings.{Whole, Failed, Unread, Holds, Begins}
use Rattle.epic_app.specs.RunEnding.{IsBehind, RunBlames, RunEnds}
use Rattle.epic_app.specs.RunReport.{all_verdicts, has_alarm, run_alarms}
use Rattle.epic_app.specs.StepLines.{count_all}
use Rattle.epic_app.specs.Taking.{Ran, StopsIn, acts_of}
use Rattle.epic_app.specs.Writing.{Writes}
use Rattle.epic_app.proofs.ActFiles.{does_both}
use Rattle.epic_app.proofs.AlongLaws.{along-append}
use Rattle.epic_app.proofs.ActLaws.{acts_cause}
use Rattle.epic_app.proofs.Acting.{performs_works, prints_performed, stopped_later, stopped_more}
use Rattle.epic_app.proofs.FileLaws.{later_by, rose_between}
use Rattle.epic_app.proofs.RanLaws.{records-append, stops_more, two_each, verdicts-append, works_both}
use Rattle.epic_app.proofs.RunLemmas.{alarms, count_all-counts, length-run_from, run_from-append}

-- ---- a file that isn't saved

pub holds_so : (kept : List Kept) (old new : Option Files) (name bytes : List ℕ) → OthersKeep kept old new → ¬ Contains (names kept) name
    → Holds new name bytes → Holds old name bytes
holds_so kept None new name bytes others absent holds = tt
holds_so kept (Some f) None name bytes others absent holds = absurd others
holds_so kept (Some f) (Some g) name bytes others absent holds = sym (others name absent) ∙ holds

pub begins_so : (kept : List Kept) (old new : Option Files) (name front : List ℕ) → OthersKeep kept old new → ¬ Contains (names kept) name
    → Begins new name front → Begins old name front
begins_so kept None new name front others absent begins = tt
begins_so kept (Some f) None name front others absent begins = absurd others
begins_so kept (Some f) (Some g) name front others absent (rest, is) = (rest, ap bytes_or_none (sym (others name absent)) ∙ is)

-- ---- causes of ends

-- the end of a run that stopped
pub cause_stopped : (kept : List Kept) (p : Progress) (old new : World) (e : PortError) → Stopped kept p.acts old new e
    → HasCause p old new (end_after (Err e))
cause_stopped kept p old new NotDone (stops, blamed) = stops
cause_stopped kept p old new NoMemory stops = stops

pub blames_stopped : (capture : Option (List ℕ)) (kept : List Kept) (acts : List Act) (old new : World) (e : PortError) → Stopped kept acts old new e
    → RunBlames capture kept old new (end_after (Err e))
blames_stopped capture kept acts old new NotDone (stops, blamed) = blamed
blames_stopped capture kept acts old new NoMemory stops = tt

blames_performed : (capture : Option (List ℕ)) (kept : List Kept) (acts : List Act) (old new : World) (r : Result Bool PortError) → Performs kept acts old new r
    → RunBlames capture kept old new (end_after r)
blames_performed capture kept acts old new (Ok b) done = tt
blames_performed capture kept acts old new (Err e) stops = blames_stopped capture kept acts old new e stops

pub not_done : (e : PortError) → status_of (end_after (Err e)) < 2 → ⊥
not_done NotDone below = omega (arith, below)
not_done NoMemory below = omega (arith, below)

length_records : (commands : List Command) (xs : List Captured) → length (run_commands commands xs) ≡ length commands + length (records_commands xs)
unfolding run_commands
length_records commands xs = length-append commands (records_commands xs)

module _ (x : Records) (t : Network) (commands : List Command) (u old : World) (b : IsBehind x t commands u old) where
  abbrev kept : List Kept
  kept = kept_in x.keep

  abbrev show : Showing
  show = x.show

  -- the script's steps, and the acts of the script, and of all with these records
  abbrev script_steps : List DoneStep
  script_steps = run t commands

  abbrev script_acts : List Act
  script_acts = steps_acts kept show t script_steps

  abbrev all_acts : List Captured → List Act
  all_acts xs = steps_acts kept show t (run t (run_commands commands xs))

  all_are : (xs : List Captured) → all_acts xs ≡ script_acts ++ acts_of x script_steps (records_commands xs)
  unfolding steps_acts run run_commands
  all_are xs =
      let f = step_acts kept show t in
      let cs = records_commands xs in
      let steps = run_from t start commands in
      let front = along f [] steps in
      let back : acts_of x steps cs ≡ along f steps (run_from t (state_after t start commands) cs)
      = λ k. along (step_acts kept show (b.network k)) steps (run_from (b.network k) (b.state k) cs) in
      ap (λ ds. opening kept ++ along f [] ds) (run_from-append t start commands cs)
      ∙ (ap (λ acts. opening kept ++ acts) (along-append f [] steps (run_from t (state_after t start commands) cs))
      ∙ (ap (λ acts. opening kept ++ (front ++ acts)) (sym back) ∙ sym (append_assoc (opening kept) front (acts_of x steps cs))))

  -- all were done
  pub all_done : (y : Records) (xs : List Captured) (new : World) → Ran x y (records_commands xs) old new → Does (all_acts xs) u new
  all_done y xs new ran =
      subst (λ (acts : List Act). Does acts u new) (sym (all_are xs))
      (does_both script_acts (acts_of x script_steps (records_commands xs)) u old new b.done (ran.acts script_steps b.police))

  -- less was done of some records and those behind them
  pub all_stopped : (xs ys : List Captured) (e : PortError) (new : World) → StopsIn x (records_commands xs) e old new → Stopped kept (all_acts (xs ++ ys)) u new e
  all_stopped xs ys e new stops =
      let more = subst (λ (cs : List Command). StopsIn x cs e old new) (sym (records-append xs ys)) (stops_more x (records_commands xs) (records_commands ys) e old new stops) in
      subst (λ (acts : List Act). Stopped kept acts u new e) (sym (all_are (xs ++ ys)))
      (stopped_later kept script_acts (acts_of x script_steps (records_commands (xs ++ ys))) u old new e b.done b.works (more.0 script_steps b.police))

  -- some records were done
  pub all_before : (y : Records) (xs ys : List Captured) (new : World) → Ran x y (records_commands xs) old new → StopsBefore (all_acts (xs ++ ys)) u new
  all_before y xs ys new ran =
      let f = step_acts kept show x.world.network in
      let front = run_from x.world.network x.world.state (records_commands xs) in
      let back = run_from x.world.network (state_after x.world.network x.world.state (records_commands xs)) (records_commands ys) in
      let rest = along f (script_steps ++ front) back in
      record {
        before = all_acts xs;
        after = rest;
        order = all_are (xs ++ ys)
            ∙ (ap (λ cs. script_acts ++ acts_of x script_steps cs) (records-append xs ys)
            ∙ (ap (λ steps. script_acts ++ along f script_steps steps) (run_from-append x.world.network x.world.state (records_commands xs) (records_commands ys))
            ∙ (ap (λ acts. script_acts ++ acts) (along-append f script_steps front back)
            ∙ (sym (append_assoc script_acts (acts_of x script_steps (records_commands xs)) rest) ∙ ap (λ acts. acts ++ rest) (sym (all_are xs))))));
        done = all_done y xs new ran;
      }

  -- the acts of records that a capture's damage or end follows
  more_acts : (xs : List Captured) (damage : Option Damage) → (more : List Act) × ((by_records kept show t commands xs damage).acts ≡ all_acts xs ++ more)
  unfolding by_records run_done run_cut run_acts steps_acts
  more_acts xs None = (_, sym (append_assoc (opening kept) (along (step_acts kept show t) [] (run t (run_commands commands xs))) _))
  more_acts xs (Some e) = ([], sym (append-nil (all_acts xs)))

  pub records_stopped : (xs ys : List Captured) (damage : Option Damage) (e : PortError) (new : World) → StopsIn x (records_commands xs) e old new
      → Stopped kept (by_records kept show t commands (xs ++ ys) damage).acts u new e
  records_stopped xs ys damage e new stops =
      let (more, is) = more_acts (xs ++ ys) damage in
      subst (λ (acts : List Act). Stopped kept acts u new e) (sym is) (stopped_more kept (all_acts (xs ++ ys)) more u new e (all_stopped xs ys e new stops))

  pub records_before : (y : Records) (xs ys : List Captured) (damage : Option Damage) (new : World) → Ran x y (records_commands xs) old new
      → StopsBefore (by_records kept show t commands (xs ++ ys) damage).acts u new
  records_before y xs ys damage new ran =
      let (more, is) = more_acts (xs ++ ys) damage in
      subst (λ (acts : List Act). Stopped kept acts u new NoMemory) (sym is)
      (stopped_more kept (all_acts (xs ++ ys)) more u new NoMemory (all_before y xs ys new ran))

  -- ---- the last line

  module _ (y : Records) (xs : List Captured) (mid : World) (ran : Ran x y (records_commands xs) old mid) where
    abbrev steps : List DoneStep
    steps = run t (run_commands commands xs)

    counts_are : y.tally.counts ≡ counts_of 0 (all_verdicts steps)
    unfolding run run_commands
    counts_are =
        let cs = records_commands xs in
        let back = run_from t (state_after t start commands) cs in
        ran.counts
        ∙ ((λ k. count_all (b.counts k) (all_verdicts (run_from (b.network k) (b.state k) cs)))
        ∙ (count_all-counts 0 (all_verdicts (run_from t start commands)) (all_verdicts back)
        ∙ ap (counts_of 0) (sym (ap all_verdicts (run_from-append t start commands cs) ∙ verdicts-append (run_from t start commands) back))))

    makers_are : y.tally.alarm ≡ list_any (shows_alarm show t) steps
    unfolding run run_commands
    makers_are =
        let cs = records_commands xs in
        let f = shows_alarm show t in
        let back = run_from t (state_after t start commands) cs in
        ran.alarm
        ∙ ((λ k. b.alarm k || list_any (shows_alarm show (b.network k)) (run_from (b.network k) (b.state k) cs))
        ∙ sym (ap (list_any f) (run_from-append t start commands cs) ∙ list_any-append f (run_from t start commands) back))

    steps_are : y.world.state.steps ≡ length steps
    unfolding run
    steps_are = omega (arith, ran.steps, b.steps, length_records commands xs, length-run_from t start (run_commands commands xs))

    line_is : end_line (record y.tally.counts { steps = shown y.show.script y.world.state.steps }) ≡ end_line (counts_of (shown show.script (length steps)) (all_verdicts steps))
    line_is = λ k. end_line (record (counts_are k) { steps = shown (ran.show k).script (steps_are k) })

    alarm_is : (ltb 0 y.tally.counts.forged || ltb 0 y.tally.counts.collided) || y.tally.alarm ≡ run_alarms show t steps
    unfolding run_alarms has_alarm
    alarm_is = λ k. (ap (λ (c : Counts). ltb 0 c.forged || ltb 0 c.collided) counts_are ∙ alarms (all_verdicts steps)) k || makers_are k

    module _ (new : World) (r : Result Bool PortError) (keeps : KeepsFiles mid.contents new.contents)
        (writes : Writes (end_line (record y.tally.counts { steps = shown y.show.script y.world.state.steps })) mid.written new.written mid.faults new.faults r)
        (alarm : IfOk r (λ forged. forged ≡ (ltb 0 y.tally.counts.forged || ltb 0 y.tally.counts.collided) || y.tally.alarm)) where
      performed : Performs kept (run_acts kept show t steps) u new r
      unfolding run_acts steps_acts
      performed =
          let line = end_line (counts_of (shown show.script (length steps)) (all_verdicts steps)) in
          let written : Performs kept (prints line) mid new r = subst (λ (text : List ℕ). Performs kept (prints text) mid new r) line_is
          (prints_performed kept (end_line (record y.tally.counts { steps = shown y.show.script y.world.state.steps })) mid new r keeps writes) in
          subst (λ (acts : List Act). Performs kept acts u new r)
          (append_assoc (opening kept) (along (step_acts kept show t) [] steps) (prints line))
          (performs_works kept (all_acts xs) (prints line) u mid new r (all_done y xs mid ran) (works_both kept u old mid b.works ran.works) written)

      told_alarm : (q : Result Bool PortError) → IfOk q (λ forged. forged ≡ (ltb 0 y.tally.counts.forged || ltb 0 y.tally.counts.collided) || y.tally.alarm)
          → IfOk q (λ forged. forged ≡ run_alarms show t steps)
      told_alarm (Ok forged) is = is ∙ alarm_is
      told_alarm (Err e) is = tt

      pub finish_cause : HasCause (run_done kept show t commands xs) u new (end_after r)
      unfolding run_done
      finish_cause = acts_cause kept (run_acts kept show t steps) (run_alarms show t steps) u new r performed (told_alarm r alarm)

      pub finish_blames : (capture : Option (List ℕ)) → RunBlames capture kept u new (end_after r)
      finish_blames capture = blames_performed capture kept (run_acts kept show t steps) u new r performed

-- ---- a run with no capture

-- the script's commands alone
no_records : (commands : List Command) → run_commands commands [] ≡ commands
unfolding run_commands records_commands
no_records commands = append-nil commands

pub run_alone : (x : Records) (t : Network) (commands : List Command) (u old new : World) (r : Result Bool PortError) → IsBehind x t commands u old
    → Ran x x (records_commands []) old old → KeepsFiles old.contents new.contents
    → Writes (end_line (record x.tally.counts { steps = shown x.show.script x.world.state.steps })) old.written new.written old.faults new.faults r
    → IfOk r (λ forged. forged ≡ (ltb 0 x.tally.counts.forged || ltb 0 x.tally.counts.collided) || x.tally.alarm) → new.reads ≡ old.reads → Works (kept_in x.keep) old new
    → RunEnds None (kept_in x.keep) x.show t commands u new (end_after r)
unfolding run_by
run_alone x t commands u old new r b ran keeps writes alarm reads works = record {
  readings = [];
  are_read = tt;
  cause = finish_cause x t commands u old b x [] old ran new r keeps writes alarm;
  blames = finish_blames x t commands u old b x [] old ran new r keeps writes alarm None;
  fits = λ below. tt;
  later = λ q. omega (arith, ap (λ (counts : List ℕ → ℕ). counts q) (reads ∙ b.reads));
  reads = λ q absent. ap (λ (counts : List ℕ → ℕ). counts q) (reads ∙ b.reads);
  works = works_both (kept_in x.keep) u old new b.works works;
}

-- a run that stopped in its script
pub run_stopped : (capture : Option (List ℕ)) (kept : List Kept) (show : Showing) (t : Network) (commands : List Command) (old new : World) (e : PortError)
    → Stopped kept (steps_acts kept show t (run t commands)) old new e → new.reads ≡ old.reads → Works kept old new
    → RunEnds capture kept show t commands old new (end_after (Err e))
unfolding run_by on_capture run_done run_acts steps_acts run_commands records_commands run
run_stopped None kept show t commands old new e stops reads works =
    let steps = run_from t start (commands ++ []) in
    let all : run_from t start commands ≡ steps = ap (run_from t start) (sym (append-nil commands)) in
    let end = prints (end_line (counts_of (shown show.script (length steps)) (all_verdicts steps))) in
    let less : Stopped kept (opening kept ++ (along (step_acts kept show t) [] steps ++ end)) old new e =
    subst (λ (acts : List Act). Stopped kept acts old new e)
    (ap (λ ds. (opening kept ++ along (step_acts kept show t) [] ds) ++ end) all ∙ append_assoc (opening kept) (along (step_acts kept show t) [] steps) end)
    (stopped_more kept (opening kept ++ along (step_acts kept show t) [] (run_from t start commands)) end old new e stops) in
    record {
      readings = [];
      are_read = tt;
      cause = cause_stopped kept (run_done kept show t commands []) old new e less;
      blames = blames_stopped None kept _ old new e less;
      fits = λ below. absurd (not_done e below);
      later = λ q. omega (arith, ap (λ (counts : List ℕ → ℕ). counts q) reads);
      reads = λ q absent. ap (λ (counts : List ℕ → ℕ). counts q) reads;
      works = works;
    }
run_stopped (Some name) kept show t commands old new e stops reads works = record {
  readings = Unread ∷ [];
  are_read = (tt, tt);
  cause = cause_stopped kept (on_capture name Unread kept show t commands) old new e stops;
  blames = blames_stopped (Some name) kept _ old new e stops;
  fits = λ below. absurd (not_done e below);
  later = λ q. omega (arith, ap (λ (counts : List ℕ → ℕ). counts q) reads);
  reads = λ q absent. ap (λ (counts : List ℕ → ℕ). counts q) reads;
  works = works;
}

-- ---- a run with a capture

-- a read of this file failed
abbrev IsFaultOf : List ℕ → End → Type 0
IsFaultOf name (ReadFault told) = told.now ≡ name
IsFaultOf name (Done forged) = ⊥
IsFaultOf name BadWords = ⊥
IsFaultOf name (BadTopology kind key item) = ⊥
IsFaultOf name LongTopology = ⊥
IsFaultOf name (BadScript line kind) = ⊥
IsFaultOf name LongScript = ⊥
IsFaultOf name (BadCapture damage) = ⊥
IsFaultOf name (BadFile file line kind) = ⊥
IsFaultOf name WriteFault = ⊥
IsFaultOf name OutOfMemory = ⊥

module _ (x : Records) (t : Network) (commands : List Command) (u old : World) (b : IsBehind x t commands u old) (name : List ℕ)
    (spared : ¬ Contains (names (kept_in x.keep)) name) where
  abbrev all_kept : List Kept
  all_kept = kept_in x.keep

  held_before : (bytes : List ℕ) → Holds old.contents name bytes → Holds u.contents name bytes
  held_before bytes holds = holds_so all_kept u.contents old.contents name bytes b.works.files spared holds

  module _ (new : World) (only : CountsOnly name old.reads new.reads) where
    reads_later : (q : List ℕ) → u.reads q ≤ new.reads q
    reads_later q = omega (arith, ap (λ (counts : List ℕ → ℕ). counts q) b.reads, later_by name q old.reads new.reads only)

    reads_only : (q : List ℕ) → ¬ Contains (name ∷ []) q → new.reads q ≡ u.reads q
    reads_only q absent = only.others q (λ e. absent (0, omega arith, sym e)) ∙ ap (λ (counts : List ℕ → ℕ). counts q) b.reads

    rose_since : Rose (old.reads name) (new.reads name) → Rose (u.reads name) (new.reads name)
    rose_since rose = rose_between (u.reads name) (old.reads name) (new.reads name) (new.reads name)
        (omega (arith, ap (λ (counts : List ℕ → ℕ). counts name) b.reads)) rose (omega arith)

    -- all records were taken, and the capture has a damage
    pub run_damaged : (y : Records) (e : Damage) → OfFile (capture_in old.contents name) (TookAll (λ xs. Ran x y (records_commands xs) old new) (Some e))
        → RunEnds (Some name) all_kept x.show t commands u new (BadCapture e)
    unfolding run_by on_capture by_records run_cut
    run_damaged y e (bytes, holds, all) =
        let xs = (records_in bytes).items in
        let P : Option Damage → Type 0 = λ damage. HasCause (by_records all_kept x.show t commands xs damage) u new (BadCapture e) in
        record {
          readings = Whole bytes ∷ [];
          are_read = (held_before bytes holds, tt);
          cause = subst P (sym all.whole) (record { is_ending = refl; done = all_done x t commands u old b y xs new all.taken });
          blames = tt;
          fits = λ below. absurd (omega (arith, below));
          later = reads_later;
          reads = reads_only;
          works = works_both all_kept u old new b.works all.taken.works;
        }

    -- a read failed
    pub run_failed : (y : Records) (end : End) → IsFaultOf name end
        → OfFront (capture_in old.contents name) (λ r. Ran x y (records_commands r.items) old new) × Rose (old.reads name) (new.reads name)
        → RunEnds (Some name) all_kept x.show t commands u new end
    unfolding run_by on_capture run_cut
    run_failed y (ReadFault told) is ((front, begins, ran), rose) =
        let xs = (records_in front).items in
        record {
          readings = Failed front ∷ [];
          are_read = ((begins_so all_kept u.contents old.contents name front b.works.files spared begins, rose_since rose), tt);
          cause = record { is_ending = ap (λ n. Some (6, read_line n)) (sym is); done = all_done x t commands u old b y xs new ran };
          blames = (let P : List ℕ → Type 0 = λ q. Contains (name ∷ []) q × Rose (u.reads q) (new.reads q) in subst P (sym is) ((0, omega arith, refl), rose_since rose));
          fits = λ below. absurd (omega (arith, below));
          later = reads_later;
          reads = reads_only;
          works = works_both all_kept u old new b.works ran.works;
        }
    run_failed y (Done forged) is tried = absurd is
    run_failed y BadWords is tried = absurd is
    run_failed y (BadTopology kind key item) is tried = absurd is
    run_failed y LongTopology is tried = absurd is
    run_failed y (BadScript line kind) is tried = absurd is
    run_failed y LongScript is tried = absurd is
    run_failed y (BadCapture damage) is tried = absurd is
    run_failed y (BadFile file line kind) is tried = absurd is
    run_failed y WriteFault is tried = absurd is
    run_failed y OutOfMemory is tried = absurd is

    -- it stopped at a record
    pub run_cut_short : (e : PortError) → OfFile (capture_in old.contents name) (StoppedAt (λ front at. StopsIn x (records_commands (front ++ at ∷ [])) e old new))
        → RunEnds (Some name) all_kept x.show t commands u new (end_after (Err e))
    unfolding run_by on_capture
    run_cut_short e (bytes, holds, stopped) =
        let r = records_in bytes in
        let xs = stopped.front ++ stopped.at ∷ [] in
        let is : r.items ≡ xs ++ stopped.back = stopped.order ∙ sym (append_assoc stopped.front (stopped.at ∷ []) stopped.back) in
        let less : Stopped all_kept (by_records all_kept x.show t commands r.items r.damage).acts u new e =
        subst (λ (items : List Captured). Stopped all_kept (by_records all_kept x.show t commands items r.damage).acts u new e) (sym is)
        (records_stopped x t commands u old b xs stopped.back r.damage e new stopped.stops) in
        record {
          readings = Whole bytes ∷ [];
          are_read = (held_before bytes holds, tt);
          cause = cause_stopped all_kept (by_records all_kept x.show t commands r.items r.damage) u new e less;
          blames = blames_stopped (Some name) all_kept _ u new e less;
          fits = λ below. absurd (not_done e below);
          later = reads_later;
          reads = reads_only;
          works = works_both all_kept u old new b.works stopped.stops.1;
        }

    -- memory was wanting
    pub run_memory : (y : Records) → Ran x y (records_commands []) old new ⊎ OfFile (capture_in old.contents name) (TookSome (λ xs. Ran x y (records_commands xs) old new))
        → RunEnds (Some name) all_kept x.show t commands u new OutOfMemory
    unfolding run_by on_capture
    run_memory y (inl ran) = record {
      readings = Unread ∷ [];
      are_read = (tt, tt);
      cause = record {
        before = all_acts x t commands u old b [];
        after = [];
        order = ap (λ cs. steps_acts all_kept x.show t (run t cs)) (sym (no_records commands)) ∙ sym (append-nil _);
        done = all_done x t commands u old b y [] new ran;
      };
      blames = tt;
      fits = λ below. absurd (omega (arith, below));
      later = reads_later;
      reads = reads_only;
      works = works_both all_kept u old new b.works ran.works;
    }
    run_memory y (inr (bytes, holds, some)) =
        let r = records_in bytes in
        let Q : List Captured → Type 0 = λ items. StopsBefore (by_records all_kept x.show t commands items r.damage).acts u new in
        record {
          readings = Whole bytes ∷ [];
          are_read = (held_before bytes holds, tt);
          cause = subst Q (sym some.order) (records_before x t commands u old b y some.front some.back r.damage new some.taken);
          blames = tt;
          fits = λ below. absurd (omega (arith, below));
          later = reads_later;
          reads = reads_only;
          works = works_both all_kept u old new b.works some.taken.works;
        }

    -- all records were taken, and then the last line was written, or less of it
    pub run_finished : (y : Records) (last : World) (r : Result Bool PortError) → OfFile (capture_in old.contents name) (TookAll (λ xs. Ran x y (records_commands xs) old new) None)
        → KeepsFiles new.contents last.contents → last.reads ≡ new.reads → Works all_kept new last
        → Writes (end_line (record y.tally.counts { steps = shown y.show.script y.world.state.steps })) new.written last.written new.faults last.faults r
        → IfOk r (λ forged. forged ≡ (ltb 0 y.tally.counts.forged || ltb 0 y.tally.counts.collided) || y.tally.alarm)
        → RunEnds (Some name) all_kept x.show t commands u last (end_after r)
    unfolding run_by on_capture by_records
    run_finished y last r (bytes, holds, all) keeps reads works writes alarm =
        let xs = (records_in bytes).items in
        let P : Option Damage → Type 0 = λ damage. HasCause (by_records all_kept x.show t commands xs damage) u last (end_after r) in
        record {
          readings = Whole bytes ∷ [];
          are_read = (held_before bytes holds, tt);
          cause = subst P (sym all.whole) (finish_cause x t commands u old b y xs new all.taken last r keeps writes alarm);
          blames = finish_blames x t commands u old b y xs new all.taken last r keeps writes alarm (Some name);
          fits = λ below. ((all.taken.fits, all.taken.names_fit), tt);
          later = λ q. omega (arith, reads_later q, ap (λ (counts : List ℕ → ℕ). counts q) reads);
          reads = λ q absent. ap (λ (counts : List ℕ → ℕ). counts q) reads ∙ reads_only q absent;
          works = works_both all_kept u new last (works_both all_kept u old new b.works all.taken.works) works;
        }

-- a capture's records bring few verdicts
pub few_verdicts : (x y : Records) (contents : Option Files) (name : List ℕ) (old new : World) → total x.tally.counts ≤ 66 * 524288
    → OfFile (capture_in contents name) (TookAll (λ xs. Ran x y (records_commands xs) old new) None) → total y.tally.counts < 2 ^ 63
few_verdicts x y contents name old new low (bytes, holds, all) =
    omega (arith, low, all.taken.few, two_each (records_in bytes).items, few_records bytes)
