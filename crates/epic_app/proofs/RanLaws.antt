-- Commands that a run does one after the other behind its script.
use Rattle.std.proofs.Common.{◌≡◌, ℕ, ◌+◌, ◌-◌, ◌*◌, ◌/◌, ◌^◌, ◌≤◌, ◌||◌, min, Result, Ok, Err, OnOk, List, [], ◌∷◌, ◌++◌, length, Option, Some, None, Contains, refl, sym, ap, subst, ◌∙◌, append-nil, append_assoc, length-append, arith}
use Rattle.std.specs.Prelude.{IfErr}
use Rattle.std.specs.List.{list_any}
use Rattle.std.proofs.lemmas.List.Folds.{list_any-append}
use Rattle.std.proofs.lemmas.List.Concat.{flat_map-append}
use Rattle.std.proofs.lemmas.List.Elements.{All-append, All-cons, All-nil}
use Rattle.epic_world.proofs.Counted.{next_counts}
use Rattle.epic_num.specs.declared.command.Command.{Command}
use Rattle.epic_num.specs.declared.verdict.Verdict.{Verdict}
use Rattle.epic_capture.specs.Records.{Captured}
use Rattle.epic_feed.specs.Files.{SameFile}
use Rattle.epic_feed.specs.Taking.{Takes}
use Rattle.epic_ports.specs.Files.{Files, KeepsFiles}
use Rattle.epic_ports.specs.declared.error.PortError.{PortError}
use Rattle.epic_ports.specs.declared.error.PortError.TheVariants.{OutOfMemory}
use Rattle.epic_topo.specs.Network.{Network}
use Rattle.epic_text.specs.declared.counts.Counts.{Counts}
use Rattle.epic_text.specs.Counts.{counted, total}
use Rattle.epic_model.specs.State.{State}
use Rattle.epic_model.specs.Steps.{next}
use Rattle.epic_model.specs.World.{Fits}
use Rattle.epic_rerun.specs.Rerun.{NamesFit}
use Rattle.epic_world.specs.Run.{Done, done_by, run_from, state_after}
use Rattle.epic_app.specs.Keeping.{kept_in}
use Rattle.epic_app.specs.Kept.{Kept, names}
use Rattle.epic_app.specs.declared.taking.Records.{Records}
use Rattle.epic_app.specs.declared.end.End.{End}
use Rattle.epic_app.specs.declared.end.End.TheVariants.{BadWords, BadTopology, LongTopology, BadScript, LongScript, BadCapture, BadFile, ReadFault, WriteFault}
use Rattle.epic_app.specs.declared.end.End.TheVariants as ends
use Rattle.epic_ports.proofs.Appended.{Appends-none}
use Rattle.epic_app.specs.Acts.{Act, World, Does, StopsAt, StopsBefore, world}
use Rattle.epic_num.specs.declared.command.Command.TheVariants.{At}
use Rattle.epic_app.specs.Along.{along}
use Rattle.epic_app.specs.Captures.{due, records_commands, record_commands}
use Rattle.epic_app.specs.Doing.{Progress, step_acts}
use Rattle.epic_app.specs.End.{Decided, HasCause}
use Rattle.epic_app.specs.Performing.{Blamed, OthersKeep, Stays, Stopped, Works}
use Rattle.epic_app.specs.RunReport.{all_verdicts, verdicts_in}
use Rattle.epic_app.specs.StepLines.{count_all}
use Rattle.epic_app.specs.Showing.{Showing}
use Rattle.epic_app.specs.Noting.{offers_of, shows_alarm}
use Rattle.epic_app.specs.Policed.{ArePoliced}
use Rattle.epic_app.specs.Taking.{IsAfter, Ran, StopsIn, acts_of}
use Rattle.epic_app.proofs.ActFiles.{does_both, does_nothing}
use Rattle.epic_app.proofs.Acting.{blamed_in, fails_in, others_both, others_kept, stopped_later, stopped_more}
use Rattle.epic_app.proofs.AlongLaws.{along-append}
use Rattle.epic_app.proofs.RunLemmas.{or_assoc, or_none, run_from-append, state_after-append}
use Rattle.epic_app.proofs.StepWriting.{keeps_all, nothing_done}

-- ---- what stays

pub works_of : (kept : List Kept) (old new : World) → Stays kept old new → Works kept old new
works_of kept old new stays = record { faults = stays.faults; later = stays.later; others = stays.others; files = stays.files }

pub works_both : (kept : List Kept) (u v w : World) → Works kept u v → Works kept v w → Works kept u w
works_both kept u v w first next = record {
  faults = omega (arith, first.faults, next.faults);
  later = λ q. omega (arith, first.later q, next.later q);
  others = λ q absent. next.others q absent ∙ first.others q absent;
  files = others_both kept u.contents v.contents w.contents first.files next.files;
}

-- files that are read change nothing of that
pub works_read : (kept : List Kept) (old new : World) → KeepsFiles old.contents new.contents → old.faults ≤ new.faults → new.writes ≡ old.writes
    → Works kept old new
works_read kept old new keeps later writes = record {
  faults = later;
  later = λ q. omega (arith, ap (λ (counts : List ℕ → ℕ). counts q) writes);
  others = λ q absent. ap (λ (counts : List ℕ → ℕ). counts q) writes;
  files = others_kept kept old.contents new.contents keeps;
}

-- a count that rose later rose over the whole
pub blamed_later : (kept : List Kept) (u v w : World) → Works kept u v → Blamed kept v w → Blamed kept u w
blamed_later kept u v w works blamed = blamed_in kept u v w (works.faults, works.later) blamed

-- ---- causes

-- some acts were done, and then others, of which an act failed
stops_behind : (a b : List Act) (kept : List Kept) (u v w : World) → Does a u v → Works kept u v → StopsAt b v w → StopsAt (a ++ b) u w
stops_behind a b kept u v w first works stops = record {
  before = a ++ stops.before;
  act = stops.act;
  after = stops.after;
  order = ap (λ acts. a ++ acts) stops.order ∙ sym (append_assoc a stops.before (stops.act ∷ stops.after));
  done = does_both a stops.before u v w first stops.done;
  fails = fails_in stops.act u v w (works.faults, works.later) stops.fails;
}

ends_behind : (a b : List Act) (u v w : World) → Does a u v → StopsBefore b v w → StopsBefore (a ++ b) u w
ends_behind a b u v w first stops = record {
  before = a ++ stops.before;
  after = stops.after;
  order = ap (λ acts. a ++ acts) stops.order ∙ sym (append_assoc a stops.before stops.after);
  done = does_both a stops.before u v w first stops.done;
}

decided_read : (p : Progress) (u v w : World) (status : ℕ) (line : List ℕ) → Does [] u v → Decided p v w status line → Decided p u w status line
decided_read p u v w status line nothing by = record { is_ending = by.is_ending; done = does_both [] p.acts u v w nothing by.done }

-- files that are read before change no cause
pub cause_read : {kept : List Kept} (p : Progress) (u v w : World) (end : End) → Does [] u v → Works kept u v → HasCause p v w end → HasCause p u w end
cause_read p u v w (ends.Done forged) nothing works cause = decided_read p u v w _ _ nothing cause
cause_read p u v w BadWords nothing works cause = absurd cause
cause_read p u v w (BadTopology kind key item) nothing works cause = decided_read p u v w _ _ nothing cause
cause_read p u v w LongTopology nothing works cause = decided_read p u v w _ _ nothing cause
cause_read p u v w (BadScript line kind) nothing works cause = decided_read p u v w _ _ nothing cause
cause_read p u v w LongScript nothing works cause = decided_read p u v w _ _ nothing cause
cause_read p u v w (BadCapture damage) nothing works cause = decided_read p u v w _ _ nothing cause
cause_read p u v w (BadFile file line kind) nothing works cause = decided_read p u v w _ _ nothing cause
cause_read p u v w (ReadFault name) nothing works cause = decided_read p u v w _ _ nothing cause
cause_read {kept} p u v w WriteFault nothing works cause = stops_behind [] p.acts kept u v w nothing works cause
cause_read p u v w ends.OutOfMemory nothing works cause = ends_behind [] p.acts u v w nothing cause

-- ---- verdicts

pub count_all-both : (c : Counts) (vs ws : List Verdict) → count_all (count_all c vs) ws ≡ count_all c (vs ++ ws)
unfolding count_all
count_all-both c [] ws = refl
count_all-both c (v ∷ vs) ws = count_all-both (counted c v) vs ws

pub verdicts-append : (xs ys : List Done) → all_verdicts (xs ++ ys) ≡ all_verdicts xs ++ all_verdicts ys
unfolding all_verdicts
verdicts-append xs ys = flat_map-append (λ (d : Done). verdicts_in d.answer) xs ys

-- ---- one command after the other

pub ran_none : (x : Records) (w : World) → Ran x x [] w w
unfolding state_after run_from all_verdicts count_all
ran_none x w = record {
  network = refl;
  show = refl;
  keep = refl;
  state = refl;
  steps = omega arith;
  counts = refl;
  few = omega arith;
  alarm = sym (or_none x.tally.alarm);
  police = λ before after. subst (IsAfter x) (sym (append-nil before)) after;
  acts = λ before after. nothing_done w;
  works = works_read (kept_in x.keep) w w (keeps_all w.contents) (omega arith) refl;
  fits = All-nil Fits;
  names_fit = All-nil NamesFit;
}

-- the store was read meanwhile
pub ran_read : (x y : Records) (cs : List Command) (u v w : World) → Ran x y cs u v → KeepsFiles v.contents w.contents → v.faults ≤ w.faults → w.writes ≡ v.writes
    → Does [] v w → Ran x y cs u w
ran_read x y cs u v w ran keeps later writes nothing = record {
  network = ran.network;
  show = ran.show;
  keep = ran.keep;
  state = ran.state;
  steps = ran.steps;
  counts = ran.counts;
  few = ran.few;
  alarm = ran.alarm;
  police = ran.police;
  acts = λ before after. subst (λ (acts : List Act). Does acts u w) (append-nil (acts_of x before cs))
      (does_both (acts_of x before cs) [] u v w (ran.acts before after) nothing);
  works = works_both (kept_in x.keep) u v w ran.works (works_read (kept_in x.keep) v w keeps later writes);
  fits = ran.fits;
  names_fit = ran.names_fit;
}

module _ (x y : Records) (cs : List Command) (u v : World) (ran : Ran x y cs u v) where
  same_files : kept_in y.keep ≡ kept_in x.keep
  same_files = ap kept_in ran.keep

  -- the steps of these commands
  abbrev steps_done : List Done
  steps_done = run_from x.world.network x.world.state cs

  -- the acts of these commands and of others behind them
  pub acts_both : (before : List Done) (ds : List Command) → acts_of x before (cs ++ ds) ≡ acts_of x before cs ++ acts_of y (before ++ steps_done) ds
  acts_both before ds =
      let f = step_acts (kept_in x.keep) x.show x.world.network in
      ap (along f before) (run_from-append x.world.network x.world.state cs ds)
      ∙ (along-append f before steps_done (run_from x.world.network (state_after x.world.network x.world.state cs) ds)
      ∙ sym (λ k. acts_of x before cs
      ++ along (step_acts (same_files k) (ran.show k) (ran.network k)) (before ++ steps_done) (run_from (ran.network k) (ran.state k) ds)))

  counts_both : (ds : List Command)
      → count_all y.tally.counts (all_verdicts (run_from y.world.network y.world.state ds)) ≡ count_all x.tally.counts (all_verdicts (run_from x.world.network x.world.state (cs ++ ds)))
  counts_both ds =
      let t = x.world.network in
      let s = x.world.state in
      let front = run_from t s cs in
      let back = run_from t (state_after t s cs) ds in
      (λ k. count_all (ran.counts k) (all_verdicts (run_from (ran.network k) (ran.state k) ds)))
      ∙ (count_all-both x.tally.counts (all_verdicts front) (all_verdicts back)
      ∙ ap (count_all x.tally.counts) (sym (ap all_verdicts (run_from-append t s cs ds) ∙ verdicts-append front back)))

  alarm_both : (ds : List Command)
      → y.tally.alarm || list_any (shows_alarm y.show y.world.network) (run_from y.world.network y.world.state ds)
      ≡ x.tally.alarm || list_any (shows_alarm x.show x.world.network) (run_from x.world.network x.world.state (cs ++ ds))
  alarm_both ds =
      let t = x.world.network in
      let s = x.world.state in
      let f = shows_alarm x.show t in
      let front = run_from t s cs in
      let back = run_from t (state_after t s cs) ds in
      (λ k. ran.alarm k || list_any (shows_alarm (ran.show k) (ran.network k)) (run_from (ran.network k) (ran.state k) ds))
      ∙ (sym (or_assoc x.tally.alarm (list_any f front) (list_any f back))
      ∙ ap (λ b. x.tally.alarm || b) (sym (ap (list_any f) (run_from-append t s cs ds) ∙ list_any-append f front back)))

  -- what follows these steps follows those of all commands
  after_both : (z : Records) (before : List Done) (ds : List Command)
      → IsAfter z ((before ++ steps_done) ++ run_from y.world.network y.world.state ds)
      → IsAfter z (before ++ run_from x.world.network x.world.state (cs ++ ds))
  after_both z before ds after =
      let back = run_from x.world.network (state_after x.world.network x.world.state cs) ds in
      let steps : (before ++ steps_done) ++ run_from y.world.network y.world.state ds ≡ before ++ run_from x.world.network x.world.state (cs ++ ds) =
      (λ k. (before ++ steps_done) ++ run_from (ran.network k) (ran.state k) ds)
      ∙ (append_assoc before steps_done back
      ∙ ap (λ more. before ++ more) (sym (run_from-append x.world.network x.world.state cs ds))) in
      subst (IsAfter z) steps after

  pub ran_both : (z : Records) (ds : List Command) (w : World) → Ran y z ds v w → Ran x z (cs ++ ds) u w
  ran_both z ds w then_ran =
      let works : Works (kept_in x.keep) v w = subst (λ (kept : List Kept). Works kept v w) same_files then_ran.works in
      record {
        network = then_ran.network ∙ ran.network;
        show = then_ran.show ∙ ran.show;
        keep = then_ran.keep ∙ ran.keep;
        state = then_ran.state ∙ ((λ k. state_after (ran.network k) (ran.state k) ds) ∙ sym (state_after-append x.world.network x.world.state cs ds));
        steps = omega (arith, ran.steps, then_ran.steps, length-append cs ds);
        counts = then_ran.counts ∙ counts_both ds;
        few = omega (arith, ran.few, then_ran.few, length-append cs ds);
        alarm = then_ran.alarm ∙ alarm_both ds;
        police = λ before after. after_both z before ds (then_ran.police (before ++ steps_done) (ran.police before after));
        acts = λ before after. subst (λ (a : List Act). Does a u w) (sym (acts_both before ds))
            (does_both (acts_of x before cs) (acts_of y (before ++ steps_done) ds) u v w (ran.acts before after)
            (then_ran.acts (before ++ steps_done) (ran.police before after)));
        works = works_both (kept_in x.keep) u v w ran.works works;
        fits = All-append Fits cs ds ran.fits then_ran.fits;
        names_fit = All-append NamesFit cs ds ran.names_fit then_ran.names_fit;
      }

  -- less was done of others behind them
  pub ran_stopped : (ds : List Command) (e : PortError) (w : World) → StopsIn y ds e v w → StopsIn x (cs ++ ds) e u w
  ran_stopped ds e w (stops, works) =
      let wrote : Works (kept_in x.keep) v w = subst (λ (kept : List Kept). Works kept v w) same_files works in (
        λ before after.
            let behind = before ++ steps_done in
            let less : Stopped (kept_in x.keep) (acts_of y behind ds) v w e =
            subst (λ (kept : List Kept). Stopped kept (acts_of y behind ds) v w e) same_files (stops behind (ran.police before after)) in
            subst (λ (a : List Act). Stopped (kept_in x.keep) a u w e) (sym (acts_both before ds))
            (stopped_later (kept_in x.keep) (acts_of x before cs) (acts_of y behind ds) u v w e (ran.acts before after) ran.works less),
        works_both (kept_in x.keep) u v w ran.works wrote,
      )

-- less of the first commands is less of all
pub stops_more : (x : Records) (cs ds : List Command) (e : PortError) (u v : World) → StopsIn x cs e u v → StopsIn x (cs ++ ds) e u v
stops_more x cs ds e u v (stops, works) =
    let f = step_acts (kept_in x.keep) x.show x.world.network in
    let t = x.world.network in
    let front = run_from t x.world.state cs in
    let back = run_from t (state_after t x.world.state cs) ds in (
      λ before after.
          let rest = along f (before ++ front) back in
          let parts : acts_of x before (cs ++ ds) ≡ acts_of x before cs ++ rest =
          ap (along f before) (run_from-append t x.world.state cs ds) ∙ along-append f before front back in
          subst (λ (a : List Act). Stopped (kept_in x.keep) a u v e) (sym parts) (stopped_more (kept_in x.keep) (acts_of x before cs) rest u v e (stops before after)),
      works,
    )

-- ---- records

pub records-append : (xs ys : List Captured) → records_commands (xs ++ ys) ≡ records_commands xs ++ records_commands ys
unfolding records_commands
records-append xs ys = flat_map-append record_commands xs ys

pub record_last : (xs : List Captured) (y : Captured) → records_commands (xs ++ y ∷ []) ≡ records_commands xs ++ record_commands y
unfolding records_commands
record_last xs y = records-append xs (y ∷ []) ∙ ap (λ cs. records_commands xs ++ cs) (append-nil (record_commands y))

-- two commands each
pub two_each : (records : List Captured) → length (records_commands records) ≡ 2 * length records
unfolding records_commands
two_each [] = omega arith
two_each (x ∷ records) = omega (arith, two_each records)

-- ---- one command

one_act : (x : Records) (before : List Done) (c : Command)
    → acts_of x before (c ∷ []) ≡ step_acts (kept_in x.keep) x.show x.world.network before (done_by x.world.network x.world.state c)
unfolding run_from
one_act x before c = append-nil (step_acts (kept_in x.keep) x.show x.world.network before (done_by x.world.network x.world.state c))

pub ran_one : (x y : Records) (c : Command) (u v : World) → y.world.network ≡ x.world.network → y.show ≡ x.show → y.keep ≡ x.keep
    → y.world.state ≡ (next x.world.network x.world.state c).state
    → y.tally.counts ≡ count_all x.tally.counts (verdicts_in (next x.world.network x.world.state c).answer)
    → total y.tally.counts ≤ total x.tally.counts + 66
    → y.tally.alarm ≡ x.tally.alarm || shows_alarm x.show x.world.network (done_by x.world.network x.world.state c)
    → ((before : List Done) → IsAfter x before
    → ArePoliced x.world.network x.show.police y.police (offers_of (before ++ done_by x.world.network x.world.state c ∷ [])) y.world.state.moment)
    → ((before : List Done) → IsAfter x before → Does (step_acts (kept_in x.keep) x.show x.world.network before (done_by x.world.network x.world.state c)) u v)
    → Works (kept_in x.keep) u v → Fits c → NamesFit c → Ran x y (c ∷ []) u v
unfolding state_after run_from all_verdicts done_by
ran_one x y c u v network show kept state counts few alarm police done works fits names = record {
  network = network;
  show = show;
  keep = kept;
  state = state;
  steps = ap (λ (s : State). s.steps) state ∙ next_counts x.world.network x.world.state c;
  counts = counts ∙ ap (count_all x.tally.counts) (sym (append-nil (verdicts_in (next x.world.network x.world.state c).answer)));
  few = omega (arith, few);
  alarm = alarm ∙ ap (λ b. x.tally.alarm || b) (sym (or_none (shows_alarm x.show x.world.network (done_by x.world.network x.world.state c))));
  police = λ before after.
      let os = offers_of (before ++ done_by x.world.network x.world.state c ∷ []) in
      subst (λ (n : Network). ArePoliced n y.show.police y.police os y.world.state.moment) (sym network)
      (subst (λ (sh : Showing). ArePoliced x.world.network sh.police y.police os y.world.state.moment) (sym show) (police before after));
  acts = λ before after. subst (λ (acts : List Act). Does acts u v) (sym (one_act x before c)) (done before after);
  works = works;
  fits = All-cons Fits c [] fits (All-nil Fits);
  names_fit = All-cons NamesFit c [] names (All-nil NamesFit);
}

pub stops_one : (x : Records) (c : Command) (e : PortError) (u v : World)
    → ((before : List Done) → IsAfter x before
    → Stopped (kept_in x.keep) (step_acts (kept_in x.keep) x.show x.world.network before (done_by x.world.network x.world.state c)) u v e)
    → Works (kept_in x.keep) u v → StopsIn x (c ∷ []) e u v
stops_one x c e u v stops works =
    (λ before after. subst (λ (acts : List Act). Stopped (kept_in x.keep) acts u v e) (sym (one_act x before c)) (stops before after), works)

-- ---- a record: two commands, taken behind others

module _ (x y : Records) (xs : List Captured) (u v : World) (c : Captured) (ran : Ran x y (records_commands xs) u v) where
  pub record_ran : (m z : Records) (w k : World) → Ran y m (At c.moment ∷ []) v w → Ran m z (due c.place c.bytes ∷ []) w k
      → Ran x z (records_commands (xs ++ c ∷ [])) u k
  record_ran m z w k first second =
      subst (λ (cs : List Command). Ran x z cs u k) (sym (record_last xs c))
      (ran_both x y (records_commands xs) u v ran z (At c.moment ∷ due c.place c.bytes ∷ []) k
      (ran_both y m (At c.moment ∷ []) v w first z (due c.place c.bytes ∷ []) k second))

  -- it stopped at the moment
  pub stopped_first : (e : PortError) (w : World) → StopsIn y (At c.moment ∷ []) e v w → StopsIn x (records_commands (xs ++ c ∷ [])) e u w
  stopped_first e w stops =
      subst (λ (cs : List Command). StopsIn x cs e u w) (sym (record_last xs c))
      (ran_stopped x y (records_commands xs) u v ran (At c.moment ∷ due c.place c.bytes ∷ []) e w
      (stops_more y (At c.moment ∷ []) (due c.place c.bytes ∷ []) e v w stops))

  -- or at the packet
  pub stopped_second : (m : Records) (e : PortError) (w k : World) → Ran y m (At c.moment ∷ []) v w → StopsIn m (due c.place c.bytes ∷ []) e w k
      → StopsIn x (records_commands (xs ++ c ∷ [])) e u k
  stopped_second m e w k first stops =
      subst (λ (cs : List Command). StopsIn x cs e u k) (sym (record_last xs c))
      (ran_stopped x y (records_commands xs) u v ran (At c.moment ∷ due c.place c.bytes ∷ []) e k
      (ran_stopped y m (At c.moment ∷ []) v w first (due c.place c.bytes ∷ []) e k stops))

  -- or before either
  pub stopped_before : Does [] v v → StopsIn x (records_commands (xs ++ c ∷ [])) OutOfMemory u v
  stopped_before nothing = (
    λ before after. record {
      before = acts_of x before (records_commands xs);
      after = _;
      order = ap (acts_of x before) (record_last xs c) ∙ acts_both x y (records_commands xs) u v ran before (record_commands c);
      done = ran.acts before after;
    },
    ran.works,
  )

  -- the packet was taken, or it stopped at it
  pub takes_second : (m z : Records) (w k : World) (r : Result (Unit {0}) PortError) → Ran y m (At c.moment ∷ []) v w
      → OnOk r (Ran m z (due c.place c.bytes ∷ []) w k) → IfErr r (λ e. StopsIn m (due c.place c.bytes ∷ []) e w k)
      → Takes {X = Unit {0}} c (λ ys. Ran x z (records_commands ys) u k) (λ d e. StopsIn x (records_commands (xs ++ d ∷ [])) e u k) xs r
  takes_second m z w k (Ok done) first ok err = record_ran m z w k first ok
  takes_second m z w k (Err e) first ok err = stopped_second m e w k first err

-- a file that isn't saved stays
pub spared_stays : (kept : List Kept) (name : List ℕ) (old new : Option Files) → OthersKeep kept old new → ¬ Contains (names kept) name → SameFile name old new
spared_stays kept name None new others absent = tt
spared_stays kept name (Some f) None others absent = absurd others
spared_stays kept name (Some f) (Some g) others absent = others name absent

-- each record takes the room of one
pub room_left : (a b m n : ℕ) → b ≤ a + 2 → n ≤ m + 132 → min ((1073741823 - a) / 2) ((2 ^ 63 - m) / 256) ≤ min ((1073741823 - b) / 2) ((2 ^ 63 - n) / 256) + 1
room_left a b m n steps verdicts = grind (arith, steps, verdicts)

-- ---- the laws of taking

-- no record was taken
pub took_none : (x : Records) (w : World) → Ran x x (records_commands []) w w
unfolding records_commands
took_none x w = ran_none x w

-- the store was read meanwhile
pub took_read : (x y : Records) (xs : List Captured) (u : World) (contents : Option Files) (reads writes : List ℕ → ℕ) (now : Option Files) (counts later : List ℕ → ℕ)
    (written : Option (List ℕ)) (faults : ℕ) → Ran x y (records_commands xs) u (world contents reads writes written faults) → KeepsFiles contents now → later ≡ writes
    → Ran x y (records_commands xs) u (world now counts later written faults)
took_read x y xs u contents reads writes now counts later written faults ran keeps same =
    let v = world contents reads writes written faults in
    let w = world now counts later written faults in
    ran_read x y (records_commands xs) u v w ran keeps (omega arith) same (does_nothing v w keeps (Appends-none written))
