-- How the command `judge` ends, from what its files led to and what was said of them.
use Rattle.std.proofs.Common.{◌≡◌, ℕ, ◌≤◌, Bool, List, [], ◌∷◌, Result, Ok, Err, Contains, refl, sym, ap, subst, ◌∙◌, arith}
use Rattle.std.specs.Global.{Vec}
use Rattle.std.specs.List.{AllByRecursion}
use Rattle.std.specs.Prelude.{IfOk}
use Rattle.epic_ports.specs.Faults.{CountsOnly}
use Rattle.epic_ports.specs.Files.{KeepsFiles}
use Rattle.epic_ports.specs.Written.{Appends}
use Rattle.epic_ports.specs.declared.error.PortError.{PortError}
use Rattle.epic_topo.specs.Network.{Network}
use Rattle.epic_judging.specs.declared.judged.Judged.{Judged}
use Rattle.epic_judging.specs.declared.judged.JudgeError.{JudgeError}
use Rattle.epic_app.specs.declared.end.End.{End}
use Rattle.epic_app.specs.declared.end.End.TheVariants.{Done, BadWords, BadTopology, LongTopology, BadScript, LongScript, BadCapture, BadFile, ReadFault, WriteFault, OutOfMemory}
use Rattle.epic_app.specs.declared.judge_file.JudgedFile.TheVariants.{Ledger, Verdicts}
use Rattle.epic_app.specs.Acts.{World}
use Rattle.epic_app.specs.Captures.{RecordsFit, captures_of}
use Rattle.epic_app.specs.Doing.{Progress, by_judgment, doing, judge_done, on_judged, on_topology}
use Rattle.epic_app.specs.End.{Blames, EndsAs, HasCause, end_after}
use Rattle.epic_app.specs.FilesRead.{IsEarly, Leads, follows}
use Rattle.epic_app.specs.JudgeEnding.{Judges}
use Rattle.epic_app.specs.JudgeReport.{is_no, judged_text, judgment}
use Rattle.epic_app.specs.Readings.{AreRead, IsReading, Reading, Unread}
use Rattle.epic_app.specs.Writing.{Writes}
use Rattle.epic_words.specs.Request.{Request, Judge, reads_of}
use Rattle.epic_app.proofs.ActFiles.{does_nothing}
use Rattle.epic_app.proofs.ActLaws.{report_cause}
use Rattle.epic_app.proofs.CommandEnds.{cause_by, early_blames, early_cause, files_stay, report_blames}
use Rattle.epic_app.proofs.FileLaws.{keeps_both, keeps_itself, later_by, reading_between}

-- ---- files that were read

-- no file changed, and no others than these were read
pub record HasRead (names : List (List ℕ)) (old new : World) : Type 0 where
  pub keeps : KeepsFiles old.contents new.contents
  pub others : (q : List ℕ) → ¬ Contains names q → new.reads q ≡ old.reads q
  pub later : (q : List ℕ) → old.reads q ≤ new.reads q
  pub writes : new.writes ≡ old.writes

pub has_read : (names : List (List ℕ)) (name : List ℕ) (old new : World) → Contains names name
    → KeepsFiles old.contents new.contents → CountsOnly name old.reads new.reads → new.writes ≡ old.writes → HasRead names old new
has_read names name old new among keeps only same = record {
  keeps = keeps;
  others = λ q absent. only.others q (λ e. absent (subst (Contains names) (sym e) among));
  later = λ q. later_by name q old.reads new.reads only;
  writes = same;
}

read_both : (names : List (List ℕ)) (old mid new : World) → HasRead names old mid → HasRead names mid new → HasRead names old new
read_both names old mid new first second = record {
  keeps = keeps_both old.contents mid.contents new.contents first.keeps second.keeps;
  others = λ q absent. second.others q absent ∙ first.others q absent;
  later = λ q. omega (arith, first.later q, second.later q);
  writes = second.writes ∙ first.writes;
}

read_itself : (names : List (List ℕ)) (w : World) → HasRead names w w
read_itself names w = record { keeps = keeps_itself w.contents; others = λ q absent. refl; later = λ q. omega arith; writes = refl }

-- a reading between others
reading_in : (names : List (List ℕ)) (name : List ℕ) (old a b new : World) (reading : Reading) → HasRead names old a → HasRead names b new
    → IsReading a.contents name (a.reads name) (b.reads name) reading → IsReading old.contents name (old.reads name) (new.reads name) reading
reading_in names name old a b new reading first last is =
    reading_between old.contents a.contents name (old.reads name) (a.reads name) (b.reads name) (new.reads name) reading
    first.keeps (first.later name) (last.later name) is

-- ---- a command that ends before anything is done

ends_early : {X : Type 0} (request : Request) (readings : List Reading) (old new : World) (name : List ℕ) (before : ℕ) (end : End) (next : X → Progress)
    → AreRead old new (reads_of request) readings → AllByRecursion RecordsFit (captures_of request readings)
    → doing request readings ≡ follows (Err end) next → IsEarly name before (new.reads name) end → Contains (reads_of request) name → old.reads name ≤ before
    → HasRead (reads_of request) old new → Appends old.written new.written [] → EndsAs request old new end
ends_early {X} request readings old new name before end next read fit leads early among low has nothing = record {
  readings = readings;
  are_read = read;
  cause = cause_by _ _ old new end leads (early_cause {X = X} next name before (new.reads name) old new end early has.keeps nothing);
  blames = early_blames request name before old new end early among low;
  fits = λ below. fit;
  counts = record { reads = has.others; writes = λ q absent. ap (λ (counts : List ℕ → ℕ). counts q) has.writes };
  files = files_stay request old.contents new.contents has.keeps;
}

-- ---- the command

-- what is known of the bytes that were lent is known of those that are held
pub judges_same : (t : Network) (a b l v : List ℕ) (r : Result Judged End) → a ≡ l → b ≡ v → Judges (judgment t a b) r → Judges (judgment t l v) r
judges_same t a b l v r first second is = subst (λ (x : Result Judged JudgeError). Judges x r) (λ i. judgment t (first i) (second i)) is

module _ (m n o : List ℕ) where
  abbrev all : List (List ℕ)
  all = m ∷ n ∷ o ∷ []

  pub among_first : Contains all m
  among_first = (0, omega arith, refl)

  pub among_second : Contains all n
  among_second = (1, omega arith, refl)

  pub among_third : Contains all o
  among_third = (2, omega arith, refl)

  abbrev on_third : Network → Reading → List ℕ → Progress
  on_third t third l = on_judged Verdicts o third (λ v. by_judgment (judgment t l v) judge_done)

  abbrev on_second : Reading → Reading → Network → Progress
  on_second second third t = on_judged Ledger n second (on_third t third)

  -- where the topology ends it
  pub judge_first : (old a : World) → HasRead all old a → (end : End)
      → Leads {X = Network} old.contents m (old.reads m) (a.reads m) (on_topology m) (λ t. t) (Err end)
      → Appends old.written a.written [] → EndsAs (Judge m n o) old a end
  unfolding doing
  judge_first old a has end file nothing =
      ends_early {X = Network} (Judge m n o) (file.reading ∷ Unread ∷ Unread ∷ []) old a m (old.reads m) end (on_second Unread Unread)
      (file.is_reading, (tt, (tt, tt))) tt (file.leads (on_second Unread Unread)) file.early among_first (omega arith) has nothing

  module _ (old a b : World) (to_first : HasRead all old a) (to_second : HasRead all a b) (t : Network)
      (file : Leads {X = Network} old.contents m (old.reads m) (a.reads m) (on_topology m) (λ t. t) (Ok t)) where
    -- where the ledger file ends it
    pub judge_second : (end : End)
        → Leads {X = Vec ℕ} a.contents n (a.reads n) (b.reads n) (on_judged Ledger n) (λ v. v.items) (Err end)
        → Appends old.written b.written [] → EndsAs (Judge m n o) old b end
    unfolding doing
    judge_second end ledger nothing =
        ends_early {X = Vec ℕ} (Judge m n o) (file.reading ∷ ledger.reading ∷ Unread ∷ []) old b n (a.reads n) end (λ v. on_third t Unread v.items) (
          reading_in all m old old a b file.reading (read_itself all old) to_second file.is_reading,
          (reading_in all n old a b b ledger.reading to_first (read_itself all b) ledger.is_reading, (tt, tt)),
        )
        tt (file.leads (on_second ledger.reading Unread) ∙ ledger.leads (on_third t Unread)) ledger.early among_second (to_first.later n)
        (read_both all old a b to_first to_second) nothing

    module _ (new : World) (to_third : HasRead all b new) (l : Vec ℕ)
        (ledger : Leads {X = Vec ℕ} a.contents n (a.reads n) (b.reads n) (on_judged Ledger n) (λ v. v.items) (Ok l)) where
      has_all : HasRead all old new
      has_all = read_both all old b new (read_both all old a b to_first to_second) to_third

      are_read : (third : Reading) → IsReading b.contents o (b.reads o) (new.reads o) third
          → AreRead old new all (file.reading ∷ ledger.reading ∷ third ∷ [])
      are_read third is = (
        reading_in all m old old a new file.reading (read_itself all old) (read_both all a b new to_second to_third) file.is_reading,
        (
          reading_in all n old a b new ledger.reading to_first to_third ledger.is_reading,
          (reading_in all o old b new new third (read_both all old a b to_first to_second) (read_itself all new) is, tt),
        ),
      )

      leads_to : (third : Reading) → doing (Judge m n o) (file.reading ∷ ledger.reading ∷ third ∷ []) ≡ on_third t third l.items
      unfolding doing
      leads_to third = file.leads (on_second ledger.reading third) ∙ ledger.leads (on_third t third)

      -- where the verdict file ends it
      pub judge_third : (end : End)
          → Leads {X = Vec ℕ} b.contents o (b.reads o) (new.reads o) (on_judged Verdicts o) (λ v. v.items) (Err end)
          → Appends old.written new.written [] → EndsAs (Judge m n o) old new end
      judge_third end verdicts nothing =
          let next : Vec ℕ → Progress = λ v. by_judgment (judgment t l.items v.items) judge_done in
          ends_early {X = Vec ℕ} (Judge m n o) (file.reading ∷ ledger.reading ∷ verdicts.reading ∷ []) old new o (b.reads o) end next
          (are_read verdicts.reading verdicts.is_reading) tt
          (leads_to verdicts.reading ∙ verdicts.leads (λ v. by_judgment (judgment t l.items v) judge_done))
          verdicts.early among_third ((read_both all old a b to_first to_second).later o) has_all nothing

      module _ (v : Vec ℕ)
          (verdicts : Leads {X = Vec ℕ} b.contents o (b.reads o) (new.reads o) (on_judged Verdicts o) (λ v. v.items) (Ok v)) where
        abbrev the_judgment : Result Judged JudgeError
        the_judgment = judgment t l.items v.items

        comes_to : doing (Judge m n o) (file.reading ∷ ledger.reading ∷ verdicts.reading ∷ []) ≡ by_judgment the_judgment judge_done
        comes_to = leads_to verdicts.reading ∙ verdicts.leads (λ text. by_judgment (judgment t l.items text) judge_done)

        judged_so : (end : End) → HasCause (by_judgment the_judgment judge_done) old new end → Blames (Judge m n o) old new end
            → EndsAs (Judge m n o) old new end
        judged_so end cause blames = record {
          readings = file.reading ∷ ledger.reading ∷ verdicts.reading ∷ [];
          are_read = are_read verdicts.reading verdicts.is_reading;
          cause = cause_by _ _ old new end comes_to cause;
          blames = blames;
          fits = λ below. tt;
          counts = record { reads = has_all.others; writes = λ q absent. ap (λ (counts : List ℕ → ℕ). counts q) has_all.writes };
          files = files_stay (Judge m n o) old.contents new.contents has_all.keeps;
        }

        -- where nothing is said of them
        pub judge_unsaid : (end : End) → Judges the_judgment (Err end) → Appends old.written new.written [] → EndsAs (Judge m n o) old new end
        unfolding by_judgment
        judge_unsaid (BadFile Ledger line kind) is nothing =
            judged_so (BadFile Ledger line kind)
            (cause_by _ _ old new (BadFile Ledger line kind) (ap (λ r. by_judgment r judge_done) is)
            (record { is_ending = refl; done = does_nothing old new has_all.keeps nothing }))
            tt
        judge_unsaid (BadFile Verdicts line kind) is nothing =
            judged_so (BadFile Verdicts line kind)
            (cause_by _ _ old new (BadFile Verdicts line kind) (ap (λ r. by_judgment r judge_done) is)
            (record { is_ending = refl; done = does_nothing old new has_all.keeps nothing }))
            tt
        judge_unsaid OutOfMemory is nothing =
            judged_so OutOfMemory (record { before = []; after = _; order = refl; done = does_nothing old new has_all.keeps nothing }) tt
        judge_unsaid (Done forged) is nothing = absurd is
        judge_unsaid BadWords is nothing = absurd is
        judge_unsaid (BadTopology kind key item) is nothing = absurd is
        judge_unsaid LongTopology is nothing = absurd is
        judge_unsaid (BadScript line kind) is nothing = absurd is
        judge_unsaid LongScript is nothing = absurd is
        judge_unsaid (BadCapture damage) is nothing = absurd is
        judge_unsaid (ReadFault name) is nothing = absurd is
        judge_unsaid WriteFault is nothing = absurd is

        -- where the line was written, or less of it
        pub judge_said : (said : Judged) (r : Result Bool PortError) → Judges the_judgment (Ok said)
            → Writes (judged_text said) old.written new.written old.faults new.faults r → IfOk r (λ b. b ≡ is_no said)
            → EndsAs (Judge m n o) old new (end_after r)
        unfolding by_judgment judge_done
        judge_said said r is writes alarm =
            judged_so (end_after r)
            (cause_by _ _ old new (end_after r) (ap (λ j. by_judgment j judge_done) is)
            (report_cause (judged_text said) (is_no said) old new r has_all.keeps writes alarm))
            (report_blames (Judge m n o) (judged_text said) old new r writes)
