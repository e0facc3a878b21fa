-- The contract of the top call, from how a command ended and what was told.
use Rattle.std.proofs.Common.{◌≡◌, ◌⊎◌, ℕ, ◌<◌, Bool, true, false, cond, bytes_eq, List, [], ◌∷◌, Option, Some, None, Result, Ok, Err, IsTrue, refl, sym, ap, subst, inl, inr, arith}
use Rattle.std.specs.Prelude.{codes, option_and_then}
use Rattle.hex.specs.Hex.{decode_sized}
use Rattle.hex.specs.declared.error.FromHexError.{FromHexError}
use Rattle.epic_words.specs.RunCommand.{is_refused, rows_in, run_command}
use Rattle.epic_ports.specs.Files.{Files}
use Rattle.epic_ports.proofs.Appended.{Appends-none}
use Rattle.epic_app.specs.declared.end.End.{End}
use Rattle.epic_app.specs.declared.end.End.TheVariants.{Done, BadWords, BadTopology, LongTopology, BadScript, LongScript, BadCapture, BadFile, ReadFault, WriteFault, OutOfMemory}
use Rattle.epic_app.specs.Acts.{World}
use Rattle.epic_app.specs.Doing.{Progress}
use Rattle.epic_app.specs.End.{status_of, line_of, Blames, Decided, HasCause, EndsAs, EndsFor}
use Rattle.epic_app.specs.Outcome.{ErrorSink, Tells, EndsBy, NoFault, EndsUnder, FilesStay, Refuses}
use Rattle.epic_words.specs.Request.{Request, Hop, Run, Gen, Judge, RunRequest, gen_of, gen_request, hop_of, hop_request, is_command, judge_of, number_in, reads_of, request_of, run_of, run_request, shares_files, unless_shared}
use Rattle.epic_app.specs.RunEnding.{IsUnshared}
use Rattle.epic_app.specs.Readings.{Reading, Unread, AreRead}
use Rattle.epic_app.proofs.ActFiles.{does_nothing}
use Rattle.epic_app.proofs.FileLaws.{keeps_itself}

module _ (p : Progress) (old new : World) (e f : ErrorSink) where
  decides : (status : ℕ) (line : List ℕ) → Decided p old new status line → Tells e f line → EndsBy p old new e f status
  decides status line decided tells = inl (record { line = line; is_ending = decided.is_ending; done = decided.done; tells = tells })

  ends_by : (end : End) → HasCause p old new end → Tells e f (line_of end) → EndsBy p old new e f (status_of end)
  ends_by (Done forged) cause tells = decides _ _ cause tells
  ends_by BadWords cause tells = absurd cause
  ends_by (BadTopology kind key item) cause tells = decides _ _ cause tells
  ends_by LongTopology cause tells = decides _ _ cause tells
  ends_by (BadScript line kind) cause tells = decides _ _ cause tells
  ends_by LongScript cause tells = decides _ _ cause tells
  ends_by (BadCapture damage) cause tells = decides _ _ cause tells
  ends_by (BadFile file line kind) cause tells = decides _ _ cause tells
  ends_by (ReadFault name) cause tells = decides _ _ cause tells
  ends_by WriteFault cause tells = inr (inl (record { is_status = refl; stops = cause; tells = tells }))
  ends_by OutOfMemory cause tells = inr (inr (record { is_status = refl; stops = cause; tells = tells }))

complete : (request : Request) (p : Progress) (old new : World) (end : End) → HasCause p old new end → Blames request old new end → NoFault request old new
    → (status_of end < 6) ⊎ (status_of end ≡ 8)
complete request p old new (Done true) cause blames none = inl (omega arith)
complete request p old new (Done false) cause blames none = inl (omega arith)
complete request p old new BadWords cause blames none = absurd cause
complete request p old new (BadTopology kind key item) cause blames none = inl (omega arith)
complete request p old new LongTopology cause blames none = inl (omega arith)
complete request p old new (BadScript line kind) cause blames none = inl (omega arith)
complete request p old new LongScript cause blames none = inl (omega arith)
complete request p old new (BadCapture damage) cause blames none = inl (omega arith)
complete request p old new (BadFile file line kind) cause blames none = inl (omega arith)
complete request p old new (ReadFault name) cause (reads, rose) none = absurd (none.reads name.now reads rose)
complete request p old new WriteFault cause blames none = absurd (none.writes blames)
complete request p old new OutOfMemory cause blames none = inr refl

-- words that are no command were refused, or memory was wanting
refuses : (words : List (List ℕ)) (e f : ErrorSink) (end : End) → (end ≡ BadWords) ⊎ ((end ≡ OutOfMemory) × IsTrue (is_command (codes "run") words))
    → Tells e f (line_of end) → Refuses words e f (status_of end)
refuses words e f end (inl refused) tells = inl (ap status_of refused, rw refused at tells)
refuses words e f end (inr (memory, run)) tells = inr (ap status_of memory, run, rw memory at tells)

pub ends_under : (words : List (List ℕ)) (request : Option Request) (old new : World) (e f : ErrorSink) (end : End) →
    EndsFor words request old new end → Tells e f (line_of end) → EndsUnder words request old new e f (status_of end)
ends_under words None old new e f end (same, refused) tells = (same, refuses words e f end refused tells)
ends_under words (Some request) old new e f end ended tells = record {
  readings = ended.readings;
  are_read = ended.are_read;
  ends = ends_by _ old new e f end ended.cause tells;
  complete = complete request _ old new end ended.cause ended.blames;
  fits = ended.fits;
  counts = ended.counts;
  files = ended.files;
}

-- ---- words that were not read for want of memory

kept_itself : (request : Request) (contents : Option Files) → FilesStay request contents contents
kept_itself request None = tt
kept_itself request (Some files) = λ q absent. refl

-- no file was looked at
memory_by : (request : Request) (readings : List Reading) (w : World) → AreRead w w (reads_of request) readings → EndsAs request w w OutOfMemory
memory_by request readings w read = record {
  readings = readings;
  are_read = read;
  cause = record { before = []; after = _; order = refl; done = does_nothing w w (keeps_itself w.contents) (Appends-none w.written) };
  blames = tt;
  fits = λ below. absurd (omega (arith, below));
  counts = record { reads = λ q absent. refl; writes = λ q absent. refl };
  files = kept_itself request w.contents;
}

memory_run : (r : RunRequest) (capture : Option (List ℕ)) (w : World) → r.capture ≡ capture → EndsAs (Run r) w w OutOfMemory
memory_run r None w is = memory_by (Run r) (Unread ∷ Unread ∷ []) w (rw is (tt, (tt, tt)))
memory_run r (Some name) w is = memory_by (Run r) (Unread ∷ Unread ∷ Unread ∷ []) w (rw is (tt, (tt, (tt, tt))))

pub memory_for : (words : List (List ℕ)) (request : Option Request) (w : World) → IsTrue (is_command (codes "run") words) → EndsFor words request w w OutOfMemory
memory_for words None w run = (refl, inr (refl, run))
memory_for words (Some (Hop key name)) w run = memory_by (Hop key name) (Unread ∷ []) w (tt, tt)
memory_for words (Some (Run r)) w run = memory_run r r.capture w refl
memory_for words (Some (Gen seed packets)) w run = memory_by (Gen seed packets) [] w tt
memory_for words (Some (Judge topology ledger verdicts)) w run =
    memory_by (Judge topology ledger verdicts) (Unread ∷ Unread ∷ Unread ∷ []) w (tt, (tt, (tt, tt)))

-- ---- what the words ask for

-- words that are no command
pub refused_for : (words : List (List ℕ)) (w : World) → request_of words ≡ None → EndsFor words (request_of words) w w BadWords
refused_for words w is =
    let P : Option Request → Type 0 = λ r. EndsFor words r w w BadWords in
    subst P (sym is) (refl, inl refl)

-- and those that are one
pub asked_for : (words : List (List ℕ)) (request : Request) (old new : World) (end : End) → request_of words ≡ Some request
    → EndsAs request old new end → EndsFor words (request_of words) old new end
asked_for words request old new end is ended =
    let P : Option Request → Type 0 = λ r. EndsFor words r old new end in
    subst P (sym is) ended

-- ---- a run that is asked for writes no file that it reads

abbrev the_run : RunRequest → Option Request → RunRequest
the_run other None = other
the_run other (Some (Hop key name)) = other
the_run other (Some (Run r)) = r
the_run other (Some (Gen seed packets)) = other
the_run other (Some (Judge topology ledger verdicts)) = other

unshared_by : (b : Bool) (q r : RunRequest) → shares_files (Run q) ≡ b → ◌≡◌ {A = Option Request} (cond b None (Some (Run q))) (Some (Run r)) → IsUnshared r
unshared_by true q r is same = absurd (cc)
unshared_by false q r is same = subst IsUnshared (ap (the_run q) same) is

unshared_run : (words : List (List ℕ)) (r : RunRequest) → run_of words ≡ Some (Run r) → IsUnshared r
unfolding run_of
unshared_run words r is = by (is_refused run_command words) (run_request (rows_in run_command words)) is
  where
    by : (b : Bool) (o : Option RunRequest) → ◌≡◌ {A = Option Request} (cond b None (option_and_then unless_shared o)) (Some (Run r)) → IsUnshared r
    by true o same = absurd (cc)
    by false None same = absurd (cc)
    by false (Some q) same = unshared_by (shares_files (Run q)) q r refl same

no_run : (name : List ℕ) (key : Result (List ℕ) FromHexError) (r : RunRequest) → hop_request name key ≡ Some (Run r) → ⊥
no_run name (Ok key) r is = absurd (cc)
no_run name (Err e) r is = absurd (cc)

hop_is_no_run : (words : List (List ℕ)) (r : RunRequest) → hop_of words ≡ Some (Run r) → ⊥
unfolding hop_of
hop_is_no_run [] r is = absurd (cc)
hop_is_no_run (key ∷ []) r is = absurd (cc)
hop_is_no_run (key ∷ name ∷ []) r is = no_run name (decode_sized key 16) r is
hop_is_no_run (key ∷ name ∷ more ∷ words) r is = absurd (cc)

no_run_either : (seed packets : Option ℕ) (r : RunRequest) → gen_request seed packets ≡ Some (Run r) → ⊥
no_run_either None packets r is = absurd (cc)
no_run_either (Some seed) None r is = absurd (cc)
no_run_either (Some seed) (Some packets) r is = absurd (cc)

gen_is_no_run : (words : List (List ℕ)) (r : RunRequest) → gen_of words ≡ Some (Run r) → ⊥
unfolding gen_of
gen_is_no_run [] r is = absurd (cc)
gen_is_no_run (seed ∷ []) r is = absurd (cc)
gen_is_no_run (seed ∷ packets ∷ []) r is =
    no_run_either (number_in 0 0xffff_ffff_ffff_ffff seed) (number_in 1 100000 packets) r is
gen_is_no_run (seed ∷ packets ∷ more ∷ words) r is = absurd (cc)

judge_is_no_run : (words : List (List ℕ)) (r : RunRequest) → judge_of words ≡ Some (Run r) → ⊥
unfolding judge_of
judge_is_no_run [] r is = absurd (cc)
judge_is_no_run (topology ∷ []) r is = absurd (cc)
judge_is_no_run (topology ∷ ledger ∷ []) r is = absurd (cc)
judge_is_no_run (topology ∷ ledger ∷ verdicts ∷ []) r is = absurd (cc)
judge_is_no_run (topology ∷ ledger ∷ verdicts ∷ more ∷ words) r is = absurd (cc)

pub unshared_for : (words : List (List ℕ)) (r : RunRequest) → request_of words ≡ Some (Run r) → IsUnshared r
unfolding request_of
unshared_for [] r is = absurd (cc)
unshared_for (command ∷ words) r is =
    by (bytes_eq command (codes "hop")) (bytes_eq command (codes "run")) (bytes_eq command (codes "gen")) (bytes_eq command (codes "judge")) is
  where
    by : (hop run gen judge : Bool)
        → ◌≡◌ {A = Option Request} (cond hop (hop_of words) (cond run (run_of words) (cond gen (gen_of words) (cond judge (judge_of words) None)))) (Some (Run r)) → IsUnshared r
    by true run gen judge same = absurd (hop_is_no_run words r same)
    by false true gen judge same = unshared_run words r same
    by false false true judge same = absurd (gen_is_no_run words r same)
    by false false false true same = absurd (judge_is_no_run words r same)
    by false false false false same = absurd (cc)
