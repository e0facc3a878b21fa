-- What a file that was read leads to.
use Rattle.std.proofs.Common.{◌≡◌, ℕ, ◌+◌, ◌<◌, ◌≤◌, true, false, List, [], length, replicate, Option, Some, None, Result, Ok, Err, bytes_eq, refl, sym, ap, subst, ◌∙◌, arith}
use Rattle.std.specs.Global.{Vec}
use Rattle.std.proofs.lemmas.Bool.Decides.{nat_tests}
use Rattle.std.proofs.lemmas.List.{length-replicate}
use Rattle.std.proofs.lemmas.Slice.Eq.{bytes_eq-Decides}
use Rattle.epic_ports.specs.Faults.{CountsOnly, Rose}
use Rattle.epic_ports.specs.Files.{Files, KeepsFiles, ReadsFile, bytes_at}
use Rattle.epic_ports.specs.declared.error.ReadError.TheVariants.{TooLong}
use Rattle.epic_record.specs.declared.fault.FileKind.TheVariants as file_kind
use Rattle.epic_topo.specs.Network.{Network}
use Rattle.epic_topo.specs.Reading.{topology}
use Rattle.epic_topo.specs.declared.fault.TopoError.{TopoError}
use Rattle.epic_text.specs.Script.{Fault, Rule, commands_of}
use Rattle.epic_app.specs.Doing.{Progress, by_commands, by_topology, ends, on_commands, on_judged, on_topology, whole, within}
use Rattle.epic_app.specs.FaultLines.{file_line, long_topology_line, too_long_line}
use Rattle.epic_app.specs.Limits.{limit_of, topology_limit}
use Rattle.epic_app.specs.declared.judge_file.JudgedFile.{JudgedFile}
use Rattle.epic_app.specs.Readings.{Reading, Whole, Failed, Unread, Holds, Begins, IsReading}

-- ---- limits

past : (limit status : ℕ) (line bytes : List ℕ) (next : Progress) → limit < length bytes → within limit status line bytes next ≡ ends [] status line
unfolding within
past limit status line bytes next long = grind (arith, nat_tests)

inside : (limit status : ℕ) (line bytes : List ℕ) (next : Progress) → length bytes ≤ limit → within limit status line bytes next ≡ next
unfolding within
inside limit status line bytes next few = grind (arith, nat_tests)

-- ---- what was read

pub holds : (contents : Option Files) (name : List ℕ) (limit : ℕ) (bytes : Vec ℕ) → ReadsFile contents name limit (Ok bytes) → Holds contents name bytes.items
holds None name limit bytes told = tt
holds (Some files) name limit bytes told = told.0

-- a file that is too long holds some bytes beyond the limit
pub record HoldsMore (contents : Option Files) (name : List ℕ) (limit : ℕ) : Type 0 where
  pub bytes : List ℕ
  pub holds : Holds contents name bytes
  pub many : limit < length bytes

pub holds_more : (contents : Option Files) (name : List ℕ) (limit : ℕ) → ReadsFile contents name limit (Err TooLong) → HoldsMore contents name limit
holds_more None name limit told = record {
  bytes = replicate (limit + 1) 0;
  holds = tt;
  many = omega (arith, length-replicate {A = ℕ} (limit + 1) 0);
}
holds_more (Some files) name limit (bytes, is, many) = record { bytes = bytes; holds = is; many = many }

pub begins_nothing : (contents : Option Files) (name : List ℕ) → Begins contents name []
begins_nothing None name = tt
begins_nothing (Some files) name = (bytes_at (Some files) name, refl)

-- ---- what follows of a topology's file

module _ (name : List ℕ) (next : Network → Progress) where
  pub long_topology : (bytes : List ℕ) → topology_limit < length bytes → on_topology name (Whole bytes) next ≡ ends [] 3 long_topology_line
  unfolding on_topology whole
  long_topology bytes long = past topology_limit 3 long_topology_line bytes (by_topology (topology bytes) next) long

  pub read_topology : (bytes : List ℕ) (r : Result Network TopoError) → length bytes ≤ topology_limit → topology bytes ≡ r
      → on_topology name (Whole bytes) next ≡ by_topology r next
  unfolding on_topology whole
  read_topology bytes r few is =
      inside topology_limit 3 long_topology_line bytes (by_topology (topology bytes) next) few ∙ ap (λ q. by_topology q next) is

-- ---- and of a file of commands

module _ {C : Type 0} (name : List ℕ) (limit : ℕ) (rule : Rule C) (next : List C → Progress) where
  pub long_commands : (bytes : List ℕ) → limit < length bytes → on_commands name limit rule (Whole bytes) next ≡ ends [] 4 too_long_line
  unfolding on_commands whole
  long_commands bytes long = past limit 4 too_long_line bytes (by_commands (commands_of rule bytes) next) long

  pub read_commands : (bytes : List ℕ) (r : Result (List C) Fault) → length bytes ≤ limit → commands_of rule bytes ≡ r
      → on_commands name limit rule (Whole bytes) next ≡ by_commands r next
  unfolding on_commands whole
  read_commands bytes r few is =
      inside limit 4 too_long_line bytes (by_commands (commands_of rule bytes) next) few ∙ ap (λ q. by_commands q next) is

-- ---- and of a file that is judged

module _ (file : JudgedFile) (name : List ℕ) (next : List ℕ → Progress) where
  pub long_judged : (bytes : List ℕ) → limit_of file < length bytes → on_judged file name (Whole bytes) next ≡ ends [] 4 (file_line file 0 file_kind.TooLong)
  unfolding on_judged whole
  long_judged bytes long = past (limit_of file) 4 (file_line file 0 file_kind.TooLong) bytes (next bytes) long

  pub read_judged : (bytes : List ℕ) → length bytes ≤ limit_of file → on_judged file name (Whole bytes) next ≡ next bytes
  unfolding on_judged whole
  read_judged bytes few = inside (limit_of file) 4 (file_line file 0 file_kind.TooLong) bytes (next bytes) few

-- ---- one file after the other

-- a count didn't fall
pub later_by : (m n : List ℕ) (old new : List ℕ → ℕ) → CountsOnly m old new → old n ≤ new n
later_by m n old new only = by (bytes_eq n m) refl
  where
    by : (b : _) → bytes_eq n m ≡ b → old n ≤ new n
    by true is =
        let e : n ≡ m = (bytes_eq-Decides n m).0 is in
        let P : List ℕ → Type 0 = λ q. old q ≤ new q in subst P (sym e) only.later
    by false is =
        let e : new n ≡ old n = only.others n (λ h. cc (is, (bytes_eq-Decides n m).1 h)) in
        omega (arith, e)

pub rose_between : (a b c d : ℕ) → a ≤ b → Rose b c → c ≤ d → Rose a d
rose_between a b c d low rose high = grind (arith, low, rose, high)

holds_before : (old mid : Option Files) (name bytes : List ℕ) → KeepsFiles old mid → Holds mid name bytes → Holds old name bytes
holds_before None mid name bytes keeps is = tt
holds_before (Some f) None name bytes keeps is = absurd keeps
holds_before (Some f) (Some g) name bytes keeps is = sym (ap (λ (files : Files). files name) keeps) ∙ is

begins_before : (old mid : Option Files) (name front : List ℕ) → KeepsFiles old mid → Begins mid name front → Begins old name front
begins_before None mid name front keeps is = tt
begins_before (Some f) None name front keeps is = absurd keeps
begins_before (Some f) (Some g) name front keeps (rest, is) = (rest, sym (ap (λ (files : Files). bytes_at (Some files) name) keeps) ∙ is)

-- a reading within a longer call
pub reading_between : (old mid : Option Files) (name : List ℕ) (a b c d : ℕ) (reading : Reading) → KeepsFiles old mid → a ≤ b → c ≤ d
    → IsReading mid name b c reading → IsReading old name a d reading
reading_between old mid name a b c d (Whole bytes) keeps low high is = holds_before old mid name bytes keeps is
reading_between old mid name a b c d (Failed front) keeps low high (begins, rose) = (begins_before old mid name front keeps begins, rose_between a b c d low rose high)
reading_between old mid name a b c d Unread keeps low high is = tt

pub keeps_itself : (contents : Option Files) → KeepsFiles contents contents
keeps_itself None = tt
keeps_itself (Some files) = refl

pub keeps_both : (old mid new : Option Files) → KeepsFiles old mid → KeepsFiles mid new → KeepsFiles old new
keeps_both None mid new first second = tt
keeps_both (Some f) None new first second = absurd first
keeps_both (Some f) (Some g) None first second = absurd second
keeps_both (Some f) (Some g) (Some h) first second = second ∙ first
