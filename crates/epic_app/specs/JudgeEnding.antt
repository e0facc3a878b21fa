-- Private: serves proofs of this crate alone; no public contract cites it.
-- What a command knows of a judgment: what is said, or an end in its place.
use Rattle.std.specs.Prelude.{◌≡◌, Result, Ok, Err, ⊤}
use Rattle.epic_judging.specs.declared.judged.Judged.{Judged}
use Rattle.epic_judging.specs.declared.judged.JudgeError.{JudgeError}
use Rattle.epic_judging.specs.declared.judged.JudgeError.TheVariants as fault
use Rattle.epic_app.specs.declared.end.End.{End}
use Rattle.epic_app.specs.declared.end.End.TheVariants.{BadFile, OutOfMemory}
use Rattle.epic_app.specs.declared.judge_file.JudgedFile.TheVariants.{Ledger, Verdicts}

-- the judgment is this answer, where memory wasn't wanting
abbrev pub Answers : Result Judged JudgeError → Result Judged JudgeError → Type 0
Answers judgment (Ok said) = judgment ≡ Ok said
Answers judgment (Err (fault.Ledger line kind)) = judgment ≡ Err (fault.Ledger line kind)
Answers judgment (Err (fault.Verdicts line kind)) = judgment ≡ Err (fault.Verdicts line kind)
Answers judgment (Err fault.OutOfMemory) = ⊤

-- this is said, or this fault of a file is, or memory was wanting
abbrev pub Judges : Result Judged JudgeError → Result Judged End → Type 0
Judges judgment (Ok said) = judgment ≡ Ok said
Judges judgment (Err (BadFile Ledger line kind)) = judgment ≡ Err (fault.Ledger line kind)
Judges judgment (Err (BadFile Verdicts line kind)) = judgment ≡ Err (fault.Verdicts line kind)
Judges judgment (Err OutOfMemory) = ⊤
Judges judgment (Err end) = ⊥
