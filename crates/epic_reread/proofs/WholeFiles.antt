-- A file of verdict lines is read line by line.
use Rattle.std.proofs.Common.{◌≡◌, ℕ, ◌+◌, ◌<◌, cond, List, [], ◌∷◌, ◌++◌, length, refl, ap, ◌∙◌, arith, append_assoc, codes, decimal, Ok, Err}
use Rattle.std.specs.List.{slice_split}
use Rattle.std.proofs.lemmas.Bool.{le-ltb}
use Rattle.std.proofs.lemmas.List.Splits.{length-slice_split, slice_split_at}
use Rattle.epic_num.specs.declared.verdict.Verdict.{Verdict}
use Rattle.epic_layout.specs.Contents.{Contents}
use Rattle.epic_topo.specs.Network.{Network}
use Rattle.epic_audit.specs.ForgedText.{words_text}
use Rattle.epic_audit.specs.Holds.{Subject, AtDest, AtHop}
use Rattle.epic_text.specs.Lines.{is_line_feed, parts, without_empty_last}
use Rattle.epic_text.specs.VerdictText.{verdict_words}
use Rattle.epic_record.specs.declared.fault.FileKind.TheVariants.{TooLong}
use Rattle.epic_record.specs.LedgerFile.{on_line}
use Rattle.epic_record.specs.VerdictFile.{most_verdicts, told_after, told_in, verdict_file, with_told}
use Rattle.epic_record.specs.VerdictLines.{Acceptance, subject_line, verdict_line, verdict_text}
use Rattle.epic_judging.specs.Telling.{told_of}
use Rattle.epic_reread.specs.Rereading.{CanBeTold}
use Rattle.epic_reread.specs.WholeFile.{EachCanBeTold, IsIndexed, VerdictFilesAreReadBack, told_each}
use Rattle.epic_reread.proofs.Clean.{IsAbove, unmarked}
use Rattle.epic_reread.proofs.Forms.{told_words}
use Rattle.epic_reread.proofs.Printed.{next, verdict_same}
use Rattle.epic_reread.proofs.WholeLines.{dest_line_plain, dest_line_read, hop_line_plain, hop_line_read}

-- ---- parts

onto_parts : (part : List ℕ) (more : List (List ℕ)) → 0 < length more → without_empty_last (part ∷ more) ≡ part ∷ without_empty_last more
onto_parts part [] h = absurd (omega (arith, h))
onto_parts part (word ∷ more) h = refl

-- a line and its line feed are the first part
pub first_part : (line rest : List ℕ) → IsAbove 32 line → parts ((line ++ (10 ∷ [])) ++ rest) ≡ line ∷ parts rest
first_part line rest plain =
    ap (λ text. without_empty_last (slice_split is_line_feed text)) (append_assoc line (10 ∷ []) rest)
    ∙ ap without_empty_last (slice_split_at is_line_feed line 10 rest (unmarked 10 32 (omega arith) line plain) refl)
    ∙ onto_parts line (slice_split is_line_feed rest) (omega (arith, length-slice_split is_line_feed rest))

-- ---- a line

record IsLineOf (t : Network) (p : Contents) (subject : Subject) (v : Verdict) : Type 0 where
  pub line : List ℕ
  pub whole : subject_line t p subject v ≡ line ++ (10 ∷ [])
  pub plain : IsAbove 32 line
  pub told : told_in subject line ≡ Ok (told_of t p v)

line_of : (t : Network) (p : Contents) (subject : Subject) (v : Verdict) → IsIndexed subject → CanBeTold (told_of t p v) → IsLineOf t p subject v
line_of t p (AtHop a generation hop) v small ok = record {
  line = words_text (codes "hop" ∷ decimal hop ∷ told_words (told_of t p v));
  whole = ap (λ text. text ++ (10 ∷ [])) (next (codes "hop") (decimal hop ∷ verdict_words t p v) (decimal hop ∷ told_words (told_of t p v))
      (next (decimal hop) (verdict_words t p v) (told_words (told_of t p v)) (verdict_same t p v))).text;
  plain = hop_line_plain hop (told_of t p v) small ok;
  told = hop_line_read hop (told_of t p v) small ok;
}
line_of t p AtDest v small ok = record {
  line = words_text (codes "dest" ∷ told_words (told_of t p v));
  whole = ap (λ text. text ++ (10 ∷ [])) (next (codes "dest") (verdict_words t p v) (told_words (told_of t p v)) (verdict_same t p v)).text;
  plain = dest_line_plain (told_of t p v) ok;
  told = dest_line_read (told_of t p v) ok;
}

-- ---- the lines

lines_told : (number : ℕ) (t : Network) (accepted : List Acceptance) (verdicts : List Verdict) → EachCanBeTold t accepted verdicts
    → told_after number accepted (parts (verdict_text t accepted verdicts)) ≡ Ok (told_each t accepted verdicts)
unfolding verdict_text verdict_line told_each
lines_told number t [] [] ok = refl
lines_told number t [] (v ∷ verdicts) ok = absurd ok
lines_told number t (a ∷ more) [] ok = absurd ok
lines_told number t (a ∷ more) (v ∷ verdicts) ok =
    let one = line_of t a.packet a.subject v ok.0 ok.1 in
    let rest = verdict_text t more verdicts in
    ap (λ text. told_after number (a ∷ more) (parts (text ++ rest))) one.whole
    ∙ ap (told_after number (a ∷ more)) (first_part one.line rest one.plain)
    ∙ ap (λ told. on_line number told (λ first. with_told first (told_after (number + 1) more (parts rest)))) one.told
    ∙ ap (with_told (told_of t a.packet v)) (lines_told (number + 1) t more verdicts ok.2)

pub files_read : VerdictFilesAreReadBack
unfolding verdict_file
files_read t accepted verdicts ok short =
    let text = verdict_text t accepted verdicts in
    ap (λ b. cond b (Err (0, TooLong)) (told_after 1 accepted (parts text))) (le-ltb most_verdicts (length text) short)
    ∙ lines_told 1 t accepted verdicts ok
