-- The next line of the verdict file judges the next acceptance.
use Rattle.std.proofs.Common.{◌≡◌, ℕ, ◌+◌, ◌<◌, Bool, true, false, List, [], ◌∷◌, length, refl, ap, ◌∙◌, arith}
use Rattle.std.specs.Prelude.{◌||◌, not, Option, Some, None, is_none, is_some, ◌==◌, Result, Ok, Err}
use Rattle.std.proofs.lemmas.Bool.Decides.{nat_tests}
use Rattle.epic_topo.specs.Network.{Network}
use Rattle.epic_ledger.specs.Facts.{Facts}
use Rattle.epic_text.specs.Lines.{parts}
use Rattle.epic_record.specs.declared.fault.FileKind.{FileKind}
use Rattle.epic_record.specs.declared.fault.FileKind.TheVariants.{Missing}
use Rattle.epic_record.specs.declared.fault.LineError.{LineError}
use Rattle.epic_record.specs.declared.fault.LineError.TheVariants as line_error
use Rattle.epic_record.specs.declared.told.Told.{Told}
use Rattle.epic_record.specs.LedgerFile.{on_line}
use Rattle.epic_record.specs.VerdictFile.{told_after, told_in, with_told}
use Rattle.epic_record.specs.VerdictLines.{Acceptance}
use Rattle.epic_record.specs.Words.{IsLine}
use Rattle.epic_judging.specs.Judging.{told_true}
use Rattle.epic_judge.specs.Reaching.{AreRefused, IsReached, IsRead, Reached, behind, first_after}

-- whether the line is true is asked only where none before it was false
asked_first : (first : Option ℕ) (number : ℕ) (b : Bool) → first_after first number (not (is_none first) || b) ≡ first_after first number b
asked_first None number b = refl
asked_first (Some k) number b = refl

module _ (t : Network) (f : Facts) (a : Acceptance) (at : Reached) (line rest : List ℕ) (first : parts at.rest ≡ line ∷ parts rest) where
  -- what the line tells, and what the others tell
  line_told : (r : Result Told FileKind) → told_in a.subject line ≡ r → (more : List Acceptance)
      → told_after (at.number + 1) (a ∷ more) (parts at.rest) ≡ on_line (at.number + 1) r (λ told. with_told told (told_after (at.number + 1 + 1) more (parts rest)))
  line_told r is more =
      ap (told_after (at.number + 1) (a ∷ more)) first
      ∙ ap (λ q. on_line (at.number + 1) q (λ told. with_told told (told_after (at.number + 1 + 1) more (parts rest)))) is

  pub behind_reached : (read : Result Bool LineError) → length rest < length at.rest → IsRead t f a (is_none at.first) line read → IsReached t f (a ∷ []) at (behind at rest read)
  behind_reached (Ok found) shorter is = record {
    line = is.0;
    told = line_told (Ok is.0) is.1;
    number = refl;
    first = ap (first_after at.first (at.number + 1)) is.2 ∙ asked_first at.first (at.number + 1) (told_true t f a.packet a.subject is.0);
    shorter = shorter;
  }
  behind_reached (Err (line_error.Refused kind)) shorter is = line_told (Err kind) is
  behind_reached (Err line_error.OutOfMemory) shorter is = is

-- a line that isn't read
pub unread : (t : Network) (f : Facts) (a : Acceptance) (asked : Bool) (line : List ℕ) (e : LineError) → IsLine (told_in a.subject line) (Err e) → IsRead t f a asked line (Err e)
unread t f a asked line (line_error.Refused kind) h = h
unread t f a asked line line_error.OutOfMemory h = h

-- whether any was false so far
pub asked_is : (first : Option ℕ) (asked : Bool) → is_some first ≡ not asked → asked ≡ is_none first
asked_is None true e = refl
asked_is None false e = absurd (cc)
asked_is (Some k) true e = absurd (cc)
asked_is (Some k) false e = refl

pub nothing : (text : List ℕ) → true ≡ (length text == 0) → text ≡ []
nothing [] h = refl
nothing (byte ∷ text) h = absurd (grind (arith, nat_tests))

-- no line is left
pub none_left : (a : Acceptance) (at : Reached) → at.rest ≡ [] → AreRefused (a ∷ []) at (at.number + 1, Missing)
none_left a at none more = ap (λ text. told_after (at.number + 1) (a ∷ more) (parts text)) none
