-- Each acceptance of the ledger file is judged by its line.
use Rattle.std.proofs.Common.{◌≡◌, ℕ, ◌+◌, Bool, true, false, length, List, [], ◌∷◌, ◌++◌, refl, ap, ◌∙◌}
use Rattle.std.specs.Prelude.{map, flat_map, nat_lt, Result, Ok, Err, if◌then◌else◌}
use Rattle.std.proofs.lemmas.List.{map-append}
use Rattle.epic_ledger.specs.Facts.{Facts, facts_of}
use Rattle.epic_record.specs.declared.fault.FileKind.{FileKind}
use Rattle.epic_record.specs.declared.fault.FileKind.TheVariants.{TooLong}
use Rattle.epic_text.specs.Lines.{parts}
use Rattle.epic_record.specs.declared.item.Item.{Item}
use Rattle.epic_record.specs.declared.told.Told.{Told}
use Rattle.epic_record.specs.LedgerFile.{Fault, history_in, on_line}
use Rattle.epic_record.specs.VerdictFile.{told_in, with_told, told_after, verdict_file, most_verdicts}
use Rattle.epic_record.specs.VerdictLines.{Acceptance, accepted_by, acceptances}
use Rattle.epic_judging.specs.Judgment.{accepted_after, claims, with_verdicts, with_ledger, claims_in}
use Rattle.epic_judging.specs.Laws.{EachIsClaimed}

abbrev accepted : List (Facts × Acceptance) → List Acceptance
accepted rows = map (λ a. a.1) rows

-- those of one line
of_line : (f : Facts) (xs : List Acceptance) → accepted (map (λ a. (f, a)) xs) ≡ xs
of_line f [] = refl
of_line f (x ∷ xs) = ap (λ more. x ∷ more) (of_line f xs)

-- those of all lines
of_lines : (before items : List Item) → accepted (accepted_after before items) ≡ flat_map accepted_by items
of_lines before [] = refl
of_lines before (item ∷ more) =
    map-append (λ (a : Facts × Acceptance). a.1) (map (λ a. (facts_of (history_in before), a)) (accepted_by item)) (accepted_after (before ++ item ∷ []) more)
    ∙ (ap (λ xs. xs ++ accepted (accepted_after (before ++ item ∷ []) more)) (of_line (facts_of (history_in before)) (accepted_by item))
    ∙ ap (λ xs. accepted_by item ++ xs) (of_lines (before ++ item ∷ []) more))

-- there is a claim for each acceptance and each line
abbrev AreAll : List (Facts × Acceptance) → List Told → Type 0
AreAll rows lines = (map (λ c. c.acceptance) (claims rows lines) ≡ accepted rows) × (map (λ c. c.line) (claims rows lines) ≡ lines)

each_row : (number : ℕ) (rows : List (Facts × Acceptance)) (texts : List (List ℕ)) (lines : List Told)
    → told_after number (accepted rows) texts ≡ Ok lines → AreAll rows lines
each_row number [] [] [] e = (refl, refl)
each_row number [] [] (line ∷ lines) e = absurd (cc)
each_row number [] (text ∷ texts) lines e = absurd (cc)
each_row number (a ∷ rows) [] lines e = absurd (cc)
each_row number (a ∷ rows) (text ∷ texts) lines e =
    by (told_in a.1.subject text) (told_after (number + 1) (accepted rows) texts) lines (λ l k. each_row (number + 1) rows texts l k) e
  where
    by : (o : Result Told FileKind) (r : Result (List Told) Fault) (ls : List Told) → ((l : List Told) → r ≡ Ok l → AreAll rows l)
        → on_line number o (λ told. with_told told r) ≡ Ok ls → AreAll (a ∷ rows) ls
    by (Err kind) r ls rest k = absurd (cc)
    by (Ok told) (Err fault) ls rest k = absurd (cc)
    by (Ok told) (Ok more) [] rest k = absurd (cc)
    by (Ok told) (Ok more) (l ∷ ls) rest k =
        let same : more ≡ ls = cc in
        let both = rest ls (ap Ok same) in
        (ap (λ xs. a.1 ∷ xs) both.0, ap (λ xs. l ∷ xs) both.1)

-- where the file isn't too long
in_file : (rows : List (Facts × Acceptance)) (bytes : List ℕ) (lines : List Told) → verdict_file (accepted rows) bytes ≡ Ok lines → AreAll rows lines
unfolding verdict_file
in_file rows bytes lines e = by (nat_lt most_verdicts (length bytes)) e
  where
    by : (b : Bool) → (if b then Err (0, TooLong) else told_after 1 (accepted rows) (parts bytes)) ≡ Ok lines → AreAll rows lines
    by true k = absurd (cc)
    by false k = each_row 1 rows (parts bytes) lines k

of_file : (items : List Item) → accepted (accepted_after [] items) ≡ acceptances items
unfolding acceptances
of_file items = of_lines [] items

pub each_is_claimed : EachIsClaimed
unfolding claims_in
each_is_claimed t ledger verdicts items lines read told =
    let rows = accepted_after [] items in
    let all_of : accepted rows ≡ acceptances items = of_file items in
    let both = in_file rows verdicts lines (ap (λ xs. verdict_file xs verdicts) all_of ∙ told) in (
      claims rows lines,
      ap (with_ledger verdicts) read ∙ ap (with_verdicts items) told,
      both.0 ∙ all_of,
      both.1,
    )
