-- The counts of a run's verdicts, and the last line of its report.
use Rattle.std.specs.Prelude.{ℕ, ◌+◌, Bool, true, false, List, [], ◌∷◌, ◌++◌, count_by, codes, decimal}
use Rattle.epic_num.specs.declared.verdict.Verdict.{Verdict}
use Rattle.epic_num.specs.declared.verdict.Verdict.TheVariants.{Proved, Unclaimed, Opened, Forged, Collided}
use Rattle.epic_audit.specs.ForgedText.{words_text}
use Rattle.epic_text.specs.declared.counts.Counts.{Counts}

abbrev pub is_proved : Verdict → Bool
is_proved (Proved issue send) = true
is_proved verdict = false

abbrev pub is_opened : Verdict → Bool
is_opened (Opened step) = true
is_opened verdict = false

abbrev pub is_forged : Verdict → Bool
is_forged (Forged forgery) = true
is_forged verdict = false

abbrev pub is_collided : Verdict → Bool
is_collided (Collided collision) = true
is_collided verdict = false

abbrev pub is_unclaimed : Verdict → Bool
is_unclaimed Unclaimed = true
is_unclaimed verdict = false

-- the counts of a run of so many steps with these verdicts
abbrev pub counts_of : ℕ → List Verdict → Counts
counts_of steps verdicts = record {
  steps = steps;
  proved = count_by is_proved verdicts;
  opened = count_by is_opened verdicts;
  forged = count_by is_forged verdicts;
  collided = count_by is_collided verdicts;
  unclaimed = count_by is_unclaimed verdicts;
}

-- one verdict more is counted
unfoldable pub counted : Counts → Verdict → Counts
counted c (Proved issue send) = record c { proved = c.proved + 1 }
counted c (Opened step) = record c { opened = c.opened + 1 }
counted c (Forged forgery) = record c { forged = c.forged + 1 }
counted c (Collided collision) = record c { collided = c.collided + 1 }
counted c Unclaimed = record c { unclaimed = c.unclaimed + 1 }

-- the acceptances of which something is claimed
abbrev pub accepted : Counts → ℕ
accepted c = c.proved + c.opened + c.forged + c.collided

-- all verdicts
abbrev pub total : Counts → ℕ
total c = accepted c + c.unclaimed

-- the counts of the verdicts that aren't proved
abbrev pub other_words : Counts → List (List ℕ)
other_words c =
    codes "opened"
    ∷ decimal c.opened
    ∷ codes "forged"
    ∷ decimal c.forged
    ∷ codes "collided"
    ∷ decimal c.collided
    ∷ codes "unclaimed"
    ∷ decimal c.unclaimed
    ∷ []

-- the last line
abbrev pub end_words : Counts → List (List ℕ)
end_words c =
    codes "end"
    ∷ decimal c.steps
    ∷ codes "accepted"
    ∷ decimal (accepted c)
    ∷ codes "proved"
    ∷ decimal c.proved
    ∷ other_words c

unfoldable pub end_line : Counts → List ℕ
end_line c = words_text (end_words c) ++ (10 ∷ [])
