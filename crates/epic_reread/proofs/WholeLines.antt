-- A line is read as what its words were written of.
use Rattle.std.proofs.Common.{◌≡◌, ℕ, ◌<◌, ◌^◌, List, ◌∷◌, refl, ap, ◌∙◌, arith, codes, cond, decimal, Result, Ok, Err, Some}
use Rattle.std.proofs.lemmas.Bool.{eq-eqb}
use Rattle.epic_audit.specs.ForgedText.{words_text}
use Rattle.epic_text.specs.RunScript.{most8}
use Rattle.epic_record.specs.declared.fault.FileKind.{FileKind}
use Rattle.epic_record.specs.declared.fault.FileKind.TheVariants.{BadPlace, NotText}
use Rattle.epic_record.specs.declared.told.Told.{Told}
use Rattle.epic_record.specs.VerdictFile.{at_index, dest_told, hop_told, told_at_dest, told_at_hop, told_line}
use Rattle.epic_record.specs.VerdictWords.{verdict_of}
use Rattle.epic_record.specs.Words.{pieces}
use Rattle.epic_reread.specs.Rereading.{CanBeTold}
use Rattle.epic_reread.proofs.Clean.{AreAbove, IsAbove, all_weaker, cut, joined_above, weaker}
use Rattle.epic_reread.proofs.Forms.{told_above, told_read, told_words}
use Rattle.epic_reread.proofs.Readings.{number_read}
use Rattle.epic_reread.proofs.Texts.{decimal_above}

pub words_above : (words : List (List ℕ)) → AreAbove 44 words → IsAbove 32 (words_text words)
words_above words h = joined_above 32 32 refl words (all_weaker 32 44 words (omega arith) h)

line_told : (by : List (List ℕ) → Result Told FileKind) (word : List ℕ) (words : List (List ℕ)) → AreAbove 44 (word ∷ words)
    → told_line by (words_text (word ∷ words)) ≡ by (word ∷ words)
line_told by word words h =
    ap (λ b. cond b (by (pieces (words_text (word ∷ words)))) (Err NotText))
    (words_above (word ∷ words) h)
    ∙ ap by (cut 32 44 (omega arith) word words h)

hop_words_read : (hop : ℕ) (v : Told) → hop < 2 ^ 8 → CanBeTold v → hop_told hop (codes "hop" ∷ decimal hop ∷ told_words v) ≡ Ok v
hop_words_read hop v small ok =
    ap (λ o. at_index hop o (verdict_of 3 o (told_words v))) (number_read most8 hop (omega arith) (omega (arith, small)))
    ∙ ap (at_index hop (Some hop)) (told_read 3 hop v ok)
    ∙ ap (λ b. cond b (Ok v) (Err BadPlace)) (eq-eqb hop hop refl)

-- ---- the whole line: its bytes are plain, and it is read

hop_above : (hop : ℕ) (v : Told) → hop < 2 ^ 8 → CanBeTold v → AreAbove 44 (codes "hop" ∷ decimal hop ∷ told_words v)
hop_above hop v small ok = (refl, (weaker 44 45 (decimal hop) (omega arith) (decimal_above hop (omega (arith, small))), told_above v ok))

dest_above : (v : Told) → CanBeTold v → AreAbove 44 (codes "dest" ∷ told_words v)
dest_above v ok = (refl, told_above v ok)

pub hop_line_plain : (hop : ℕ) (v : Told) → hop < 2 ^ 8 → CanBeTold v → IsAbove 32 (words_text (codes "hop" ∷ decimal hop ∷ told_words v))
hop_line_plain hop v small ok = words_above (codes "hop" ∷ decimal hop ∷ told_words v) (hop_above hop v small ok)

pub dest_line_plain : (v : Told) → CanBeTold v → IsAbove 32 (words_text (codes "dest" ∷ told_words v))
dest_line_plain v ok = words_above (codes "dest" ∷ told_words v) (dest_above v ok)

pub hop_line_read : (hop : ℕ) (v : Told) → hop < 2 ^ 8 → CanBeTold v → told_at_hop hop (words_text (codes "hop" ∷ decimal hop ∷ told_words v)) ≡ Ok v
unfolding told_at_hop
hop_line_read hop v small ok =
    line_told (hop_told hop) (codes "hop") (decimal hop ∷ told_words v) (hop_above hop v small ok) ∙ hop_words_read hop v small ok

pub dest_line_read : (v : Told) → CanBeTold v → told_at_dest (words_text (codes "dest" ∷ told_words v)) ≡ Ok v
unfolding told_at_dest
dest_line_read v ok = line_told dest_told (codes "dest") (told_words v) (dest_above v ok) ∙ told_read 2 0 v ok
