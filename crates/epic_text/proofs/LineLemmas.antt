-- Lines of words.
use Rattle.std.proofs.Common.{◌≡◌, ℕ, ◌<◌, List, [], ◌∷◌, ◌++◌, length, refl, sym, ap, arith, decimal, append_assoc, ◌∙◌}
use Rattle.epic_text.specs.Line.{line_of}
use Rattle.epic_audit.specs.ForgedText.{words_text}

-- the number, a space, the words and the line feed, one after the other
pub line_parts : (step : ℕ) (words : List ℕ) → ((decimal step ++ (32 ∷ [])) ++ words) ++ (10 ∷ []) ≡ line_of step words
line_parts step words = append_assoc (decimal step ++ (32 ∷ [])) words (10 ∷ []) ∙ append_assoc (decimal step) (32 ∷ []) (words ++ (10 ∷ []))

-- so four words, behind what was there
pub packet_parts : (old number first second third last : List ℕ)
    → (((((((((old ++ number) ++ (32 ∷ [])) ++ first) ++ (32 ∷ [])) ++ second) ++ (32 ∷ [])) ++ third) ++ (32 ∷ [])) ++ last) ++ (10 ∷ [])
    ≡ old ++ (number ++ (32 ∷ (words_text (first ∷ second ∷ third ∷ last ∷ []) ++ (10 ∷ []))))
packet_parts old number first second third last =
    let s = 32 ∷ [] in
    let f = 10 ∷ [] in
    let a = (old ++ number) ++ s in
    let b = (a ++ first) ++ s in
    let c = (b ++ second) ++ s in
    let d = (c ++ third) ++ s in
    let two = third ++ (32 ∷ last) in
    let three = second ++ (32 ∷ two) in
    append_assoc d last f
    ∙ append_assoc (c ++ third) s (last ++ f)
    ∙ append_assoc c third (32 ∷ (last ++ f))
    ∙ append_assoc (b ++ second) s (third ++ (32 ∷ (last ++ f)))
    ∙ append_assoc b second (32 ∷ (third ++ (32 ∷ (last ++ f))))
    ∙ append_assoc (a ++ first) s (second ++ (32 ∷ (third ++ (32 ∷ (last ++ f)))))
    ∙ append_assoc a first (32 ∷ (second ++ (32 ∷ (third ++ (32 ∷ (last ++ f))))))
    ∙ append_assoc (old ++ number) s (first ++ (32 ∷ (second ++ (32 ∷ (third ++ (32 ∷ (last ++ f)))))))
    ∙ append_assoc old number (32 ∷ (first ++ (32 ∷ (second ++ (32 ∷ (third ++ (32 ∷ (last ++ f))))))))
    ∙ ap (λ rest. old ++ (number ++ (32 ∷ rest)))
    (ap (λ rest. first ++ (32 ∷ (second ++ (32 ∷ rest)))) (sym (append_assoc third (32 ∷ last) f))
    ∙ ap (λ rest. first ++ (32 ∷ rest)) (sym (append_assoc second (32 ∷ two) f))
    ∙ sym (append_assoc first (32 ∷ three) f))

-- a word before others
pub words_text-cons : (word : List ℕ) (more : List (List ℕ)) → 0 < length more → words_text (word ∷ more) ≡ word ++ (32 ∷ words_text more)
words_text-cons word [] some = absurd (omega (arith, some))
words_text-cons word (next ∷ more) some = refl
