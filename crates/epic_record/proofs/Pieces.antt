-- The words of a line are no longer than the line, and no line has more than twelve.
use Rattle.std.proofs.Common.{◌≡◌, ℕ, ◌≤◌, List, [], ◌∷◌, length, take, Err, true, cond, refl, ap, sym, ◌∙◌}
use Rattle.std.proofs.lemmas.List.Elements.{All-take}
use Rattle.std.specs.List.{All, list_all}
use Rattle.epic_text.proofs.Short.{parts_short}
use Rattle.epic_record.specs.declared.fault.FileKind.TheVariants.{NotText}
use Rattle.epic_record.specs.LedgerLine.{item_of, told_by_words}
use Rattle.epic_record.specs.Words.{is_plain_byte, is_space, pieces}

pub first_words_short : (line : List ℕ) → All (λ word. length word ≤ length line) (take 12 (pieces line))
first_words_short line = All-take (λ word. length word ≤ length line) 12 (pieces line) (parts_short is_space line)

-- what a line of a ledger file tells stands in its first twelve words
pub told_by_first : (words : List (List ℕ)) → told_by_words (take 12 words) ≡ told_by_words words
told_by_first [] = refl
told_by_first (a ∷ []) = refl
told_by_first (a ∷ b ∷ []) = refl
told_by_first (a ∷ b ∷ c ∷ []) = refl
told_by_first (a ∷ b ∷ c ∷ d ∷ []) = refl
told_by_first (a ∷ b ∷ c ∷ d ∷ e ∷ []) = refl
told_by_first (a ∷ b ∷ c ∷ d ∷ e ∷ f ∷ []) = refl
told_by_first (a ∷ b ∷ c ∷ d ∷ e ∷ f ∷ g ∷ []) = refl
told_by_first (a ∷ b ∷ c ∷ d ∷ e ∷ f ∷ g ∷ h ∷ more) = refl

pub item_by_first : (line : List ℕ) (words : List (List ℕ)) → list_all is_plain_byte line ≡ true → words ≡ take 12 (pieces line)
    → told_by_words words ≡ item_of line
unfolding item_of
item_by_first line words plain is =
    ap told_by_words is
    ∙ told_by_first (pieces line)
    ∙ sym (ap (λ b. cond b (told_by_words (pieces line)) (Err NotText)) plain)
