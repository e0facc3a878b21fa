-- No line of a verdict file has more than twelve words.
use Rattle.std.proofs.Common.{◌≡◌, ℕ, List, [], ◌∷◌, take, Result, Err, true, cond, refl, ap, sym, ◌∙◌}
use Rattle.std.specs.List.{list_all}
use Rattle.epic_record.specs.declared.fault.FileKind.{FileKind}
use Rattle.epic_record.specs.declared.fault.FileKind.TheVariants.{NotText}
use Rattle.epic_record.specs.declared.told.Told.{Told}
use Rattle.epic_record.specs.VerdictFile.{dest_told, hop_told, told_at_dest, told_at_hop, told_line}
use Rattle.epic_record.specs.Words.{is_plain_byte, pieces}

hop_by_first : (hop : ℕ) (words : List (List ℕ)) → hop_told hop (take 12 words) ≡ hop_told hop words
hop_by_first hop [] = refl
hop_by_first hop (a ∷ []) = refl
hop_by_first hop (a ∷ b ∷ []) = refl
hop_by_first hop (a ∷ b ∷ c ∷ []) = refl
hop_by_first hop (a ∷ b ∷ c ∷ d ∷ []) = refl
hop_by_first hop (a ∷ b ∷ c ∷ d ∷ e ∷ []) = refl
hop_by_first hop (a ∷ b ∷ c ∷ d ∷ e ∷ f ∷ []) = refl
hop_by_first hop (a ∷ b ∷ c ∷ d ∷ e ∷ f ∷ g ∷ []) = refl
hop_by_first hop (a ∷ b ∷ c ∷ d ∷ e ∷ f ∷ g ∷ h ∷ []) = refl
hop_by_first hop (a ∷ b ∷ c ∷ d ∷ e ∷ f ∷ g ∷ h ∷ i ∷ []) = refl
hop_by_first hop (a ∷ b ∷ c ∷ d ∷ e ∷ f ∷ g ∷ h ∷ i ∷ j ∷ []) = refl
hop_by_first hop (a ∷ b ∷ c ∷ d ∷ e ∷ f ∷ g ∷ h ∷ i ∷ j ∷ k ∷ []) = refl
hop_by_first hop (a ∷ b ∷ c ∷ d ∷ e ∷ f ∷ g ∷ h ∷ i ∷ j ∷ k ∷ l ∷ more) = refl

dest_by_first : (words : List (List ℕ)) → dest_told (take 12 words) ≡ dest_told words
dest_by_first [] = refl
dest_by_first (a ∷ []) = refl
dest_by_first (a ∷ b ∷ []) = refl
dest_by_first (a ∷ b ∷ c ∷ []) = refl
dest_by_first (a ∷ b ∷ c ∷ d ∷ []) = refl
dest_by_first (a ∷ b ∷ c ∷ d ∷ e ∷ []) = refl
dest_by_first (a ∷ b ∷ c ∷ d ∷ e ∷ f ∷ []) = refl
dest_by_first (a ∷ b ∷ c ∷ d ∷ e ∷ f ∷ g ∷ []) = refl
dest_by_first (a ∷ b ∷ c ∷ d ∷ e ∷ f ∷ g ∷ h ∷ []) = refl
dest_by_first (a ∷ b ∷ c ∷ d ∷ e ∷ f ∷ g ∷ h ∷ i ∷ []) = refl
dest_by_first (a ∷ b ∷ c ∷ d ∷ e ∷ f ∷ g ∷ h ∷ i ∷ j ∷ []) = refl
dest_by_first (a ∷ b ∷ c ∷ d ∷ e ∷ f ∷ g ∷ h ∷ i ∷ j ∷ k ∷ []) = refl
dest_by_first (a ∷ b ∷ c ∷ d ∷ e ∷ f ∷ g ∷ h ∷ i ∷ j ∷ k ∷ l ∷ more) = refl

plain_line : (by : List (List ℕ) → Result Told FileKind) (line : List ℕ) → list_all is_plain_byte line ≡ true → by (pieces line) ≡ told_line by line
plain_line by line plain = sym (ap (λ b. cond b (by (pieces line)) (Err NotText)) plain)

pub told_at_hop-by_first : (hop : ℕ) (line : List ℕ) (words : List (List ℕ)) → list_all is_plain_byte line ≡ true → words ≡ take 12 (pieces line)
    → hop_told hop words ≡ told_at_hop hop line
unfolding told_at_hop
told_at_hop-by_first hop line words plain is =
    ap (hop_told hop) is ∙ hop_by_first hop (pieces line) ∙ plain_line (hop_told hop) line plain

pub told_at_dest-by_first : (line : List ℕ) (words : List (List ℕ)) → list_all is_plain_byte line ≡ true → words ≡ take 12 (pieces line)
    → dest_told words ≡ told_at_dest line
unfolding told_at_dest
told_at_dest-by_first line words plain is =
    ap dest_told is ∙ dest_by_first (pieces line) ∙ plain_line dest_told line plain
