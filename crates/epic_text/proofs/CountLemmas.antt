-- Verdicts are counted one by one.
use Rattle.std.proofs.Common.{◌≡◌, ℕ, ◌+◌, Bool, true, false, cond, List, [], ◌∷◌, ◌++◌, count_by, refl, ap, ◌∙◌, add-zero, zero-add}
use Rattle.std.proofs.lemmas.List.Sums.{sum_by-append}
use Rattle.epic_num.specs.declared.verdict.Verdict.{Verdict}
use Rattle.epic_num.specs.declared.verdict.Verdict.TheVariants.{Proved, Unclaimed, Opened, Forged, Collided}
use Rattle.epic_text.specs.declared.counts.Counts.{Counts}
use Rattle.epic_text.specs.Counts.{is_proved, is_opened, is_forged, is_collided, is_unclaimed, counts_of, counted}

count_last : (p : Verdict → Bool) (vs : List Verdict) (v : Verdict) → count_by p (vs ++ v ∷ []) ≡ count_by p vs + cond (p v) 1 0
count_last p vs v = sum_by-append (λ x. cond (p x) 1 0) vs (v ∷ []) ∙ ap (λ n. count_by p vs + n) (zero-add (cond {A = ℕ} (p v) 1 0))

counts : (p : Verdict → Bool) (vs : List Verdict) (v : Verdict) → p v ≡ true → count_by p (vs ++ v ∷ []) ≡ count_by p vs + 1
counts p vs v is = count_last p vs v ∙ ap (λ (b : Bool). count_by p vs + cond b 1 0) is

skips : (p : Verdict → Bool) (vs : List Verdict) (v : Verdict) → p v ≡ false → count_by p (vs ++ v ∷ []) ≡ count_by p vs
skips p vs v is = count_last p vs v ∙ ap (λ (b : Bool). count_by p vs + cond b 1 0) is ∙ add-zero (count_by p vs)

-- the counts of all kinds, told one by one
same_counts : (steps p p' o o' f f' c c' u u' : ℕ) → p ≡ p' → o ≡ o' → f ≡ f' → c ≡ c' → u ≡ u'
    → ◌≡◌ {A = Counts} (record { steps = steps; proved = p; opened = o; forged = f; collided = c; unclaimed = u })
    (record { steps = steps; proved = p'; opened = o'; forged = f'; collided = c'; unclaimed = u' })
same_counts steps p p' o o' f f' c c' u u' e1 e2 e3 e4 e5 =
    λ i. record { steps = steps; proved = e1 i; opened = e2 i; forged = e3 i; collided = e4 i; unclaimed = e5 i }

-- the counts with one verdict more at the end
pub counts_of-last : (steps : ℕ) (vs : List Verdict) (v : Verdict) → counts_of steps (vs ++ v ∷ []) ≡ counted (counts_of steps vs) v
unfolding counted
counts_of-last steps vs (Proved issue send) =
    let v = Proved issue send in
    same_counts steps _ _ _ _ _ _ _ _ _ _ (counts is_proved vs v refl) (skips is_opened vs v refl) (skips is_forged vs v refl) (skips is_collided vs v refl) (skips is_unclaimed vs v refl)
counts_of-last steps vs (Opened step) =
    let v = Opened step in
    same_counts steps _ _ _ _ _ _ _ _ _ _ (skips is_proved vs v refl) (counts is_opened vs v refl) (skips is_forged vs v refl) (skips is_collided vs v refl) (skips is_unclaimed vs v refl)
counts_of-last steps vs (Forged forgery) =
    let v = Forged forgery in
    same_counts steps _ _ _ _ _ _ _ _ _ _ (skips is_proved vs v refl) (skips is_opened vs v refl) (counts is_forged vs v refl) (skips is_collided vs v refl) (skips is_unclaimed vs v refl)
counts_of-last steps vs (Collided collision) =
    let v = Collided collision in
    same_counts steps _ _ _ _ _ _ _ _ _ _ (skips is_proved vs v refl) (skips is_opened vs v refl) (skips is_forged vs v refl) (counts is_collided vs v refl) (skips is_unclaimed vs v refl)
counts_of-last steps vs Unclaimed =
    same_counts steps _ _ _ _ _ _ _ _ _ _ (skips is_proved vs Unclaimed refl) (skips is_opened vs Unclaimed refl) (skips is_forged vs Unclaimed refl) (skips is_collided vs Unclaimed refl) (counts is_unclaimed vs Unclaimed refl)
