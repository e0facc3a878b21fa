-- A search that has passed over the first elements of a list.
use Rattle.std.proofs.Common.{◌≡◌, ℕ, zero, suc, ◌+◌, ◌<◌, ◌≤◌, Bool, true, false, ◌||◌, List, [], ◌∷◌, length, drop, Option, Some, None, find, slice_get, refl, ap, sym, ◌∙◌, arith, add-one}
use Rattle.std.specs.Prelude.{option_map}
use Rattle.std.specs.List.{list_any, range_with_len}
use Rattle.std.specs.Option.{option_map_or}
use Rattle.std.proofs.lemmas.Bool.{cond-true, cond-false, or_left}
use Rattle.std.proofs.lemmas.List.FromFn.{length-range_with_len, get_or-range_with_len}
use Rattle.std.proofs.lemmas.Option.{slice_get-get_or}
use Rattle.epic_num.specs.declared.hop.HopName.{HopName}
use Rattle.epic_num.specs.Chains.{Issue, issue_at}
use Rattle.epic_num.proofs.ChainLaws.{issue_at-suc}

-- what stands at a place comes first after the elements before
pub drop_there : {X : Type 0} (xs : List X) (k : ℕ) (x : X) → slice_get xs k ≡ Some x → drop k xs ≡ x ∷ drop (k + 1) xs
drop_there [] k x e = absurd (cc)
drop_there (y ∷ ys) zero x e = let same : y ≡ x = cc in ap (λ z. z ∷ ys) same
drop_there (y ∷ ys) (suc k) x e = rw add-one (drop_there ys k x e ∙ ap (λ n. x ∷ drop n ys) (add-one k))

module _ {X : Type 0} (p : X → Bool) (xs : List X) (k : ℕ) (x : X) (here : drop k xs ≡ x ∷ drop (k + 1) xs) where
  pub found_here : find p (drop k xs) ≡ find p xs → p x ≡ true → find p xs ≡ Some x
  found_here so_far e = sym so_far ∙ (ap (find p) here ∙ cond-true (p x) (Some x) (find p (drop (k + 1) xs)) e)

  pub found_later : find p (drop k xs) ≡ find p xs → p x ≡ false → find p (drop (k + 1) xs) ≡ find p xs
  found_later so_far e = sym (ap (find p) here ∙ cond-false (p x) (Some x) (find p (drop (k + 1) xs)) e) ∙ so_far

  pub any_here : list_any p (drop k xs) ≡ list_any p xs → p x ≡ true → list_any p xs ≡ true
  any_here so_far e = sym so_far ∙ (ap (list_any p) here ∙ or_left (p x) (list_any p (drop (k + 1) xs)) e)

  pub any_later : list_any p (drop k xs) ≡ list_any p xs → p x ≡ false → list_any p (drop (k + 1) xs) ≡ list_any p xs
  any_later so_far e = sym (ap (list_any p) here ∙ ap (λ (b : Bool). b || list_any p (drop (k + 1) xs)) e) ∙ so_far

-- ---- issues, which are numbered from 1

abbrev pub row : Issue → HopName × ℕ
row i = (i.name, i.parent)

issue_there : (issues : List Issue) (k : ℕ) → issue_at issues (k + 1) ≡ slice_get issues k
issue_there issues k = ap (issue_at issues) (add-one k) ∙ issue_at-suc issues k

pub next_issue : (issues : List Issue) (k : ℕ) (r : HopName × ℕ) → Some r ≡ option_map row (issue_at issues (k + 1))
    → drop k issues ≡ record { name = r.0; parent = r.1 } ∷ drop (k + 1) issues
next_issue issues k r e = by (slice_get issues k) refl (e ∙ ap (option_map row) (issue_there issues k))
  where
    by : (o : Option Issue) → slice_get issues k ≡ o → Some r ≡ option_map row o → drop k issues ≡ record { name = r.0; parent = r.1 } ∷ drop (k + 1) issues
    by None h s = absurd (cc)
    by (Some i) h s =
        let same : r ≡ (i.name, i.parent) = ap (λ (o : Option (HopName × ℕ)). option_map_or (λ x. x) o r) s in
        let is : i ≡ record { name = r.0; parent = r.1 } = λ t. record { name = (sym (ap (λ (x : HopName × ℕ). x.0) same)) t; parent = (sym (ap (λ (x : HopName × ℕ). x.1) same)) t } in
        drop_there issues k i h ∙ ap (λ j. j ∷ drop (k + 1) issues) is

pub some_issue : (issues : List Issue) (k : ℕ) → k < length issues → None ≡ option_map row (issue_at issues (k + 1)) → ⊥
some_issue issues k lt e = by issues k lt (e ∙ ap (option_map row) (issue_there issues k))
  where
    by : (is : List Issue) (n : ℕ) → n < length is → None ≡ option_map row (slice_get is n) → ⊥
    by [] n h s = omega arith
    by (i ∷ is) zero h s = cc
    by (i ∷ is) (suc n) h s = by is n (omega arith) s

-- ---- numbers in a row

pub range_at : (n i : ℕ) → i < n → slice_get (range_with_len 0 n) i ≡ Some i
range_at n i lt =
    let inside : i < length (range_with_len 0 n) = omega (arith, length-range_with_len 0 n) in
    slice_get-get_or (range_with_len 0 n) i 0 inside ∙ ap Some (get_or-range_with_len 0 n i 0 lt ∙ zero_more i)
  where
    zero_more : (k : ℕ) → 0 + k ≡ k
    zero_more k = omega arith

pub range_here : (n i : ℕ) → i < n → drop i (range_with_len 0 n) ≡ i ∷ drop (i + 1) (range_with_len 0 n)
range_here n i lt = drop_there (range_with_len 0 n) i i (range_at n i lt)

-- past the last there is none
pub range_over : (n i : ℕ) → n ≤ i → drop i (range_with_len 0 n) ≡ []
range_over n i le = nothing_left (range_with_len 0 n) i (omega (arith, length-range_with_len 0 n))
  where
    nothing_left : (xs : List ℕ) (k : ℕ) → length xs ≤ k → drop k xs ≡ []
    nothing_left [] zero h = refl
    nothing_left [] (suc k) h = refl
    nothing_left (x ∷ xs) zero h = absurd (omega arith)
    nothing_left (x ∷ xs) (suc k) h = nothing_left xs k (omega arith)
