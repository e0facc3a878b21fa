-- Where a text in parts leaves its form.
use Rattle.std.proofs.Common.{◌≡◌, inl, inr, Bool, true, false, not, ltb, ℕ, ◌+◌, ◌-◌, ◌<◌, ◌≤◌, ◌==◌, List, length, max, take, drop, Option, Some, None, Result, Ok, Err, IfOk, IfErr, option_map, refl, sym, ap, subst, ◌∙◌, arith, position}
use Rattle.std.specs.Option.{option_or, option_zip}
use Rattle.std.specs.List.{list_all}
use Rattle.std.proofs.lemmas.Bool.{and_parts, ltb-true, ltb-false}
use Rattle.std.proofs.lemmas.List.{length-take, length-drop, take_all, take-append-drop}
use Rattle.std.proofs.lemmas.List.Folds.{list_all-append}
use Rattle.std.proofs.lemmas.List.Quantifiers.{position-Some}
use Rattle.std.proofs.lemmas.Option.{none-some}
use Rattle.epic_num.specs.Names.{parted}
use Rattle.epic_num.specs.Spellings.{Begins, IsMisspelt}
use Rattle.epic_num.proofs.Fronts.{BeginsAfter, HasText, after_begins, before_begins, begins_after, begins_before, begins_either, begins_first, begins_map, begins_second, begins_whole, free_before, free_text, map_begins, take_after, take_before}
use Rattle.epic_num.proofs.Parts.{IsUnmarked, parted_at}

zip_none : {A B : Type 0} (p : Option A) → option_zip {U = B} p None ≡ None
zip_none None = refl
zip_none (Some a) = refl

pub IsMisspelt-option_map : {A B : Type 0} (h : A → B) (f : List ℕ → Option A) (text : List ℕ) (at : ℕ) → IsMisspelt f text at → IsMisspelt (λ t. option_map h (f t)) text at
IsMisspelt-option_map h f text at m = record {
  unread = ap (option_map h) m.unread;
  in_text = m.in_text;
  begins = begins_map h f (take at text) m.begins;
  longest = λ k in_text b. m.longest k in_text (map_begins h f (take k text) b);
}

-- two cases of an order
pub by_order : (i k : ℕ) (P : Type 0) → (k ≤ i → P) → (i < k → P) → P
by_order i k P small large = by (ltb i k) refl
  where
    by : (b : Bool) → ltb i k ≡ b → P
    by true e = large (ltb-true i k e)
    by false e = small (ltb-false i k e)

-- the further of two
larger : (f : ℕ → Type 0) (i j : ℕ) → f i → f j → f (max i j)
larger f i j a b = by_order i j (f (max i j)) (λ small. let e : i ≡ max i j = omega arith in subst f e a) (λ large. let e : j ≡ max i j = omega arith in subst f e b)

pub IsMisspelt-option_or : {A : Type 0} (f g : List ℕ → Option A) (text : List ℕ) (i j : ℕ) → IsMisspelt f text i → IsMisspelt g text j → IsMisspelt (λ t. option_or (f t) (g t)) text (max i j)
IsMisspelt-option_or f g text i j m n = record {
  unread = ap (λ o. option_or o (g text)) m.unread ∙ n.unread;
  in_text = omega (arith, m.in_text, n.in_text);
  begins = larger (λ k. Begins (λ t. option_or (f t) (g t)) (take k text)) i j (begins_first f g (take i text) m.begins) (begins_second f g (take j text) n.begins);
  longest = λ k in_text b. elim (begins_either f g (take k text) b) [
    | inl h ↦ omega (arith, m.longest k in_text h)
    | inr h ↦ omega (arith, n.longest k in_text h)
  ];
}

-- a front of a text without the mark
free_take : (mark k : ℕ) (xs : List ℕ) → list_all (λ c. not (c == mark)) xs ≡ true → list_all (λ c. not (c == mark)) (take k xs) ≡ true
free_take mark k xs free =
    (and_parts (list_all (λ c. not (c == mark)) (take k xs)) (list_all (λ c. not (c == mark)) (drop k xs))
    (sym (list_all-append (λ c. not (c == mark)) (take k xs) (drop k xs)) ∙ ap (list_all (λ c. not (c == mark))) (take-append-drop k xs) ∙ free)).0

module _ {A B : Type 0} (mark : ℕ) (f : List ℕ → Option A) (g : List ℕ → Option B) (u : IsUnmarked mark f) (t : HasText g) (text : List ℕ) where
  -- a front that goes past the mark
  past_mark : (i k : ℕ) → position (λ c. c == mark) text ≡ Some i → i < k → Begins (parted mark f g) (take k text) → BeginsAfter f g (take i text) (take (k - (i + 1)) (drop (i + 1) text))
  past_mark i k pos large b =
      let m = k - (i + 1) in
      let whole : k ≡ i + 1 + m = omega arith in
      after_begins mark f g (take i text) (take m (drop (i + 1) text)) u (free_before mark text i pos)
      (subst (Begins (parted mark f g)) (ap (λ n. take n text) whole ∙ take_after mark text i m pos) b)

  pub before_misspelt : (i at : ℕ) → position (λ c. c == mark) text ≡ Some i → IsMisspelt f (take i text) at → IsMisspelt (parted mark f g) text at
  before_misspelt i at pos m = record {
    unread = parted_at mark f g text (Some i) pos ∙ ap (λ p. option_zip p (g (drop (i + 1) text))) m.unread;
    in_text = omega (arith, m.in_text, length-take i text);
    begins = subst (Begins (parted mark f g)) (sym (take_before at i text (omega (arith, m.in_text, length-take i text)) (omega (arith, found))))
        (begins_before mark f g (take at (take i text)) u t m.begins);
    longest = λ k in_text b. by_order i k (k ≤ at) (λ small. short k small b) (λ large. long k large b);
  }
    where
      found : i < length text
      found = (position-Some (λ c. c == mark) text i 0 pos).0

      short : (k : ℕ) → k ≤ i → Begins (parted mark f g) (take k text) → k ≤ at
      short k small b =
          m.longest k (omega (arith, length-take i text, small, found))
          (before_begins mark f g (take k (take i text)) (free_take mark k (take i text) (free_before mark text i pos))
          (subst (Begins (parted mark f g)) (take_before k i text small (omega (arith, found))) b))

      long : (k : ℕ) → i < k → Begins (parted mark f g) (take k text) → k ≤ at
      long k large b = let h = past_mark i k pos large b in absurd (none-some h.value (sym m.unread ∙ h.first))

  pub after_misspelt : (i at : ℕ) (a : A) → position (λ c. c == mark) text ≡ Some i → f (take i text) ≡ Some a → IsMisspelt g (drop (i + 1) text) at → IsMisspelt (parted mark f g) text (i + 1 + at)
  after_misspelt i at a pos before m = record {
    unread = parted_at mark f g text (Some i) pos ∙ ap (option_zip (f (take i text))) m.unread ∙ zip_none (f (take i text));
    in_text = omega (arith, m.in_text, length-drop (i + 1) text, found);
    begins = subst (Begins (parted mark f g)) (sym (take_after mark text i at pos))
        (begins_after mark f g (take i text) (take at (drop (i + 1) text)) a u before m.begins);
    longest = λ k in_text b. by_order i k (k ≤ i + 1 + at) (λ small. omega arith) (λ large. long k in_text large b);
  }
    where
      found : i < length text
      found = (position-Some (λ c. c == mark) text i 0 pos).0

      long : (k : ℕ) → k ≤ length text → i < k → Begins (parted mark f g) (take k text) → k ≤ i + 1 + at
      long k in_text large b =
          let h = past_mark i k pos large b in
          omega (arith, m.longest (k - (i + 1)) (omega (arith, length-drop (i + 1) text)) h.second)

  unmarked_misspelt : (at : ℕ) → position (λ c. c == mark) text ≡ None → IsMisspelt f text at → IsMisspelt (parted mark f g) text at
  unmarked_misspelt at pos m = record {
    unread = parted_at mark f g text None pos;
    in_text = m.in_text;
    begins = begins_before mark f g (take at text) u t m.begins;
    longest = λ k in_text b. m.longest k in_text (before_begins mark f g (take k text) (free_take mark k text (free_text mark text pos)) b);
  }

  unended : (a : A) → position (λ c. c == mark) text ≡ None → f text ≡ Some a → IsMisspelt (parted mark f g) text (length text)
  unended a pos read = record {
    unread = parted_at mark f g text None pos;
    in_text = omega arith;
    begins = subst (Begins (parted mark f g)) (sym (take_all (length text) text (omega arith)))
        (begins_before mark f g text u t (begins_whole f text a read));
    longest = λ k in_text b. in_text;
  }

  -- the end of a text without a mark, by what its only part tells
  pub unmarked : (r : Result A ℕ) (end : ℕ) → position (λ c. c == mark) text ≡ None → IfOk r (λ a. f text ≡ Some a) → IfErr r (IsMisspelt f text) → IfOk r (λ n. end ≡ length text) → IfErr r (λ at. end ≡ at) → IsMisspelt (parted mark f g) text end
  unmarked (Ok a) end pos ok err whole at = rw whole (unended a pos ok)
  unmarked (Err e) end pos ok err whole at = rw at (unmarked_misspelt e pos err)
