-- What begins a text of a form, by the parts of the form.
use Rattle.std.proofs.Common.{◌≡◌, ◌⊎◌, inl, inr, ℕ, zero, suc, ◌+◌, ◌<◌, ◌≤◌, ◌==◌, List, [], ◌∷◌, ◌++◌, length, take, drop, get_or, Bool, true, false, not, Option, Some, None, refl, sym, ap, ◌∙◌, arith, append_assoc, position, cond, ltb}
use Rattle.std.specs.List.{list_all, position_or_len}
use Rattle.std.specs.Option.{option_map, option_or}
use Rattle.std.proofs.Math.Seq.{take-add}
use Rattle.std.proofs.lemmas.Bool.{and_from, and_parts, eqb-true, eq-eqb, ltb-false}
use Rattle.std.proofs.lemmas.List.{append-nil, length-take, take_all, take_more, take-append-drop, take-append-le}
use Rattle.std.proofs.lemmas.List.Quantifiers.{position-Some}
use Rattle.std.proofs.lemmas.List.Sums.{fails_before_first}
use Rattle.std.proofs.lemmas.Option.{none-some}
use Rattle.epic_num.specs.Names.{parted}
use Rattle.epic_num.specs.Spellings.{Begins}
use Rattle.epic_num.proofs.Parts.{IsUnmarked, has_parts_parted, parted_parts}

-- a form that has a text
pub record HasText {A : Type 0} (f : List ℕ → Option A) : Type 0 where
  pub text : List ℕ
  pub value : A
  pub read : f text ≡ Some value

-- a text of the form begins itself
pub begins_whole : {A : Type 0} (f : List ℕ → Option A) (text : List ℕ) (a : A) → f text ≡ Some a → Begins f text
begins_whole f text a e = record { rest = []; value = a; whole = ap f (append-nil text) ∙ e }

pub begins_front : {A : Type 0} (f : List ℕ → Option A) (xs ys : List ℕ) → Begins f (xs ++ ys) → Begins f xs
begins_front f xs ys h = record { rest = ys ++ h.rest; value = h.value; whole = ap f (sym (append_assoc xs ys h.rest)) ∙ h.whole }

-- one form or another
pub begins_map : {A B : Type 0} (h : A → B) (f : List ℕ → Option A) (xs : List ℕ) → Begins f xs → Begins (λ t. option_map h (f t)) xs
begins_map h f xs b = record { rest = b.rest; value = h b.value; whole = ap (option_map h) b.whole }

pub map_begins : {A B : Type 0} (h : A → B) (f : List ℕ → Option A) (xs : List ℕ) → Begins (λ t. option_map h (f t)) xs → Begins f xs
map_begins {A} {B} h f xs b = by (f (xs ++ b.rest)) refl
  where
    by : (o : Option A) → f (xs ++ b.rest) ≡ o → Begins f xs
    by None none = absurd (none-some b.value (sym (ap (option_map h) none) ∙ b.whole))
    by (Some a) some = record { rest = b.rest; value = a; whole = some }

pub begins_either : {A : Type 0} (f g : List ℕ → Option A) (xs : List ℕ) → Begins (λ t. option_or (f t) (g t)) xs → Begins f xs ⊎ Begins g xs
begins_either {A} f g xs b = by (f (xs ++ b.rest)) refl
  where
    by : (o : Option A) → f (xs ++ b.rest) ≡ o → Begins f xs ⊎ Begins g xs
    by None none = inr (record { rest = b.rest; value = b.value; whole = sym (ap (λ o. option_or o (g (xs ++ b.rest))) none) ∙ b.whole })
    by (Some a) some = inl (record { rest = b.rest; value = a; whole = some })

pub begins_first : {A : Type 0} (f g : List ℕ → Option A) (xs : List ℕ) → Begins f xs → Begins (λ t. option_or (f t) (g t)) xs
begins_first f g xs b = record { rest = b.rest; value = b.value; whole = ap (λ o. option_or o (g (xs ++ b.rest))) b.whole }

pub begins_second : {A : Type 0} (f g : List ℕ → Option A) (xs : List ℕ) → Begins g xs → Begins (λ t. option_or (f t) (g t)) xs
begins_second {A} f g xs b = by (f (xs ++ b.rest)) refl
  where
    by : (o : Option A) → f (xs ++ b.rest) ≡ o → Begins (λ t. option_or (f t) (g t)) xs
    by None none = record { rest = b.rest; value = b.value; whole = ap (λ o. option_or o (g (xs ++ b.rest))) none ∙ b.whole }
    by (Some a) some = record { rest = b.rest; value = a; whole = ap (λ o. option_or o (g (xs ++ b.rest))) some }

-- two parts: before the mark
pub begins_before : {A B : Type 0} (mark : ℕ) (f : List ℕ → Option A) (g : List ℕ → Option B) (xs : List ℕ) → IsUnmarked mark f → HasText g → Begins f xs → Begins (parted mark f g) xs
begins_before mark f g xs u t b = record {
  rest = b.rest ++ (mark ∷ t.text);
  value = (b.value, t.value);
  whole = has_parts_parted mark f g (xs ++ (b.rest ++ (mark ∷ t.text))) b.value t.value u
      (record {
        before = xs ++ b.rest;
        after = t.text;
        whole = sym (append_assoc xs b.rest (mark ∷ t.text));
        first = b.whole;
        second = t.read;
      });
}

-- and after it
pub begins_after : {A B : Type 0} (mark : ℕ) (f : List ℕ → Option A) (g : List ℕ → Option B) (xs ys : List ℕ) (a : A) → IsUnmarked mark f → f xs ≡ Some a → Begins g ys → Begins (parted mark f g) (xs ++ (mark ∷ ys))
begins_after mark f g xs ys a u e b = record {
  rest = b.rest;
  value = (a, b.value);
  whole = has_parts_parted mark f g ((xs ++ (mark ∷ ys)) ++ b.rest) a b.value u
      (record {
        before = xs;
        after = ys ++ b.rest;
        whole = append_assoc xs (mark ∷ ys) b.rest;
        first = e;
        second = b.whole;
      });
}

-- lists that begin alike
same_head : (x y : ℕ) (xs ys : List ℕ) → x ∷ xs ≡ y ∷ ys → x ≡ y
same_head x y xs ys e = cc

same_tail : (x y : ℕ) (xs ys : List ℕ) → x ∷ xs ≡ y ∷ ys → xs ≡ ys
same_tail x y xs ys e = cc

not_mark : (mark c : ℕ) (cs : List ℕ) → list_all (λ d. not (d == mark)) (c ∷ cs) ≡ true → c ≡ mark → ⊥
not_mark mark c cs free e =
    let parts = and_parts (not (c == mark)) (list_all (λ d. not (d == mark)) cs) free in
    let clash : true ≡ false = sym parts.0 ∙ ap not (eq-eqb c mark e) in cc

tail_free : (mark c : ℕ) (cs : List ℕ) → list_all (λ d. not (d == mark)) (c ∷ cs) ≡ true → list_all (λ d. not (d == mark)) cs ≡ true
tail_free mark c cs free = (and_parts (not (c == mark)) (list_all (λ d. not (d == mark)) cs) free).1

-- a front without the mark is a front of the first part
front_of : (mark : ℕ) (xs r b a : List ℕ) → list_all (λ c. not (c == mark)) xs ≡ true → xs ++ r ≡ b ++ (mark ∷ a) → (rest : List ℕ) × (b ≡ xs ++ rest)
front_of mark [] r b a free e = (b, refl)
front_of mark (x ∷ xs) r [] a free e = absurd (not_mark mark x xs free (same_head x mark (xs ++ r) a e))
front_of mark (x ∷ xs) r (y ∷ b) a free e =
    let f = front_of mark xs r b a (tail_free mark x xs free) (same_tail x y (xs ++ r) (b ++ (mark ∷ a)) e) in
    (f.0, ap (λ t. y ∷ t) f.1 ∙ ap (λ c. c ∷ (xs ++ f.0)) (sym (same_head x y (xs ++ r) (b ++ (mark ∷ a)) e)))

-- the first mark parts a text in one way
same_parts : (mark : ℕ) (xs ys b a : List ℕ) → list_all (λ c. not (c == mark)) xs ≡ true → list_all (λ c. not (c == mark)) b ≡ true → xs ++ (mark ∷ ys) ≡ b ++ (mark ∷ a) → (xs ≡ b) × (ys ≡ a)
same_parts mark [] ys [] a free clear e = (refl, same_tail mark mark ys a e)
same_parts mark [] ys (y ∷ b) a free clear e = absurd (not_mark mark y b clear (sym (same_head mark y ys (b ++ (mark ∷ a)) e)))
same_parts mark (x ∷ xs) ys [] a free clear e = absurd (not_mark mark x xs free (same_head x mark (xs ++ (mark ∷ ys)) a e))
same_parts mark (x ∷ xs) ys (y ∷ b) a free clear e =
    let s = same_parts mark xs ys b a (tail_free mark x xs free) (tail_free mark y b clear) (same_tail x y (xs ++ (mark ∷ ys)) (b ++ (mark ∷ a)) e) in
    (ap (λ c. c ∷ xs) (same_head x y (xs ++ (mark ∷ ys)) (b ++ (mark ∷ a)) e) ∙ ap (λ t. y ∷ t) s.0, s.1)

pub before_begins : {A B : Type 0} (mark : ℕ) (f : List ℕ → Option A) (g : List ℕ → Option B) (xs : List ℕ) → list_all (λ c. not (c == mark)) xs ≡ true → Begins (parted mark f g) xs → Begins f xs
before_begins mark f g xs free b =
    let h = parted_parts mark f g (xs ++ b.rest) b.value b.whole in
    let r = front_of mark xs b.rest h.before h.after free h.whole in
    record { rest = r.0; value = b.value.0; whole = ap f (sym r.1) ∙ h.first }

-- what begins after the mark
pub record BeginsAfter {A B : Type 0} (f : List ℕ → Option A) (g : List ℕ → Option B) (xs ys : List ℕ) : Type 0 where
  pub value : A
  pub first : f xs ≡ Some value
  pub second : Begins g ys

pub after_begins : {A B : Type 0} (mark : ℕ) (f : List ℕ → Option A) (g : List ℕ → Option B) (xs ys : List ℕ) → IsUnmarked mark f → list_all (λ c. not (c == mark)) xs ≡ true → Begins (parted mark f g) (xs ++ (mark ∷ ys)) → BeginsAfter f g xs ys
after_begins mark f g xs ys u free b =
    let h = parted_parts mark f g ((xs ++ (mark ∷ ys)) ++ b.rest) b.value b.whole in
    let s = same_parts mark xs (ys ++ b.rest) h.before h.after free (u.none h.before b.value.0 h.first) (sym (append_assoc xs (mark ∷ ys) b.rest) ∙ h.whole) in
    record {
      value = b.value.0;
      first = ap f s.0 ∙ h.first;
      second = record { rest = b.rest; value = b.value.1; whole = ap g s.1 ∙ h.second };
    }

-- what stands before the first mark has none
free_front : (q : ℕ → Bool) (i : ℕ) (text : List ℕ) → i ≤ length text → ((k : ℕ) → k < i → q (get_or text k 0) ≡ true) → list_all q (take i text) ≡ true
free_front q zero text in_text each = refl
free_front q (suc i) [] in_text each = refl
free_front q (suc i) (x ∷ xs) in_text each =
    and_from (q x) (list_all q (take i xs)) (each 0 (omega arith)) (free_front q i xs (omega arith) (λ k small. each (suc k) (omega arith)))

pub free_before : (mark : ℕ) (text : List ℕ) (i : ℕ) → position (λ c. c == mark) text ≡ Some i → list_all (λ c. not (c == mark)) (take i text) ≡ true
free_before mark text i pos =
    let p = position-Some (λ c. c == mark) text i 0 pos in
    free_front (λ c. not (c == mark)) i text (omega (arith, p.0)) (λ k small. ap not (p.2 k small))

pub free_text : (mark : ℕ) (text : List ℕ) → position (λ c. c == mark) text ≡ None → list_all (λ c. not (c == mark)) text ≡ true
free_text mark text pos = by (ltb n (length text)) refl
  where
    n : ℕ
    n = position_or_len (λ c. c == mark) text

    by : (b : Bool) → ltb n (length text) ≡ b → list_all (λ c. not (c == mark)) text ≡ true
    by true e = absurd (none-some n (sym pos ∙ ap (λ b. cond b (Some n) None) e))
    by false e =
        ap (list_all (λ c. not (c == mark))) (sym (take_all (length text) text (omega arith)))
        ∙ free_front (λ c. not (c == mark)) (length text) text (omega arith)
        (λ k small. ap not (fails_before_first (λ c. c == mark) text k 0 (omega (arith, ltb-false n (length text) e))))

-- the first k bytes, before the mark and past it
pub take_before : (k i : ℕ) (text : List ℕ) → k ≤ i → i ≤ length text → take k text ≡ take k (take i text)
take_before k i text small in_text =
    ap (take k) (sym (take-append-drop i text))
    ∙ take-append-le k (take i text) (drop i text) (omega (arith, length-take i text))

pub take_after : (mark : ℕ) (text : List ℕ) (i m : ℕ) → position (λ c. c == mark) text ≡ Some i → take (i + 1 + m) text ≡ take i text ++ (mark ∷ take m (drop (i + 1) text))
take_after mark text i m pos =
    let p = position-Some (λ c. c == mark) text i 0 pos in
    take-add (i + 1) m text
    ∙ ap (λ t. t ++ take m (drop (i + 1) text)) (take_more text i 0 p.0 ∙ ap (λ c. take i text ++ (c ∷ [])) (eqb-true (get_or text i 0) mark p.1))
    ∙ append_assoc (take i text) (mark ∷ []) (take m (drop (i + 1) text))
