-- A text in two parts is read where both parts are.
use Rattle.std.proofs.Common.{◌≡◌, ℕ, ◌+◌, ◌==◌, List, length, take, drop, true, not, cond, [], ◌∷◌, ◌++◌, Option, Some, None, refl, sym, ap, ltb, get_or, ◌<◌, ◌*◌, ◌∙◌, arith, position}
use Rattle.std.specs.Option.{option_map, option_zip, option_and_then}
use Rattle.std.specs.List.{list_all, prefix_len}
use Rattle.std.proofs.Math.Seq.{drop-append-add}
use Rattle.std.proofs.lemmas.Bool.{and_parts, eq-eqb, eqb-true, lt-ltb}
use Rattle.std.proofs.lemmas.Option.{none-some, same_Some}
use Rattle.std.proofs.lemmas.List.{length-append, drop_more, take-append-drop, take_at}
use Rattle.std.proofs.lemmas.List.Quantifiers.{position-Some}
use Rattle.epic_num.specs.Names.{joined, parted}

module _ {A B : Type 0} (mark : ℕ) (f : List ℕ → Option A) (g : List ℕ → Option B) (text : List ℕ) where
  pub parted_at : (o : Option ℕ) → position (λ c. c == mark) text ≡ o → parted mark f g text ≡ option_and_then (λ i. option_zip (f (take i text)) (g (drop (i + 1) text))) o
  parted_at o pos = ap (option_and_then (λ i. option_zip (f (take i text)) (g (drop (i + 1) text)))) pos

  pub parted_both : (i : ℕ) (a : A) (b : B) → position (λ c. c == mark) text ≡ Some i → f (take i text) ≡ Some a → g (drop (i + 1) text) ≡ Some b → parted mark f g text ≡ Some (a, b)
  parted_both i a b pos before after =
      parted_at (Some i) pos ∙ ap (λ p. option_zip p (g (drop (i + 1) text))) before ∙ ap (option_zip (Some a)) after

-- the texts of a form that don't have the mark
pub record IsUnmarked {A : Type 0} (mark : ℕ) (f : List ℕ → Option A) : Type 0 where
  pub none : (t : List ℕ) (a : A) → f t ≡ Some a → list_all (λ c. not (c == mark)) t ≡ true

-- the two parts of a text that is read
pub record HasParts {A B : Type 0} (mark : ℕ) (f : List ℕ → Option A) (g : List ℕ → Option B) (text : List ℕ) (a : A) (b : B) : Type 0 where
  pub before : List ℕ
  pub after : List ℕ
  pub whole : text ≡ before ++ (mark ∷ after)
  pub first : f before ≡ Some a
  pub second : g after ≡ Some b

-- where the first mark is
pub split_at_mark : (mark : ℕ) (text : List ℕ) (i : ℕ) → position (λ c. c == mark) text ≡ Some i → text ≡ take i text ++ (mark ∷ drop (i + 1) text)
split_at_mark mark text i pos =
    let found = position-Some (λ c. c == mark) text i 0 pos in
    sym (take-append-drop i text)
    ∙ ap (λ t. take i text ++ t) (drop_more text i 0 found.0 ∙ ap (λ c. c ∷ drop (i + 1) text) (eqb-true (get_or text i 0) mark found.1))

-- and where it is after a text without one
prefix_before : (mark : ℕ) (before after : List ℕ) → list_all (λ c. not (c == mark)) before ≡ true → prefix_len (λ c. not (c == mark)) (before ++ (mark ∷ after)) ≡ length before
prefix_before mark [] after none = ap (λ b. cond (not b) (1 + prefix_len (λ c. not (c == mark)) after) 0) (eq-eqb mark mark refl)
prefix_before mark (c ∷ cs) after none =
    let parts = and_parts (not (c == mark)) (list_all (λ d. not (d == mark)) cs) none in
    ap (λ b. cond b (1 + prefix_len (λ d. not (d == mark)) (cs ++ (mark ∷ after))) 0) parts.0
    ∙ omega (arith, prefix_before mark cs after parts.1)

pub mark_after : (mark : ℕ) (before after : List ℕ) → list_all (λ c. not (c == mark)) before ≡ true → position (λ c. c == mark) (before ++ (mark ∷ after)) ≡ Some (length before)
mark_after mark before after none =
    let at = prefix_before mark before after none in
    let in_text : length before < length (before ++ (mark ∷ after)) = omega (arith, length-append before (mark ∷ after)) in
    ap (λ n. cond (ltb n (length (before ++ (mark ∷ after)))) (Some n) None) at
    ∙ ap (λ b. cond b (Some (length before)) None) (lt-ltb (length before) (length (before ++ (mark ∷ after))) in_text)

both_read : {A B : Type 0} (p : Option A) (q : Option B) (a : A) (b : B) → option_zip p q ≡ Some (a, b) → (p ≡ Some a) × (q ≡ Some b)
both_read None q a b e = cc
both_read (Some x) None a b e = cc
both_read {A} {B} (Some x) (Some y) a b e = (ap (λ (t : A × B). Some t.0) (same_Some (x, y) (a, b) e), ap (λ (t : A × B). Some t.1) (same_Some (x, y) (a, b) e))

pub parted_has_parts : {A B : Type 0} (mark : ℕ) (f : List ℕ → Option A) (g : List ℕ → Option B) (text : List ℕ) (a : A) (b : B) → parted mark f g text ≡ Some (a, b) → HasParts mark f g text a b
parted_has_parts mark f g text a b e = by (position (λ c. c == mark) text) refl
  where
    by : (o : Option ℕ) → position (λ c. c == mark) text ≡ o → HasParts mark f g text a b
    by None pos = absurd (none-some (a, b) (sym (parted_at mark f g text None pos) ∙ e))
    by (Some i) pos = let r = both_read (f (take i text)) (g (drop (i + 1) text)) a b (sym (parted_at mark f g text (Some i) pos) ∙ e) in
        record {
          before = take i text;
          after = drop (i + 1) text;
          whole = split_at_mark mark text i pos;
          first = r.0;
          second = r.1;
        }

pub has_parts_parted : {A B : Type 0} (mark : ℕ) (f : List ℕ → Option A) (g : List ℕ → Option B) (text : List ℕ) (a : A) (b : B) → IsUnmarked mark f → HasParts mark f g text a b → parted mark f g text ≡ Some (a, b)
has_parts_parted mark f g text a b u h =
    ap (parted mark f g) h.whole
    ∙ parted_both mark f g (h.before ++ (mark ∷ h.after)) (length h.before) a b
    (mark_after mark h.before h.after (u.none h.before a h.first))
    (ap f (take_at h.before (mark ∷ h.after) (length h.before) refl) ∙ h.first)
    (ap g (drop-append-add h.before (mark ∷ h.after) 1) ∙ h.second)

pub parted_parts : {A B : Type 0} (mark : ℕ) (f : List ℕ → Option A) (g : List ℕ → Option B) (text : List ℕ) (p : A × B) → parted mark f g text ≡ Some p → HasParts mark f g text p.0 p.1
parted_parts mark f g text (a, b) e = parted_has_parts mark f g text a b e

-- two numbers read as one
pub record JoinsParts (mark weight : ℕ) (f g : List ℕ → Option ℕ) (text : List ℕ) (n : ℕ) : Type 0 where
  pub high : ℕ
  pub low : ℕ
  pub parts : HasParts mark f g text high low
  pub value : n ≡ high * weight + low

pub joined_joins : (mark weight : ℕ) (f g : List ℕ → Option ℕ) (text : List ℕ) (n : ℕ) → joined mark weight f g text ≡ Some n → JoinsParts mark weight f g text n
joined_joins mark weight f g text n e = by (parted mark f g text) refl
  where
    by : (o : Option (ℕ × ℕ)) → parted mark f g text ≡ o → JoinsParts mark weight f g text n
    by None none = absurd (none-some n (sym (ap (option_map (λ p. p.0 * weight + p.1)) none) ∙ e))
    by (Some p) some = record {
      high = p.0;
      low = p.1;
      parts = parted_parts mark f g text p some;
      value = same_Some n (p.0 * weight + p.1) (sym e ∙ ap (option_map (λ q. q.0 * weight + q.1)) some);
    }
