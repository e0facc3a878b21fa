-- Where the reading of a numeral stops.
use Rattle.std.proofs.Common.{◌≡◌, ℕ, ◌+◌, ◌-◌, ◌<◌, ◌≤◌, List, [], ◌∷◌, ◌++◌, length, take, drop, get_or, true, Option, Some, None, IfErr, ok_or, sym, ap, subst, ◌∙◌, arith}
use Rattle.std.specs.Char.{digit_value}
use Rattle.std.proofs.Math.Seq.{take-add}
use Rattle.std.proofs.lemmas.Grind.{common_steps}
use Rattle.std.proofs.lemmas.List.{length-take, take_all, take_more, take-append-drop}
use Rattle.std.proofs.lemmas.Option.{none-some}
use Rattle.epic_num.specs.Names.{Writes, is_digit_of, numeral_of, within}
use Rattle.epic_num.specs.Spellings.{Begins, IsMisspelt}
use Rattle.epic_num.proofs.Fronts.{begins_front, begins_whole}
use Rattle.epic_num.proofs.Misspelt.{by_order}
use Rattle.epic_num.proofs.Numerals.{never_mended, numeral_one, reads_numeral}

-- `0` and `1` are digits of each base
least_digit : (base least : ℕ) → 2 ≤ base → least ≤ 1 → (is_digit_of base (48 + least) ≡ true) × (digit_value (48 + least) ≡ least)
least_digit base least b l = (grind (arith, common_steps), grind (arith, common_steps))

module _ (base least most : ℕ) (b : 2 ≤ base) (b16 : base ≤ 16) (l : least ≤ 1) (fits : least ≤ most) where
  -- nothing begins the least number
  none_begins : Begins (λ t. within least most (numeral_of base t)) []
  none_begins =
      let d = least_digit base least b l in
      record {
        rest = (48 + least) ∷ [];
        value = digit_value (48 + least);
        whole = reads_numeral base least most ((48 + least) ∷ []) (digit_value (48 + least))
            (numeral_one base least most (48 + least) d.0 (omega (arith, d.1)) (omega (arith, d.1)));
      }

  front_begins : (xs : List ℕ) (front : Option ℕ) → Writes base least most xs front → Begins (λ t. within least most (numeral_of base t)) xs
  front_begins xs None w = subst (Begins (λ t. within least most (numeral_of base t))) (sym w) none_begins
  front_begins xs (Some v) w = begins_whole (λ t. within least most (numeral_of base t)) xs v w

  -- where a byte can't be added to a front, the text isn't read, and no longer front begins a number
  pub stopped : (text : List ℕ) (i : ℕ) (front : Option ℕ) → i < length text → Writes base least most (take i text) front → within least most (numeral_of base (take i text ++ (get_or text i 0 ∷ []))) ≡ None → IsMisspelt (λ t. within least most (numeral_of base t)) text i
  stopped text i front in_text w none = record {
    unread = ap (λ t. within least most (numeral_of base t)) (sym (take-append-drop (i + 1) text)) ∙ never_mended base least most (take (i + 1) text) (drop (i + 1) text) (omega arith) b16 l some stop;
    in_text = omega arith;
    begins = front_begins (take i text) front w;
    longest = λ k k_in_text h. by_order i k (k ≤ i) (λ small. small) (λ large. long k large h);
  }
    where
      stop : within least most (numeral_of base (take (i + 1) text)) ≡ None
      stop = ap (λ t. within least most (numeral_of base t)) (take_more text i 0 in_text) ∙ none

      some : 0 < length (take (i + 1) text)
      some = omega (arith, length-take (i + 1) text)

      long : (k : ℕ) → i < k → Begins (λ t. within least most (numeral_of base t)) (take k text) → k ≤ i
      long k large h =
          let m = k - (i + 1) in
          let whole : k ≡ i + 1 + m = omega arith in
          let front = begins_front (λ t. within least most (numeral_of base t)) (take (i + 1) text) (take m (drop (i + 1) text))
          (subst (Begins (λ t. within least most (numeral_of base t))) (ap (λ n. take n text) whole ∙ take-add (i + 1) m text) h) in
          absurd (none-some front.value (sym (never_mended base least most (take (i + 1) text) front.rest (omega arith) b16 l some stop) ∙ front.whole))

  -- where there is no byte
  pub none_yet : (text : List ℕ) → take (length text) text ≡ [] → IsMisspelt (λ t. within least most (numeral_of base t)) text (length text)
  none_yet text none = record {
    unread = ap (λ t. within least most (numeral_of base t)) empty;
    in_text = omega arith;
    begins = subst (Begins (λ t. within least most (numeral_of base t))) (sym none) none_begins;
    longest = λ k in_text h. in_text;
  }
    where
      empty : text ≡ []
      empty = sym (take_all (length text) text (omega arith)) ∙ none

  -- at the end of the text
  pub ended : (text : List ℕ) (i : ℕ) (front : Option ℕ) → i ≡ length text → Writes base least most (take i text) front → IfErr (ok_or front (length text)) (IsMisspelt (λ t. within least most (numeral_of base t)) text)
  ended text i None at w = none_yet text (ap (λ n. take n text) (sym at) ∙ w)
  ended text i (Some v) at w = tt
