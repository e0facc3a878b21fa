-- The digits that write a number are the one numeral of its value.
use Rattle.std.proofs.Common.{◌≡◌, ℕ, zero, suc, ◌+◌, ◌*◌, ◌/◌, ◌%◌, ◌^◌, ◌<◌, ◌≤◌, Bool, true, false, cond, List, [], ◌∷◌, ◌++◌, length, eqb, refl, sym, ap, subst, ◌∙◌, arith, append_assoc}
use Rattle.std.specs.Char.{digit_value}
use Rattle.std.specs.Fmt.{digit_glyph, digits, digits_onto}
use Rattle.std.specs.Str.Parse.{digits_value}
use Rattle.std.proofs.Math.Nat.{mul-le-mul_left, div-eq_of_lt, div-lt_iff_lt-mul, mod-lt, mod-eq_of_lt, pow-suc, pow-zero}
use Rattle.std.proofs.lemmas.Bool.{ne_eqb, eqb-true, eqb-false}
use Rattle.std.proofs.lemmas.Grind.{common_steps}
use Rattle.std.proofs.lemmas.List.{append-nil}
use Rattle.std.proofs.lemmas.Nat.{div-add-mod', div-mul-add, mod-mul-add}
use Rattle.epic_num.specs.Names.{is_digit_of}
use Rattle.epic_num.proofs.Numerals.{IsNumeralWithin, numeral_front, numeral_last, numeral_more, numeral_one, one_numeral}

glyph_is_digit : (base d : ℕ) → base ≤ 16 → d < base → is_digit_of base (digit_glyph false d) ≡ true
glyph_is_digit base d b small = grind (arith, common_steps)

value_of_glyph : (base d : ℕ) → base ≤ 16 → d < base → digit_value (digit_glyph false d) ≡ d
value_of_glyph base d b small = grind (arith, common_steps)

glyph_of_value : (base c : ℕ) → base ≤ 16 → is_digit_of base c ≡ true → digit_glyph false (digit_value c) ≡ c
glyph_of_value base c b d = grind (arith, common_steps)

value_is_small : (base c : ℕ) → is_digit_of base c ≡ true → digit_value c < base
value_is_small base c d = grind (arith, common_steps)

pub last_split : (text : List ℕ) → 0 < length text → (xs : List ℕ) × (c : ℕ) × (text ≡ xs ++ (c ∷ []))
last_split [] some = absurd (omega arith)
last_split (x ∷ []) some = ([], x, refl)
last_split (x ∷ y ∷ ys) some = let r = last_split (y ∷ ys) (omega arith) in (x ∷ r.0, r.1, ap (λ t. x ∷ t) r.2)

onto_one : (base k n : ℕ) (acc : List ℕ) → n / base ≡ 0 → digits_onto (suc k) base false n acc ≡ digit_glyph false (n % base) ∷ acc
onto_one base k n acc none = ap (λ q. cond (eqb q 0) (digit_glyph false (n % base) ∷ acc) (digits_onto k base false q (digit_glyph false (n % base) ∷ acc))) none

onto_more : (base k n : ℕ) (acc : List ℕ) → 0 < n / base → digits_onto (suc k) base false n acc ≡ digits_onto k base false (n / base) (digit_glyph false (n % base) ∷ acc)
onto_more base k n acc some = ap (λ b. cond b (digit_glyph false (n % base) ∷ acc) (digits_onto k base false (n / base) (digit_glyph false (n % base) ∷ acc))) (ne_eqb (n / base) 0 (λ e. omega (arith, e)))

-- the digits write a numeral
pub record Spells (base most n : ℕ) (written acc : List ℕ) : Type 0 where
  pub text : List ℕ
  pub numeral : IsNumeralWithin base 0 most text n
  pub whole : written ≡ text ++ acc

same_value : (base least most : ℕ) (text : List ℕ) (v n : ℕ) → v ≡ n → IsNumeralWithin base least most text v → IsNumeralWithin base least most text n
same_value base least most text v n e h = subst (IsNumeralWithin base least most text) e h

quotient_le : (n base : ℕ) → 1 ≤ base → n / base ≤ n
quotient_le n base b = omega (arith, mul-le-mul_left (n / base) b, div-add-mod' n base)

quotient_lt : (n base k : ℕ) → 1 ≤ base → n < base ^ suc (suc k) → n / base < base ^ suc k
quotient_lt n base k b small = (div-lt_iff_lt-mul b).1 (rw (pow-suc base (suc k)) at small)

module _ (base most : ℕ) (low : 2 ≤ base) (high : base ≤ 16) where
  some : 0 < base
  some = omega arith

  one_power : base ^ 1 ≡ base
  one_power = pow-suc base 0 ∙ ap (λ p. p * base) (pow-zero base) ∙ omega arith

  spelled_one : (k n : ℕ) (acc : List ℕ) → n ≤ most → n < base → Spells base most n (digits_onto (suc k) base false n acc) acc
  spelled_one k n acc fits small = record {
    text = digit_glyph false n ∷ [];
    numeral = same_value base 0 most (digit_glyph false n ∷ []) (digit_value (digit_glyph false n)) n value
        (numeral_one base 0 most (digit_glyph false n) (glyph_is_digit base n high small) (omega arith) (omega (arith, value)));
    whole = onto_one base k n acc (div-eq_of_lt small) ∙ ap (λ d. digit_glyph false d ∷ acc) (mod-eq_of_lt small);
  }
    where
      value : digit_value (digit_glyph false n) ≡ n
      value = value_of_glyph base n high small

  spelled_more : (k n : ℕ) (acc : List ℕ) → n ≤ most → 0 < n / base → Spells base most (n / base) (digits_onto k base false (n / base) (digit_glyph false (n % base) ∷ acc)) (digit_glyph false (n % base) ∷ acc) → Spells base most n (digits_onto (suc k) base false n acc) acc
  spelled_more k n acc fits more h = record {
    text = h.text ++ (g ∷ []);
    numeral = same_value base 0 most (h.text ++ (g ∷ [])) (n / base * base + digit_value g) n value
        (numeral_more base 0 most h.text (n / base) g h.numeral more (glyph_is_digit base (n % base) high small) (omega (arith, value)) (omega arith));
    whole = onto_more base k n acc more ∙ h.whole ∙ sym (append_assoc h.text (g ∷ []) acc);
  }
    where
      g : ℕ
      g = digit_glyph false (n % base)

      small : n % base < base
      small = mod-lt n some

      value : n / base * base + digit_value g ≡ n
      value = ap (λ d. n / base * base + d) (value_of_glyph base (n % base) high small) ∙ div-add-mod' n base

  spelled : (k n : ℕ) (acc : List ℕ) → n ≤ most → n < base ^ suc k → Spells base most n (digits_onto (suc k) base false n acc) acc
  spelled zero n acc fits small = spelled_one zero n acc fits (omega (arith, small, one_power))
  spelled (suc k) n acc fits small = by (eqb (n / base) 0) refl (spelled k (n / base) (digit_glyph false (n % base) ∷ acc) (omega (arith, quotient_le n base some)) (quotient_lt n base k some small))
    where
      by : (t : Bool) → eqb (n / base) 0 ≡ t → Spells base most (n / base) (digits_onto (suc k) base false (n / base) (digit_glyph false (n % base) ∷ acc)) (digit_glyph false (n % base) ∷ acc) → Spells base most n (digits_onto (suc (suc k)) base false n acc) acc
      by true e h = spelled_one (suc k) n acc fits (omega (arith, (div-lt_iff_lt-mul {k = base} {x = n} {y = 1} some).0 (omega (arith, eqb-true (n / base) 0 e))))
      by false e h = let more : 0 < n / base = omega (arith, eqb-false (n / base) 0 e) in spelled_more (suc k) n acc fits more h

  -- and each numeral is written
  quotient_is : (v c n : ℕ) → is_digit_of base c ≡ true → n ≡ v * base + digit_value c → n / base ≡ v
  quotient_is v c n d e = ap (λ m. m / base) e ∙ div-mul-add v base (digit_value c) (value_is_small base c d)

  glyph_is : (v c n : ℕ) → is_digit_of base c ≡ true → n ≡ v * base + digit_value c → digit_glyph false (n % base) ≡ c
  glyph_is v c n d e = ap (λ m. digit_glyph false (m % base)) e ∙ ap (digit_glyph false) (mod-mul-add v base (digit_value c) (value_is_small base c d)) ∙ glyph_of_value base c high d

  -- what is known of the front of a numeral
  pub record IsFront (xs : List ℕ) (c n v : ℕ) : Type 0 where
    pub more : 0 < v
    pub digit : is_digit_of base c ≡ true
    pub value : n ≡ v * base + digit_value c
    pub numeral : IsNumeralWithin base 0 most xs v

  unique_last : (k : ℕ) (xs : List ℕ) (c n : ℕ) (acc : List ℕ) → ((v : ℕ) → IsFront xs c n v → digits_onto k base false v (c ∷ acc) ≡ xs ++ (c ∷ acc)) → IsNumeralWithin base 0 most (xs ++ (c ∷ [])) n → digits_onto (suc k) base false n acc ≡ (xs ++ (c ∷ [])) ++ acc
  unique_last k [] c n acc ih h =
      let one = one_numeral base 0 most c n h in
      let alone : n ≡ 0 * base + digit_value c = omega (arith, one.1) in
      onto_one base k n acc (quotient_is 0 c n one.0 alone) ∙ ap (λ d. d ∷ acc) (glyph_is 0 c n one.0 alone)
  unique_last k (x ∷ xs) c n acc ih h =
      onto_more base k n acc (omega (arith, quotient, front.more))
      ∙ ap (λ q. digits_onto k base false q (digit_glyph false (n % base) ∷ acc)) quotient
      ∙ ap (λ d. digits_onto k base false v (d ∷ acc)) (glyph_is v c n front.digit front.value)
      ∙ ih v front
      ∙ sym (append_assoc (x ∷ xs) (c ∷ []) acc)
    where
      v : ℕ
      v = digits_value base (x ∷ xs)

      numeral : IsNumeralWithin base 0 most (x ∷ xs) v
      numeral = numeral_front base 0 most (x ∷ xs) (c ∷ []) n some high (omega arith) (omega arith) h

      front : IsFront (x ∷ xs) c n v
      front = let last = numeral_last base 0 most (x ∷ xs) v c n some high numeral h in
          record { more = last.0; digit = last.1; value = last.2; numeral = numeral }

      quotient : n / base ≡ v
      quotient = quotient_is v c n front.digit front.value

  unique : (k : ℕ) (text : List ℕ) (n : ℕ) (acc : List ℕ) → IsNumeralWithin base 0 most text n → n < base ^ suc k → digits_onto (suc k) base false n acc ≡ text ++ acc
  unique zero text n acc h small =
      let s = last_split text h.nonempty in
      unique_last zero s.0 s.1 n acc
      (λ v front. absurd (omega (arith, small, one_power, front.value, mul-le-mul_left base front.more)))
      (subst (λ t. IsNumeralWithin base 0 most t n) s.2 h)
      ∙ ap (λ t. t ++ acc) (sym s.2)
  unique (suc k) text n acc h small =
      let s = last_split text h.nonempty in
      unique_last (suc k) s.0 s.1 n acc
      (λ v front. unique k s.0 v (s.1 ∷ acc) front.numeral
      (omega (arith, quotient_lt n base k some small, quotient_is v s.1 n front.digit front.value)))
      (subst (λ t. IsNumeralWithin base 0 most t n) s.2 h)
      ∙ ap (λ t. t ++ acc) (sym s.2)

-- the text of a number is a numeral, and the only one of its value
pub digits_are_numeral : (base most n : ℕ) → 2 ≤ base → base ≤ 16 → n ≤ most → n < base ^ 64 → IsNumeralWithin base 0 most (digits base false n) n
unfolding digits
digits_are_numeral base most n low high fits small =
    let s = spelled base most low high 63 n [] fits small in
    subst (λ t. IsNumeralWithin base 0 most t n) (sym (s.whole ∙ append-nil s.text)) s.numeral

pub numeral_is_digits : (base most n : ℕ) (text : List ℕ) → 2 ≤ base → base ≤ 16 → n < base ^ 64 → IsNumeralWithin base 0 most text n → text ≡ digits base false n
unfolding digits
numeral_is_digits base most n text low high small h =
    sym (unique base most low high 63 text n [] h small ∙ append-nil text)
