-- A front of a numeral is a numeral, and a digit more makes one more.
use Rattle.std.proofs.Common.{◌≡◌, ◌≢◌, ℕ, ◌+◌, ◌*◌, ◌<◌, ◌≤◌, Bool, true, false, ◌||◌, not, ◌==◌, if◌then◌else◌, List, [], ◌∷◌, ◌++◌, length, get_or, Option, Some, None, refl, sym, ap, ◌∙◌, IsTrue, SomeIff, arith, rules, length-append}
use Rattle.std.specs.Char.{digit_value}
use Rattle.std.specs.List.{list_all}
use Rattle.std.specs.Str.Parse.{digits_value, digits_value_after}
use Rattle.std.proofs.Math.Nat.{mul-le-mul_left}
use Rattle.std.proofs.lemmas.Bool.{and_parts, and_from}
use Rattle.std.proofs.lemmas.Int.Digits.{digits_value_push}
use Rattle.std.proofs.lemmas.List.Folds.{list_all-append}
use Rattle.std.proofs.lemmas.Grind.{common_steps}
use Rattle.epic_num.specs.Names.{Writes, is_digit_of, is_numeral, numeral_of, within}

-- what it takes to be read as a number in these bounds
pub record IsNumeralWithin (base least most : ℕ) (text : List ℕ) (n : ℕ) : Type 0 where
  pub digits : list_all (is_digit_of base) text ≡ true
  pub nonempty : 0 < length text
  pub front : get_or text 0 0 ≡ 48 → length text ≡ 1
  pub value : digits_value base text ≡ n
  pub low : least ≤ n
  pub high : n ≤ most

pub reads_numeral : (base least most : ℕ) (text : List ℕ) (n : ℕ) → IsNumeralWithin base least most text n → within least most (numeral_of base text) ≡ Some n
reads_numeral base least most [] n h = absurd (omega (arith, h.nonempty))
reads_numeral base least most (c ∷ cs) n h = grind (arith, common_steps)

-- what a bounded value tells
opened : (b : Bool) (least most v n : ℕ) → within least most (if b then Some v else None) ≡ Some n → (b ≡ true) × (v ≡ n) × (least ≤ v) × (v ≤ most)
opened true least most v n h = grind (arith, common_steps)
opened false least most v n h = cc

alone : (c : ℕ) (cs : List ℕ) → (not (c == 48) || length cs == 0) ≡ true → c ≡ 48 → length (c ∷ cs) ≡ 1
alone c cs h e = grind (arith, common_steps)

pub numeral_is : (base least most : ℕ) (text : List ℕ) (n : ℕ) → within least most (numeral_of base text) ≡ Some n → IsNumeralWithin base least most text n
numeral_is base least most [] n h = cc
numeral_is base least most (c ∷ cs) n h =
    let o = opened (is_numeral base (c ∷ cs)) least most (digits_value base (c ∷ cs)) n h in
    let p = and_parts (list_all (is_digit_of base) (c ∷ cs)) (not (c == 48) || length cs == 0) o.0 in
    record { digits = p.0; nonempty = omega arith; front = alone c cs p.1; value = o.1; low = omega arith; high = omega arith }

-- digits after a number write no smaller one
grows : (base n v : ℕ) → 1 ≤ base → n ≤ n * base + v
grows base n v b = omega (arith, mul-le-mul_left n b)

after_grows : (base n : ℕ) (ds : List ℕ) → 1 ≤ base → n ≤ digits_value_after base n ds
after_grows base n [] b = omega arith
after_grows base n (d ∷ ds) b =
    omega (arith, grows base n (digit_value d) b, after_grows base (n * base + digit_value d) ds b)

digits_value_after-append : (base n : ℕ) (xs ys : List ℕ) → digits_value_after base n (xs ++ ys) ≡ digits_value_after base (digits_value_after base n xs) ys
digits_value_after-append base n [] ys = refl
digits_value_after-append base n (x ∷ xs) ys = digits_value_after-append base (n * base + digit_value x) xs ys

-- a numeral that isn't `0` has no zero in front
some_digit : (base c : ℕ) → is_digit_of base c ≡ true → base ≤ 16 → c ≢ 48 → 1 ≤ digit_value c
some_digit base c d b ne = grind (arith, common_steps)

front_is_some : (base : ℕ) (c : ℕ) (cs : List ℕ) → 1 ≤ base → 1 ≤ digit_value c → 1 ≤ digits_value base (c ∷ cs)
front_is_some base c cs b some = omega (arith, some, after_grows base (0 * base + digit_value c) cs b)

-- and one with a zero in front is `0`
none_after : (base n : ℕ) (xs : List ℕ) → length xs ≡ 0 → digits_value_after base n xs ≡ n
none_after base n [] h = refl
none_after base n (x ∷ xs) h = absurd (omega arith)

zero_alone : (base least most c : ℕ) (cs : List ℕ) (n : ℕ) → IsNumeralWithin base least most (c ∷ cs) n → c ≡ 48 → n ≡ 0
zero_alone base least most c cs n h e =
    let few : length cs ≡ 0 = omega (arith, h.front e) in
    let zero : 0 * base + digit_value c ≡ 0 = ap (λ x. 0 * base + digit_value x) e ∙ omega arith in
    sym h.value ∙ none_after base (0 * base + digit_value c) cs few ∙ zero

low_of : (least n v c : ℕ) → least ≤ 1 → least ≤ n → (c ≡ 48 → n ≡ 0) → (c ≢ 48 → 1 ≤ v) → least ≤ v
low_of least n v c l low zero some = grind (arith, common_steps)

-- a front of a numeral is one, if it isn't empty
pub numeral_front : (base least most : ℕ) (text rest : List ℕ) (n : ℕ) → 1 ≤ base → base ≤ 16 → least ≤ 1 → 0 < length text → IsNumeralWithin base least most (text ++ rest) n → IsNumeralWithin base least most text (digits_value base text)
numeral_front base least most [] rest n b b16 l some h = absurd (omega arith)
numeral_front base least most (c ∷ cs) rest n b b16 l some h = record {
  digits = all.0;
  nonempty = omega arith;
  front = λ e. omega (arith, h.front e, length-append cs rest);
  value = refl;
  low = low_of least n (digits_value base (c ∷ cs)) c l h.low (zero_alone base least most c (cs ++ rest) n h) first;
  high = omega (arith, after_grows base (digits_value base (c ∷ cs)) rest b, value, h.value, h.high);
}
  where
    all : (list_all (is_digit_of base) (c ∷ cs) ≡ true) × (list_all (is_digit_of base) rest ≡ true)
    all = and_parts (list_all (is_digit_of base) (c ∷ cs)) (list_all (is_digit_of base) rest) (sym (list_all-append (is_digit_of base) (c ∷ cs) rest) ∙ h.digits)

    first : c ≢ 48 → 1 ≤ digits_value base (c ∷ cs)
    first ne = front_is_some base c cs b (some_digit base c (and_parts (is_digit_of base c) (list_all (is_digit_of base) cs) all.0).0 b16 ne)

    value : digits_value base (c ∷ cs ++ rest) ≡ digits_value_after base (digits_value base (c ∷ cs)) rest
    value = digits_value_after-append base 0 (c ∷ cs) rest

-- a digit more
pub numeral_more : (base least most : ℕ) (text : List ℕ) (v c : ℕ) → IsNumeralWithin base least most text v → 0 < v → is_digit_of base c ≡ true → v * base + digit_value c ≤ most → least ≤ v * base + digit_value c → IsNumeralWithin base least most (text ++ (c ∷ [])) (v * base + digit_value c)
numeral_more base least most [] v c h pos d high low = absurd (omega (arith, h.nonempty))
numeral_more base least most (x ∷ xs) v c h pos d high low = record {
  digits = list_all-append (is_digit_of base) (x ∷ xs) (c ∷ []) ∙ and_from (list_all (is_digit_of base) (x ∷ xs)) (list_all (is_digit_of base) (c ∷ [])) h.digits (and_from (is_digit_of base c) true d refl);
  nonempty = omega arith;
  front = λ e. absurd (omega (arith, zero_alone base least most x xs v h e, pos));
  value = digits_value_push base (x ∷ xs) c ∙ ap (λ n. n * base + digit_value c) h.value;
  low = low;
  high = high;
}

-- and what a digit more tells of it
pub numeral_last : (base least most : ℕ) (text : List ℕ) (v c n : ℕ) → 1 ≤ base → base ≤ 16 → IsNumeralWithin base least most text v → IsNumeralWithin base least most (text ++ (c ∷ [])) n → (0 < v) × (is_digit_of base c ≡ true) × (n ≡ v * base + digit_value c)
numeral_last base least most [] v c n b b16 h g = absurd (omega (arith, h.nonempty))
numeral_last base least most (x ∷ xs) v c n b b16 h g = (omega (arith, first, h.value), last.0, sym g.value ∙ digits_value_push base (x ∷ xs) c ∙ ap (λ n. n * base + digit_value c) h.value)
  where
    not_zero : x ≢ 48
    not_zero e = omega (arith, g.front e, length-append xs (c ∷ []))

    x_digit : is_digit_of base x ≡ true
    x_digit = (and_parts (is_digit_of base x) (list_all (is_digit_of base) xs) h.digits).0

    first : 1 ≤ digits_value base (x ∷ xs)
    first = front_is_some base x xs b (some_digit base x x_digit b16 not_zero)

    last : (is_digit_of base c ≡ true) × (true ≡ true)
    last = and_parts (is_digit_of base c) true (and_parts (list_all (is_digit_of base) (x ∷ xs)) (list_all (is_digit_of base) (c ∷ [])) (sym (list_all-append (is_digit_of base) (x ∷ xs) (c ∷ [])) ∙ g.digits)).1

-- a digit alone
pub numeral_one : (base least most c : ℕ) → is_digit_of base c ≡ true → least ≤ digit_value c → digit_value c ≤ most → IsNumeralWithin base least most (c ∷ []) (digit_value c)
numeral_one base least most c d low high = record {
  digits = and_from (is_digit_of base c) true d refl;
  nonempty = omega arith;
  front = λ e. refl;
  value = omega arith;
  low = low;
  high = high;
}

pub one_numeral : (base least most c n : ℕ) → IsNumeralWithin base least most (c ∷ []) n → (is_digit_of base c ≡ true) × (n ≡ digit_value c)
one_numeral base least most c n h = ((and_parts (is_digit_of base c) true h.digits).0, omega (arith, h.value))

-- what can't be read
pub unread : (o : Option ℕ) → ((n : ℕ) → o ≡ Some n → ⊥) → o ≡ None
unread None h = refl
unread (Some n) h = absurd (h n refl)

-- A byte after a numeral: none follows `0`, and only a digit that keeps the bound follows another.
pub after_zero : (base least most : ℕ) (text : List ℕ) (c : ℕ) → 1 ≤ base → base ≤ 16 → Writes base least most text (Some 0) → within least most (numeral_of base (text ++ (c ∷ []))) ≡ None
after_zero base least most text c b b16 w =
    unread (within least most (numeral_of base (text ++ (c ∷ []))))
    (λ n e. omega (arith, (numeral_last base least most text 0 c n b b16 (numeral_is base least most text 0 w) (numeral_is base least most (text ++ (c ∷ [])) n e)).0))

pub after_digits : (base least most : ℕ) (text : List ℕ) (v c : ℕ) (r : Option ℕ) → 1 ≤ base → base ≤ 16 → Writes base least most text (Some v) → 0 < v → (let n = v * base + digit_value c in SomeIff r (IsTrue (is_digit_of base c) × (least ≤ n) × (n ≤ most)) n) → within least most (numeral_of base (text ++ (c ∷ []))) ≡ r
after_digits base least most text v c (Some n) b b16 w pos h =
    reads_numeral base least most (text ++ (c ∷ [])) (v * base + digit_value c) (numeral_more base least most text v c (numeral_is base least most text v w) pos (search rules) h.0.2 h.0.1)
    ∙ ap (λ x. Some x) (sym h.1)
after_digits base least most text v c None b b16 w pos h =
    unread (within least most (numeral_of base (text ++ (c ∷ [])))) no_number
  where
    no_number : (n : ℕ) → within least most (numeral_of base (text ++ (c ∷ []))) ≡ Some n → ⊥
    no_number n e =
        let whole = numeral_is base least most (text ++ (c ∷ [])) n e in
        let last = numeral_last base least most text v c n b b16 (numeral_is base least most text v w) whole in
        h (search (rules, last.1), omega (arith, last.2, whole.low), omega (arith, last.2, whole.high))

-- the first byte
pub first_digit : (base least most c : ℕ) (r : Option ℕ) → (let n = 0 * base + digit_value c in SomeIff r (IsTrue (is_digit_of base c) × (least ≤ n) × (n ≤ most)) n) → within least most (numeral_of base (c ∷ [])) ≡ r
first_digit base least most c (Some n) h =
    reads_numeral base least most (c ∷ []) (digit_value c) (numeral_one base least most c (search rules) (omega (arith, h.0.1)) (omega (arith, h.0.2)))
    ∙ ap (λ x. Some x) (omega (arith, h.1))
first_digit base least most c None h =
    unread (within least most (numeral_of base (c ∷ []))) no_number
  where
    no_number : (n : ℕ) → within least most (numeral_of base (c ∷ [])) ≡ Some n → ⊥
    no_number n e =
        let whole = numeral_is base least most (c ∷ []) n e in
        let last = one_numeral base least most c n whole in
        h (search (rules, last.0), omega (arith, last.1, whole.low), omega (arith, last.1, whole.high))

-- what follows a front that isn't read doesn't mend it
pub never_mended : (base least most : ℕ) (front rest : List ℕ) → 1 ≤ base → base ≤ 16 → least ≤ 1 → 0 < length front → within least most (numeral_of base front) ≡ None → within least most (numeral_of base (front ++ rest)) ≡ None
never_mended base least most front rest b b16 l some none =
    unread (within least most (numeral_of base (front ++ rest))) no_number
  where
    no_number : (n : ℕ) → within least most (numeral_of base (front ++ rest)) ≡ Some n → ⊥
    no_number n e =
        let read = reads_numeral base least most front (digits_value base front) (numeral_front base least most front rest n b b16 l some (numeral_is base least most (front ++ rest) n e)) in
        let clash : Some (digits_value base front) ≡ None = sym read ∙ none in cc
