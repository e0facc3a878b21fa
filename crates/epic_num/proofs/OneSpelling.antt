-- Each value has one text, part by part.
use Rattle.std.proofs.Common.{◌≡◌, ℕ, ◌+◌, ◌*◌, ◌/◌, ◌%◌, ◌^◌, ◌<◌, ◌≤◌, ◌==◌, Bool, true, false, not, cond, List, [], ◌∷◌, ◌++◌, Option, Some, None, option_map, refl, sym, ap, subst, ◌∙◌, arith, decimal, nat_lt}
use Rattle.std.specs.Fmt.{digits}
use Rattle.std.specs.List.{list_all}
use Rattle.std.specs.Option.{option_or}
use Rattle.std.proofs.lemmas.Bool.{and_parts, and_from, eqb-true, lt-ltb, le-ltb, ltb-true, ltb-false}
use Rattle.std.proofs.lemmas.List.Folds.{list_all-append}
use Rattle.std.proofs.lemmas.Nat.{div-add-mod', div-mul-add, mod-mul-add}
use Rattle.std.proofs.lemmas.Option.{none-some, same_Some}
use Rattle.epic_num.specs.declared.name.HostId.{HostId}
use Rattle.epic_num.specs.Names.{as_from, as_of, as_part_of, as_part_text, as_text, colon, comma, dash, group_of, groups_of, groups_text, hexadecimal, host_from, host_text, is_digit_of, isd_of, joined, low_groups_of, number_within, numeral_of, parted, small_part_of, within, IsFrom, IsHostFrom, IsReadable}
use Rattle.epic_num.specs.Spellings.{HasOneSpelling}
use Rattle.epic_num.proofs.Fronts.{HasText}
use Rattle.epic_num.proofs.Numerals.{IsNumeralWithin, numeral_is, reads_numeral, unread}
use Rattle.epic_num.proofs.Parts.{IsUnmarked, JoinsParts, has_parts_parted, joined_joins, parted_parts}
use Rattle.epic_num.proofs.Spelled.{digits_are_numeral, numeral_is_digits}

-- numerals
weaker : (base least most n : ℕ) (text : List ℕ) → IsNumeralWithin base least most text n → IsNumeralWithin base 0 most text n
weaker base least most n text h = record {
  digits = h.digits;
  nonempty = h.nonempty;
  front = h.front;
  value = h.value;
  low = omega arith;
  high = h.high;
}

stronger : (base least most n : ℕ) (text : List ℕ) → least ≤ n → IsNumeralWithin base 0 most text n → IsNumeralWithin base least most text n
stronger base least most n text low h = record {
  digits = h.digits;
  nonempty = h.nonempty;
  front = h.front;
  value = h.value;
  low = low;
  high = h.high;
}

pub numeral_spelling : (base least most : ℕ) → 2 ≤ base → base ≤ 16 → most < base ^ 64 → HasOneSpelling (λ t. within least most (numeral_of base t)) (λ n. (least ≤ n) × (n ≤ most)) (λ n. digits base false n)
numeral_spelling base least most low high small text n = (there, back)
  where
    there : within least most (numeral_of base text) ≡ Some n → (least ≤ n × n ≤ most) × (text ≡ digits base false n)
    there e = let h = numeral_is base least most text n e in
        ((h.low, h.high), numeral_is_digits base most n text low high (omega (arith, h.high, small)) (weaker base least most n text h))

    back : (least ≤ n × n ≤ most) × (text ≡ digits base false n) → within least most (numeral_of base text) ≡ Some n
    back k = reads_numeral base least most text n (stronger base least most n text k.0.0
        (subst (λ t. IsNumeralWithin base 0 most t n) (sym k.1) (digits_are_numeral base most n low high k.0.1 (omega (arith, k.0.1, small)))))

-- texts without a mark
pub numeral_unmarked : (base least most mark : ℕ) → is_digit_of base mark ≡ false → IsUnmarked mark (λ t. within least most (numeral_of base t))
numeral_unmarked base least most mark free = record { none = λ t n e. each t (numeral_is base least most t n e).digits }
  where
    one : (c : ℕ) → is_digit_of base c ≡ true → not (c == mark) ≡ true
    one c d = by (c == mark) refl
      where
        by : (b : Bool) → (c == mark) ≡ b → not (c == mark) ≡ true
        by true e = let clash : true ≡ false = sym d ∙ ap (is_digit_of base) (eqb-true c mark e) ∙ free in cc
        by false e = ap not e

    each : (t : List ℕ) → list_all (is_digit_of base) t ≡ true → list_all (λ c. not (c == mark)) t ≡ true
    each [] h = refl
    each (c ∷ cs) h = let p = and_parts (is_digit_of base c) (list_all (is_digit_of base) cs) h in
        and_from (not (c == mark)) (list_all (λ d. not (d == mark)) cs) (one c p.0) (each cs p.1)

pub parted_unmarked : {A B : Type 0} (mark other : ℕ) (f : List ℕ → Option A) (g : List ℕ → Option B) → (other == mark) ≡ false → IsUnmarked mark f → IsUnmarked mark g → IsUnmarked mark (parted other f g)
parted_unmarked mark other f g apart u v = record {
  none = λ t p e.
      let h = parted_parts other f g t p e in
      ap (list_all (λ c. not (c == mark))) h.whole
      ∙ list_all-append (λ c. not (c == mark)) h.before (other ∷ h.after)
      ∙ and_from (list_all (λ c. not (c == mark)) h.before) (list_all (λ c. not (c == mark)) (other ∷ h.after))
      (u.none h.before p.0 h.first)
      (and_from (not (other == mark)) (list_all (λ c. not (c == mark)) h.after) (ap not apart) (v.none h.after p.1 h.second));
}

pub map_unmarked : {A B : Type 0} (mark : ℕ) (h : A → B) (f : List ℕ → Option A) → IsUnmarked mark f → IsUnmarked mark (λ t. option_map h (f t))
map_unmarked {A} {B} mark h f u = record { none = λ t b e. by t b (f t) refl e }
  where
    by : (t : List ℕ) (b : B) (o : Option A) → f t ≡ o → option_map h (f t) ≡ Some b → list_all (λ c. not (c == mark)) t ≡ true
    by t b None none e = absurd (none-some b (sym (ap (option_map h) none) ∙ e))
    by t b (Some a) some e = u.none t a some

pub or_unmarked : {A : Type 0} (mark : ℕ) (f g : List ℕ → Option A) → IsUnmarked mark f → IsUnmarked mark g → IsUnmarked mark (λ t. option_or (f t) (g t))
or_unmarked {A} mark f g u v = record { none = λ t a e. by t a (f t) refl e }
  where
    by : (t : List ℕ) (a : A) (o : Option A) → f t ≡ o → option_or (f t) (g t) ≡ Some a → list_all (λ c. not (c == mark)) t ≡ true
    by t a None none e = v.none t a (sym (ap (λ p. option_or p (g t)) none) ∙ e)
    by t a (Some b) some e = u.none t b some

-- two parts
pub joined_spelling : (mark weight : ℕ) (f g : List ℕ → Option ℕ) (F G : ℕ → Type 0) (s t : ℕ → List ℕ) → IsUnmarked mark f → ((n : ℕ) → G n → n < weight) → HasOneSpelling f F s → HasOneSpelling g G t → HasOneSpelling (joined mark weight f g) (λ n. F (n / weight) × G (n % weight)) (λ n. s (n / weight) ++ (mark ∷ t (n % weight)))
joined_spelling mark weight f g F G s t u small one two text n = (there, back)
  where
    there : joined mark weight f g text ≡ Some n → (F (n / weight) × G (n % weight)) × (text ≡ s (n / weight) ++ (mark ∷ t (n % weight)))
    there e = (
      (subst F (sym quotient) high.0, subst G (sym rest) low.0),
      j.parts.whole
          ∙ ap (λ x. x ++ (mark ∷ j.parts.after)) (high.1 ∙ ap s (sym quotient))
          ∙ ap (λ y. s (n / weight) ++ (mark ∷ y)) (low.1 ∙ ap t (sym rest)),
    )
      where
        j : JoinsParts mark weight f g text n
        j = joined_joins mark weight f g text n e

        high : F j.high × (j.parts.before ≡ s j.high)
        high = (one j.parts.before j.high).0 j.parts.first

        low : G j.low × (j.parts.after ≡ t j.low)
        low = (two j.parts.after j.low).0 j.parts.second

        quotient : n / weight ≡ j.high
        quotient = ap (λ m. m / weight) j.value ∙ div-mul-add j.high weight j.low (small j.low low.0)

        rest : n % weight ≡ j.low
        rest = ap (λ m. m % weight) j.value ∙ mod-mul-add j.high weight j.low (small j.low low.0)

    back : (F (n / weight) × G (n % weight)) × (text ≡ s (n / weight) ++ (mark ∷ t (n % weight))) → joined mark weight f g text ≡ Some n
    back k =
        ap (option_map (λ p. p.0 * weight + p.1))
        (has_parts_parted mark f g text (n / weight) (n % weight) u
        (record {
          before = s (n / weight);
          after = t (n % weight);
          whole = k.1;
          first = (one (s (n / weight)) (n / weight)).1 (k.0.0, refl);
          second = (two (t (n % weight)) (n % weight)).1 (k.0.1, refl);
        }))
        ∙ ap (λ m. Some m) (div-add-mod' n weight)

-- the same in other words
restated : {A : Type 0} (f : List ℕ → Option A) (F G : A → Type 0) (s t : A → List ℕ) → ((a : A) → F a → G a) → ((a : A) → G a → F a) → ((a : A) → F a → s a ≡ t a) → HasOneSpelling f F s → HasOneSpelling f G t
restated f F G s t to from same h text a = (
  λ e. let k = (h text a).0 e in (to a k.0, k.1 ∙ same a k.0),
  λ k. let v = from a k.0 in (h text a).1 (v, k.1 ∙ sym (same a v)),
)

-- a form that has a value has a text
has_text : {A : Type 0} (f : List ℕ → Option A) (F : A → Type 0) (s : A → List ℕ) (a : A) → HasOneSpelling f F s → F a → HasText f
has_text f F s a h ok = record { text = s a; value = a; read = (h (s a) a).1 (ok, refl) }

-- the parts of an AS
pub isd_unmarked : (least : ℕ) → IsUnmarked dash (isd_of least)
isd_unmarked least = numeral_unmarked 10 least 0xffff dash refl

isd_spelling : (least : ℕ) → HasOneSpelling (isd_of least) (λ n. (least ≤ n) × (n ≤ 0xffff)) decimal
isd_spelling least = numeral_spelling 10 least 0xffff (omega arith) (omega arith) (omega arith)

small_part_spelling : (least : ℕ) → HasOneSpelling (small_part_of least) (λ n. (least ≤ n) × (n ≤ 0xffff_ffff)) decimal
small_part_spelling least = numeral_spelling 10 least 0xffff_ffff (omega arith) (omega arith) (omega arith)

group_spelling : (least : ℕ) → HasOneSpelling (group_of least) (λ n. (least ≤ n) × (n ≤ 0xffff)) hexadecimal
group_spelling least = numeral_spelling 16 least 0xffff (omega arith) (omega arith) (omega arith)

pub group_has_text : HasText (group_of 0)
group_has_text = has_text (group_of 0) (λ n. (0 ≤ n) × (n ≤ 0xffff)) hexadecimal 0 (group_spelling 0) (omega arith, omega arith)

pub group_unmarked : (least mark : ℕ) → is_digit_of 16 mark ≡ false → IsUnmarked mark (group_of least)
group_unmarked least mark free = numeral_unmarked 16 least 0xffff mark free

low_groups_spelling : HasOneSpelling low_groups_of (λ n. n < 2 ^ 32) (λ n. hexadecimal (n / 2 ^ 16) ++ (colon ∷ hexadecimal (n % 2 ^ 16)))
unfolding low_groups_of
low_groups_spelling =
    restated (joined colon (2 ^ 16) (group_of 0) (group_of 0))
    (λ n. ((0 ≤ n / 2 ^ 16) × (n / 2 ^ 16 ≤ 0xffff)) × ((0 ≤ n % 2 ^ 16) × (n % 2 ^ 16 ≤ 0xffff)))
    (λ n. n < 2 ^ 32)
    (λ n. hexadecimal (n / 2 ^ 16) ++ (colon ∷ hexadecimal (n % 2 ^ 16)))
    (λ n. hexadecimal (n / 2 ^ 16) ++ (colon ∷ hexadecimal (n % 2 ^ 16)))
    (λ n h. omega arith)
    (λ n h. ((omega arith, omega arith), (omega arith, omega arith)))
    (λ n h. refl)
    (joined_spelling colon (2 ^ 16) (group_of 0) (group_of 0) (λ n. (0 ≤ n) × (n ≤ 0xffff)) (λ n. (0 ≤ n) × (n ≤ 0xffff)) hexadecimal hexadecimal
    (group_unmarked 0 colon refl) (λ n h. omega arith) (group_spelling 0) (group_spelling 0))

pub low_groups_has_text : HasText low_groups_of
low_groups_has_text =
    has_text low_groups_of (λ n. n < 2 ^ 32) (λ n. hexadecimal (n / 2 ^ 16) ++ (colon ∷ hexadecimal (n % 2 ^ 16))) 0 low_groups_spelling (omega arith)

middle : (n : ℕ) → n % 2 ^ 32 / 2 ^ 16 ≡ n / 2 ^ 16 % 2 ^ 16
middle n = omega arith

last : (n : ℕ) → n % 2 ^ 32 % 2 ^ 16 ≡ n % 2 ^ 16
last n = omega arith

groups_spelling : HasOneSpelling groups_of (λ n. (2 ^ 32 ≤ n) × (n < 2 ^ 48)) groups_text
unfolding groups_of
groups_spelling =
    restated (joined colon (2 ^ 32) (group_of 1) low_groups_of)
    (λ n. ((1 ≤ n / 2 ^ 32) × (n / 2 ^ 32 ≤ 0xffff)) × (n % 2 ^ 32 < 2 ^ 32))
    (λ n. (2 ^ 32 ≤ n) × (n < 2 ^ 48))
    (λ n. hexadecimal (n / 2 ^ 32) ++ (colon ∷ (hexadecimal (n % 2 ^ 32 / 2 ^ 16) ++ (colon ∷ hexadecimal (n % 2 ^ 32 % 2 ^ 16)))))
    groups_text
    (λ n h. (omega arith, omega arith))
    (λ n h. ((omega arith, omega arith), omega arith))
    (λ n h. same n)
    (joined_spelling colon (2 ^ 32) (group_of 1) low_groups_of (λ n. (1 ≤ n) × (n ≤ 0xffff)) (λ n. n < 2 ^ 32) hexadecimal
    (λ n. hexadecimal (n / 2 ^ 16) ++ (colon ∷ hexadecimal (n % 2 ^ 16)))
    (group_unmarked 1 colon refl) (λ n h. h) (group_spelling 1) low_groups_spelling)
  where
    same : (n : ℕ) → hexadecimal (n / 2 ^ 32) ++ (colon ∷ (hexadecimal (n % 2 ^ 32 / 2 ^ 16) ++ (colon ∷ hexadecimal (n % 2 ^ 32 % 2 ^ 16)))) ≡ groups_text n
    same n = ap (λ m. hexadecimal (n / 2 ^ 32) ++ (colon ∷ (hexadecimal m ++ (colon ∷ hexadecimal (n % 2 ^ 32 % 2 ^ 16))))) (middle n)
        ∙ ap (λ m. hexadecimal (n / 2 ^ 32) ++ (colon ∷ (hexadecimal (n / 2 ^ 16 % 2 ^ 16) ++ (colon ∷ hexadecimal m)))) (last n)

-- no decimal number is three groups
no_colon : (least n : ℕ) → small_part_of least (groups_text n) ≡ None
no_colon least n = unread (small_part_of least (groups_text n)) clash
  where
    clash : (m : ℕ) → small_part_of least (groups_text n) ≡ Some m → ⊥
    clash m e =
        let free = (numeral_unmarked 10 least 0xffff_ffff colon refl).none (groups_text n) m e in
        let rest = colon ∷ (hexadecimal (n / 2 ^ 16 % 2 ^ 16) ++ (colon ∷ hexadecimal (n % 2 ^ 16))) in
        let parts = and_parts (list_all (λ c. not (c == colon)) (hexadecimal (n / 2 ^ 32))) (list_all (λ c. not (c == colon)) rest)
        (sym (list_all-append (λ c. not (c == colon)) (hexadecimal (n / 2 ^ 32)) rest) ∙ free) in
        let found : false ≡ true = parts.1 in cc

small_text : (n : ℕ) → n < 2 ^ 32 → as_part_text n ≡ decimal n
small_text n small = ap (λ b. cond b (decimal n) (groups_text n)) (lt-ltb n (2 ^ 32) small)

large_text : (n : ℕ) → 2 ^ 32 ≤ n → as_part_text n ≡ groups_text n
large_text n large = ap (λ b. cond b (decimal n) (groups_text n)) (le-ltb n (2 ^ 32) large)

-- a least number that isolation domains have
abbrev pub IsLeast : ℕ → Type 0
IsLeast least = least < 2 ^ 16

as_part_spelling : (least : ℕ) → IsLeast least → HasOneSpelling (as_part_of least) (λ n. (least ≤ n) × (n < 2 ^ 48)) as_part_text
unfolding as_part_of
as_part_spelling least low text n = (there (small_part_of least text) refl, λ k. back (nat_lt n (2 ^ 32)) refl k)
  where
    there : (o : Option ℕ) → small_part_of least text ≡ o → option_or (small_part_of least text) (groups_of text) ≡ Some n → (least ≤ n × n < 2 ^ 48) × (text ≡ as_part_text n)
    there None none e =
        let k = (groups_spelling text n).0 (sym (ap (λ o. option_or o (groups_of text)) none) ∙ e) in
        ((omega (arith, k.0.0), k.0.1), k.1 ∙ sym (large_text n k.0.0))
    there (Some m) some e =
        let k = (small_part_spelling least text n).0 (some ∙ (sym (ap (λ o. option_or o (groups_of text)) some) ∙ e)) in
        ((omega (arith, k.0.0), omega (arith, k.0.1)), k.1 ∙ sym (small_text n (omega (arith, k.0.1))))

    back : (b : Bool) → nat_lt n (2 ^ 32) ≡ b → (least ≤ n × n < 2 ^ 48) × (text ≡ as_part_text n) → option_or (small_part_of least text) (groups_of text) ≡ Some n
    back true b k =
        let small : n < 2 ^ 32 = ltb-true n (2 ^ 32) b in
        ap (λ o. option_or o (groups_of text)) ((small_part_spelling least text n).1 ((omega (arith, k.0.0), omega (arith, small)), k.1 ∙ small_text n small))
    back false b k =
        let large : 2 ^ 32 ≤ n = ltb-false n (2 ^ 32) b in
        let whole : text ≡ groups_text n = k.1 ∙ large_text n large in
        ap (λ o. option_or o (groups_of text)) (ap (small_part_of least) whole ∙ no_colon least n)
        ∙ (groups_spelling text n).1 ((large, k.0.1), whole)

pub as_part_has_text : (least : ℕ) → IsLeast least → HasText (as_part_of least)
as_part_has_text least low =
    has_text (as_part_of least) (λ n. (least ≤ n) × (n < 2 ^ 48)) as_part_text least (as_part_spelling least low) (omega arith, omega arith)

as_part_unmarked : (least mark : ℕ) → is_digit_of 10 mark ≡ false → is_digit_of 16 mark ≡ false → (colon == mark) ≡ false → IsUnmarked mark (as_part_of least)
unfolding as_part_of groups_of low_groups_of
as_part_unmarked least mark d h c =
    or_unmarked mark (small_part_of least) groups_of (numeral_unmarked 10 least 0xffff_ffff mark d)
    (map_unmarked mark (λ p. p.0 * 2 ^ 32 + p.1) (parted colon (group_of 1) low_groups_of)
    (parted_unmarked mark colon (group_of 1) low_groups_of c (group_unmarked 1 mark h)
    (map_unmarked mark (λ p. p.0 * 2 ^ 16 + p.1) (parted colon (group_of 0) (group_of 0))
    (parted_unmarked mark colon (group_of 0) (group_of 0) c (group_unmarked 0 mark h) (group_unmarked 0 mark h)))))

pub as_from_spelling : (least : ℕ) → IsLeast least → HasOneSpelling (as_from least) (IsFrom least) as_text
unfolding as_from as_text
as_from_spelling least small =
    restated (joined dash (2 ^ 48) (isd_of least) (as_part_of least))
    (λ a. ((least ≤ a / 2 ^ 48) × (a / 2 ^ 48 ≤ 0xffff)) × ((least ≤ a % 2 ^ 48) × (a % 2 ^ 48 < 2 ^ 48)))
    (IsFrom least)
    (λ a. decimal (a / 2 ^ 48) ++ (dash ∷ as_part_text (a % 2 ^ 48)))
    as_text
    (λ a h. (omega arith, h.0.0, h.1.0))
    (λ a h. ((h.1, omega arith), (h.2, omega arith)))
    (λ a h. refl)
    (joined_spelling dash (2 ^ 48) (isd_of least) (as_part_of least) (λ n. (least ≤ n) × (n ≤ 0xffff)) (λ n. (least ≤ n) × (n < 2 ^ 48)) decimal as_part_text
    (isd_unmarked least) (λ n h. h.1) (isd_spelling least) (as_part_spelling least small))

pub as_spelling : HasOneSpelling as_of IsReadable as_text
as_spelling = as_from_spelling 1 (omega arith)

pub as_unmarked : (least : ℕ) → IsUnmarked comma (as_from least)
unfolding as_from
as_unmarked least =
    map_unmarked comma (λ p. p.0 * 2 ^ 48 + p.1) (parted dash (isd_of least) (as_part_of least))
    (parted_unmarked comma dash (isd_of least) (as_part_of least) refl (numeral_unmarked 10 least 0xffff comma refl) (as_part_unmarked least comma refl refl refl))

pub number_spelling : (most : ℕ) → most < 2 ^ 64 → HasOneSpelling (number_within most) (λ n. n ≤ most) decimal
unfolding number_within
number_spelling most small =
    restated (λ t. within 0 most (numeral_of 10 t)) (λ n. (0 ≤ n) × (n ≤ most)) (λ n. n ≤ most) decimal decimal
    (λ n h. h.1) (λ n h. (omega arith, h)) (λ n h. refl)
    (numeral_spelling 10 0 most (omega arith) (omega arith) (omega arith))

pub number_has_text : (most : ℕ) → most < 2 ^ 64 → HasText (number_within most)
number_has_text most small = has_text (number_within most) (λ n. n ≤ most) decimal 0 (number_spelling most small) (omega arith)

pub host_from_spelling : (least : ℕ) → IsLeast least → HasOneSpelling (host_from least) (IsHostFrom least) host_text
unfolding host_from host_text
host_from_spelling least small text h = (λ e. there (parted comma (as_from least) (number_within most) text) refl e, back)
  where
    most : ℕ
    most = 0xffff_ffff

    host_at : ℕ × ℕ → HostId
    host_at p = record { asn = record { 0 = p.0 }; host = p.1 }

    there : (o : Option (ℕ × ℕ)) → parted comma (as_from least) (number_within most) text ≡ o → option_map host_at (parted comma (as_from least) (number_within most) text) ≡ Some h → IsHostFrom least h × (text ≡ host_text h)
    there None none e = absurd (none-some h (sym (ap (option_map host_at) none) ∙ e))
    there (Some p) some e =
        let parts = parted_parts comma (as_from least) (number_within most) text p some in
        let asn = (as_from_spelling least small parts.before p.0).0 parts.first in
        let host = (number_spelling most (omega arith) parts.after p.1).0 parts.second in
        let same : host_at p ≡ h = same_Some (host_at p) h (sym (ap (option_map host_at) some) ∙ e) in
        subst (λ x. IsHostFrom least x × (text ≡ host_text x)) same (
          (asn.0, omega (arith, host.0)),
          parts.whole ∙ ap (λ x. x ++ (comma ∷ parts.after)) asn.1 ∙ ap (λ y. as_text p.0 ++ (comma ∷ y)) host.1,
        )

    back : IsHostFrom least h × (text ≡ host_text h) → option_map host_at (parted comma (as_from least) (number_within most) text) ≡ Some h
    back k =
        ap (option_map host_at)
        (has_parts_parted comma (as_from least) (number_within most) text h.asn.0 h.host (as_unmarked least)
        (record {
          before = as_text h.asn.0;
          after = decimal h.host;
          whole = k.1;
          first = (as_from_spelling least small (as_text h.asn.0) h.asn.0).1 (k.0.0, refl);
          second = (number_spelling most (omega arith) (decimal h.host) h.host).1 (omega (arith, k.0.1), refl);
        }))
