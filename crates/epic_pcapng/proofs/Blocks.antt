-- The head and the end of a block stay when more bytes follow.
use Rattle.std.proofs.Common.{◌≡◌, ℕ, ◌+◌, ◌-◌, ◌%◌, ◌<◌, ◌≤◌, Bool, true, false, cond, ltb, List, ◌++◌, length, drop, Option, Some, None, Result, Ok, Err, refl, ap, sym, ◌∙◌, subst, arith, length-append, length-drop}
use Rattle.std.proofs.lemmas.List.{drop-drop}
use Rattle.std.specs.Prelude.{not, ◌==◌}
use Rattle.std.proofs.lemmas.Bool.{cond_both, true≢false, ltb-false}
use Rattle.std.proofs.lemmas.Bool.Decides.{nat_tests}
use Rattle.epic_capture.specs.declared.numbers.Order.{Order}
use Rattle.epic_capture.specs.declared.numbers.Order.TheVariants.{Little, Big}
use Rattle.epic_capture.specs.Numbers.{number}
use Rattle.epic_capture.specs.Capture.{passes}
use Rattle.epic_capture.proofs.Longer.{number-append, number-drop-append}
use Rattle.epic_pcapng.specs.declared.block.Head.{Head}
use Rattle.epic_pcapng.specs.declared.block.Kind.{Kind}
use Rattle.epic_pcapng.specs.declared.block.Kind.TheVariants.{Section, Interface, Simple, Enhanced, Other}
use Rattle.epic_pcapng.specs.declared.damage.NgError.{NgError}
use Rattle.epic_pcapng.specs.declared.damage.NgKind.{NgKind}
use Rattle.epic_pcapng.specs.declared.damage.NgKind.TheVariants.{Truncated, ByteOrder, BlockLength, BlockTooLong, TooLong}
use Rattle.epic_pcapng.specs.Damage.{damage, is_truncated}
use Rattle.epic_pcapng.specs.Blocks.{least, most, kind_of, order_of, front, checked, of_order, section_heading, heading, ends}

-- The three answers: another damage, an early end, what is found.
front_cases : {A : Type 0} (P : Result A NgError → Type 0) (size begin len : ℕ) (found : Result A NgError)
    → ((kind : NgKind) (offset : ℕ) → is_truncated kind ≡ false → P (Err (damage kind offset)))
    → (len < size → (begin ≤ 67108864 → begin + len ≤ 67108864) → P (Err (damage Truncated begin)))
    → (size ≤ len → (begin ≤ 67108864 → begin + size ≤ 67108864) → P found)
    → P (front size begin len found)
unfolding front
front_cases P size begin len found other cut there =
    cond_both (passes (begin + size) (begin + len)) _ _ P (λ h. other TooLong 67108864 refl) (λ h.
    cond_both (ltb len size) _ _ P (λ h2. cut (grind (arith, nat_tests)) (λ b. grind (arith, nat_tests)))
    (λ h2. there (grind (arith, nat_tests)) (λ b. grind (arith, nat_tests))))

-- what is found stays, and so does any damage but an early end
front_longer : {A : Type 0} (size begin len longer : ℕ) (x y : Result A NgError) → len ≤ longer
    → (size ≤ len → front size begin len x ≡ x → y ≡ x) → (front size begin len x ≡ Err (damage Truncated begin) → ⊥)
    → front size begin longer y ≡ front size begin len x
unfolding front
front_longer size begin len longer x y more same open_ =
    by (passes (begin + size) (begin + len)) (ltb len size) refl refl
  where
    by : (p q : Bool) → passes (begin + size) (begin + len) ≡ p → ltb len size ≡ q
        → cond (passes (begin + size) (begin + longer)) (Err (damage TooLong 67108864)) (cond (ltb longer size) (Err (damage Truncated begin)) y)
        ≡ cond (passes (begin + size) (begin + len)) (Err (damage TooLong 67108864)) (cond (ltb len size) (Err (damage Truncated begin)) x)
    by true q ph qh =
        let again : passes (begin + size) (begin + longer) ≡ true = grind (arith, nat_tests) in
        rw (again, ph) refl
    by false true ph qh = absurd (open_ (rw (ph, qh) refl))
    by false false ph qh =
        let there : size ≤ len = ltb-false len size qh in
        let longer_there : ltb longer size ≡ false = grind (arith, nat_tests) in
        let is : y ≡ x = same there (rw (ph, qh) refl) in
        let within : passes (begin + size) (begin + longer) ≡ false = grind (arith, nat_tests) in
        rw (within, longer_there, ph, qh) is

checked_cases : (P : Result Head NgError → Type 0) (begin : ℕ) (kind : Kind) (order : Order) (len : ℕ)
    → ((kind : NgKind) (offset : ℕ) → is_truncated kind ≡ false → P (Err (damage kind offset)))
    → (least kind ≤ len → len ≤ most kind → P (Ok (record { kind = kind; order = order; len = len })))
    → P (checked begin kind order len)
unfolding checked
checked_cases P begin kind order len other good =
    cond_both (not (len % 4 == 0)) _ (cond (ltb len (least kind)) (Err (damage BlockLength (begin + 4))) (cond (ltb (most kind) len) (Err (damage BlockTooLong (begin + 4))) (Ok (record { kind = kind; order = order; len = len })))) P (λ h. other BlockLength (begin + 4) refl) (λ h1.
    cond_both (ltb len (least kind)) _ _ P (λ h. other BlockLength (begin + 4) refl) (λ h2.
    cond_both (ltb (most kind) len) _ _ P (λ h. other BlockTooLong (begin + 4) refl) (λ h3.
    good (ltb-false len (least kind) h2) (ltb-false (most kind) len h3))))

-- What a head says of the bytes.
pub record HeadFits (order : Order) (begin len : ℕ) (head : Head) : Type 0 where
  pub least : least head.kind ≤ head.len
  pub most : head.len ≤ most head.kind
  pub eight : 8 ≤ len
  pub limit : begin ≤ 67108864 → begin + 8 ≤ 67108864
  pub same_order : (head.kind ≡ Section → ⊥) → head.order ≡ order

-- An early end, as what it is.
pub record EndsEarly (begin len size : ℕ) (e : NgError) : Type 0 where
  pub is : e ≡ damage Truncated begin
  pub few : len < size
  pub limit : begin ≤ 67108864 → begin + len ≤ 67108864

abbrev heading_by : Order → ℕ → ℕ → Result Head NgError → Type 0
heading_by order begin len (Ok head) = HeadFits order begin len head
heading_by order begin len (Err e) = is_truncated e.kind ≡ true → EndsEarly begin len 12 e

other_heading : (order : Order) (begin len : ℕ) (kind : NgKind) (offset : ℕ) → is_truncated kind ≡ false → heading_by order begin len (Err (damage kind offset))
other_heading order begin len kind offset other = λ t. absurd (true≢false (sym t ∙ other))

early_heading : (order : Order) (begin len : ℕ) → len < 12 → (begin ≤ 67108864 → begin + len ≤ 67108864) → heading_by order begin len (Err (damage Truncated begin))
early_heading order begin len few limit = λ t. record { is = refl; few = few; limit = limit }

of_order_says : (order : Order) (begin : ℕ) (xs : List ℕ) (o : Option Order) → 8 ≤ length xs → (begin ≤ 67108864 → begin + 8 ≤ 67108864)
    → heading_by order begin (length xs) (of_order begin xs o)
of_order_says order begin xs None eight limit = other_heading order begin (length xs) ByteOrder (begin + 8) refl
of_order_says order begin xs (Some o) eight limit =
    checked_cases (heading_by order begin (length xs)) begin Section o (number o 4 (drop 4 xs)) (other_heading order begin (length xs))
    (λ low high. record { least = low; most = high; eight = eight; limit = limit; same_order = λ n. absurd (n refl) })

section_cases : (P : Result Head NgError → Type 0) (begin : ℕ) (xs : List ℕ)
    → ((kind : NgKind) (offset : ℕ) → is_truncated kind ≡ false → P (Err (damage kind offset)))
    → (length xs < 12 → (begin ≤ 67108864 → begin + length xs ≤ 67108864) → P (Err (damage Truncated begin)))
    → P (of_order begin xs (order_of (drop 8 xs))) → P (section_heading begin xs)
unfolding section_heading
section_cases P begin xs other cut there =
    front_cases P 12 begin (length xs) (of_order begin xs (order_of (drop 8 xs))) other cut (λ h l. there)

no_section : (n : ℕ) → kind_of n ≡ Section → ⊥
no_section n = by (n == 1) (n == 3) (n == 6)
  where
    by : (a b c : Bool) → cond a Interface (cond b Simple (cond c Enhanced Other)) ≡ Section → ⊥
    by true b c h = cc
    by false true c h = cc
    by false false true h = cc
    by false false false h = cc

heading_cases : (P : Result Head NgError → Type 0) (order : Order) (begin : ℕ) (xs : List ℕ)
    → ((kind : NgKind) (offset : ℕ) → is_truncated kind ≡ false → P (Err (damage kind offset)))
    → (length xs < 12 → (begin ≤ 67108864 → begin + length xs ≤ 67108864) → P (Err (damage Truncated begin)))
    → (8 ≤ length xs → (begin ≤ 67108864 → begin + 8 ≤ 67108864) → P (of_order begin xs (order_of (drop 8 xs))))
    → (8 ≤ length xs → (begin ≤ 67108864 → begin + 8 ≤ 67108864) → P (checked begin (kind_of (number order 4 xs)) order (number order 4 (drop 4 xs))))
    → P (heading order begin xs)
unfolding heading
heading_cases P order begin xs other cut is_section is_other =
    front_cases P 8 begin (length xs) _ other (λ few limit. cut (omega arith) limit)
    (λ eight limit. cond_both (number order 4 xs == 168627466) _ _ P
    (λ h. section_cases P begin xs other cut (is_section eight limit))
    (λ h. is_other eight limit))

pub heading_says : (order : Order) (begin : ℕ) (xs : List ℕ) → heading_by order begin (length xs) (heading order begin xs)
heading_says order begin xs =
    heading_cases (heading_by order begin (length xs)) order begin xs (other_heading order begin (length xs)) (early_heading order begin (length xs))
    (λ eight limit. of_order_says order begin xs (order_of (drop 8 xs)) eight limit)
    (λ eight limit. checked_cases (heading_by order begin (length xs)) begin (kind_of (number order 4 xs)) order (number order 4 (drop 4 xs))
    (other_heading order begin (length xs))
    (λ low high. record { least = low; most = high; eight = eight; limit = limit; same_order = λ n. refl }))

pub heading_fits : (order : Order) (begin : ℕ) (xs : List ℕ) (head : Head) → heading order begin xs ≡ Ok head → HeadFits order begin (length xs) head
heading_fits order begin xs head h = subst (heading_by order begin (length xs)) h (heading_says order begin xs)

pub heading_early : (order : Order) (begin : ℕ) (xs : List ℕ) (e : NgError) → heading order begin xs ≡ Err e → is_truncated e.kind ≡ true → EndsEarly begin (length xs) 12 e
heading_early order begin xs e h = subst (heading_by order begin (length xs)) h (heading_says order begin xs)

of_order-append : (begin : ℕ) (o : Option Order) (xs ys : List ℕ) → 8 ≤ length xs → of_order begin (xs ++ ys) o ≡ of_order begin xs o
of_order-append begin None xs ys h = refl
of_order-append begin (Some o) xs ys h = ap (λ (n : ℕ). checked begin Section o n) (number-drop-append o 4 4 xs ys (omega arith))

order_of-append : (xs ys : List ℕ) → 12 ≤ length xs → order_of (drop 8 (xs ++ ys)) ≡ order_of (drop 8 xs)
unfolding order_of
order_of-append xs ys h =
    let little = number-drop-append Little 4 8 xs ys (omega arith) in
    let big = number-drop-append Big 4 8 xs ys (omega arith) in
    rw (little, big) refl

section_longer : (begin : ℕ) (xs ys : List ℕ) → (section_heading begin xs ≡ Err (damage Truncated begin) → ⊥) → section_heading begin (xs ++ ys) ≡ section_heading begin xs
unfolding section_heading
section_longer begin xs ys open_ =
    let more : length xs ≤ length (xs ++ ys) = omega (arith, length-append xs ys) in
    front_longer 12 begin (length xs) (length (xs ++ ys)) (of_order begin xs (order_of (drop 8 xs))) (of_order begin (xs ++ ys) (order_of (drop 8 (xs ++ ys)))) more
    (λ twelve is. ap (of_order begin (xs ++ ys)) (order_of-append xs ys twelve) ∙ of_order-append begin (order_of (drop 8 xs)) xs ys (omega arith)) open_

pub heading_longer : (order : Order) (begin : ℕ) (xs ys : List ℕ) → (heading order begin xs ≡ Err (damage Truncated begin) → ⊥) → heading order begin (xs ++ ys) ≡ heading order begin xs
unfolding heading
heading_longer order begin xs ys open_ =
    let more : length xs ≤ length (xs ++ ys) = omega (arith, length-append xs ys) in
    front_longer 8 begin (length xs) (length (xs ++ ys)) (inner xs) (inner (xs ++ ys)) more
    (λ eight is. same eight (λ h. open_ (is ∙ h))) open_
  where
    by_kind : Bool → List ℕ → Result Head NgError
    by_kind b zs = cond b (section_heading begin zs) (checked begin (kind_of (number order 4 zs)) order (number order 4 (drop 4 zs)))

    inner : List ℕ → Result Head NgError
    inner zs = cond (number order 4 zs == 168627466) (section_heading begin zs) (checked begin (kind_of (number order 4 zs)) order (number order 4 (drop 4 zs)))

    same : 8 ≤ length xs → (inner xs ≡ Err (damage Truncated begin) → ⊥) → inner (xs ++ ys) ≡ inner xs
    same eight open2 =
        let kind : number order 4 (xs ++ ys) ≡ number order 4 xs = number-append order 4 xs ys (omega arith) in
        let len : number order 4 (drop 4 (xs ++ ys)) ≡ number order 4 (drop 4 xs) = number-drop-append order 4 4 xs ys (omega arith) in
        rw (kind, len) (at (number order 4 xs == 168627466) (checked begin (kind_of (number order 4 xs)) order (number order 4 (drop 4 xs))) open2)
      where
        at : (b : Bool) (other : Result Head NgError) → (cond b (section_heading begin xs) other ≡ Err (damage Truncated begin) → ⊥)
            → cond b (section_heading begin (xs ++ ys)) other ≡ cond b (section_heading begin xs) other
        at true other open3 = section_longer begin xs ys open3
        at false other open3 = refl

-- the end of a block
abbrev ends_by : ℕ → ℕ → ℕ → Result (Unit {0}) NgError → Type 0
ends_by begin len there (Ok done) = (len ≤ there) × (begin ≤ 67108864 → begin + len ≤ 67108864)
ends_by begin len there (Err e) = is_truncated e.kind ≡ true → EndsEarly begin there len e

ends_cases : (P : Result (Unit {0}) NgError → Type 0) (order : Order) (begin len gone : ℕ) (xs : List ℕ)
    → ((kind : NgKind) (offset : ℕ) → is_truncated kind ≡ false → P (Err (damage kind offset)))
    → (gone + length xs < len → (begin ≤ 67108864 → begin + (gone + length xs) ≤ 67108864) → P (Err (damage Truncated begin)))
    → (len ≤ gone + length xs → (begin ≤ 67108864 → begin + len ≤ 67108864) → P (Ok tt))
    → P (ends order begin len gone xs)
unfolding ends
ends_cases P order begin len gone xs other cut there =
    front_cases P len begin (gone + length xs) _ other cut
    (λ all limit. cond_both (not (number order 4 (drop (len - 4 - gone) xs) == len)) _ _ P (λ h. other BlockLength (begin + len - 4) refl) (λ h. there all limit))

pub ends_says : (order : Order) (begin len gone : ℕ) (xs : List ℕ) → ends_by begin len (gone + length xs) (ends order begin len gone xs)
ends_says order begin len gone xs =
    ends_cases (ends_by begin len (gone + length xs)) order begin len gone xs
    (λ kind offset other t. absurd (true≢false (sym t ∙ other)))
    (λ few limit t. record { is = refl; few = few; limit = limit })
    (λ all limit. (all, limit))

pub ends_fits : (order : Order) (begin len gone : ℕ) (xs : List ℕ) → ends order begin len gone xs ≡ Ok tt → (len ≤ gone + length xs) × (begin ≤ 67108864 → begin + len ≤ 67108864)
ends_fits order begin len gone xs h = subst (ends_by begin len (gone + length xs)) h (ends_says order begin len gone xs)

pub ends_early : (order : Order) (begin len gone : ℕ) (xs : List ℕ) (e : NgError) → ends order begin len gone xs ≡ Err e → is_truncated e.kind ≡ true
    → EndsEarly begin (gone + length xs) len e
ends_early order begin len gone xs e h = subst (ends_by begin len (gone + length xs)) h (ends_says order begin len gone xs)

pub ends_longer : (order : Order) (begin len gone : ℕ) (xs ys : List ℕ) → 4 + gone ≤ len → (ends order begin len gone xs ≡ Err (damage Truncated begin) → ⊥)
    → ends order begin len gone (xs ++ ys) ≡ ends order begin len gone xs
unfolding ends
ends_longer order begin len gone xs ys inside open_ =
    let more : gone + length xs ≤ gone + length (xs ++ ys) = omega (arith, length-append xs ys) in
    front_longer len begin (gone + length xs) (gone + length (xs ++ ys)) _ _ more
    (λ all is. ap (λ (n : ℕ). cond (not (n == len)) (Err (damage BlockLength (begin + len - 4))) (Ok tt)) (number-drop-append order 4 (len - 4 - gone) xs ys (omega arith))) open_

-- some more of the block's bytes were passed
pub ends_on : (order : Order) (begin len gone count : ℕ) (xs : List ℕ) → count ≤ length xs → 4 + (gone + count) ≤ len
    → ends order begin len (gone + count) (drop count xs) ≡ ends order begin len gone xs
unfolding ends
ends_on order begin len gone count xs there inside =
    let all : gone + count + length (drop count xs) ≡ gone + length xs = omega (arith, length-drop count xs) in
    let at : count + (len - 4 - (gone + count)) ≡ len - 4 - gone = omega arith in
    let last : drop (len - 4 - (gone + count)) (drop count xs) ≡ drop (len - 4 - gone) xs = drop-drop (len - 4 - (gone + count)) count xs ∙ ap (λ (n : ℕ). drop n xs) at in
    rw (all, last) refl

-- no bytes are an early end
pub no_heading : (order : Order) (begin : ℕ) (xs : List ℕ) → begin ≤ 67108864 → length xs ≡ 0 → heading order begin xs ≡ Err (damage Truncated begin)
unfolding heading front
no_heading order begin xs limit none =
    let within : passes (begin + 8) (begin + length xs) ≡ false = grind (arith, nat_tests) in
    let short : ltb (length xs) 8 ≡ true = grind (arith, nat_tests) in
    rw (within, short) refl
