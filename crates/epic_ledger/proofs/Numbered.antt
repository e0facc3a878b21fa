-- The events of one kind, by their numbers.
use Rattle.std.proofs.Common.{◌≡◌, ℕ, zero, suc, ◌+◌, ◌-◌, ◌<◌, ◌≤◌, Bool, true, false, cond, List, [], ◌∷◌, ◌++◌, length, Option, Some, None, refl, sym, ap, ◌∙◌, arith}
use Rattle.std.specs.Prelude.{position, filter_map, slice_index, slice_index_or, option_map}
use Rattle.std.specs.List.{position_from, cons_option}
use Rattle.std.proofs.lemmas.Iterator.Adapters.{position_from-zero}
use Rattle.std.specs.Option.{option_map_or}
use Rattle.epic_ledger.specs.Kinds.{number_on, numbers_from}

numbers_by : {X : Type 0} (o : Option X) (n : ℕ) (ns ms : List ℕ) → number_on o n (ns ++ ms) ≡ number_on o n ns ++ ms
numbers_by None n ns ms = refl
numbers_by (Some x) n ns ms = refl

pub numbers-append : {E X : Type 0} (f : E → Option X) (n : ℕ) (es : List E) (e : E) → numbers_from f n (es ++ e ∷ []) ≡ numbers_from f n es ++ number_on (f e) (n + length es) []
numbers-append f n [] e = ap (λ m. number_on (f e) m []) (omega arith)
numbers-append f n (x ∷ es) e =
    let at : n + 1 + length es ≡ n + length (x ∷ es) = omega arith in
    ap (number_on (f x) n) (numbers-append f (n + 1) es e ∙ ap (λ m. numbers_from f (n + 1) es ++ number_on (f e) m []) at)
    ∙ numbers_by (f x) n (numbers_from f (n + 1) es) (number_on (f e) (n + length (x ∷ es)) [])

pub length-numbers : {E X : Type 0} (f : E → Option X) (n : ℕ) (es : List E) → length (numbers_from f n es) ≡ length (filter_map f es)
length-numbers f n [] = refl
length-numbers f n (e ∷ es) = length_by (f e) n _ _ (length-numbers f (n + 1) es)
  where
    length_by : {X : Type 0} (o : Option X) (n : ℕ) (ns : List ℕ) (xs : List X) → length ns ≡ length xs → length (number_on o n ns) ≡ length (cons_option o xs)
    length_by None n ns xs h = h
    length_by (Some x) n ns xs h = ap suc h

-- what stands at a place among the events of the kind
pub record IsKindAt {E X : Type 0} (f : E → Option X) (n : ℕ) (es : List E) (ns : List ℕ) (xs : List X) (i : ℕ) (d : E) : Type 0 where
  pub low : n ≤ slice_index ns i
  pub within : slice_index ns i < n + length es
  pub item : X
  pub is : f (slice_index_or es (slice_index ns i - n) d) ≡ Some item
  pub there : (z : X) → slice_index_or xs i z ≡ item

kind_later : {E : Type 0} (n m : ℕ) (e : E) (es : List E) (d : E) → n + 1 ≤ m → slice_index_or (e ∷ es) (m - n) d ≡ slice_index_or es (m - (n + 1)) d
kind_later n m e es d h =
    let at : m - n ≡ suc (m - (n + 1)) = omega arith in
    ap (λ k. slice_index_or (e ∷ es) k d) at

kind_by : {E X : Type 0} (f : E → Option X) (o : Option X) (n : ℕ) (e : E) (es : List E) (ns : List ℕ) (xs : List X) (i : ℕ) (d : E) → f e ≡ o → ((j : ℕ) → j < length ns → IsKindAt f (n + 1) es ns xs j d) → i < length (number_on o n ns) → IsKindAt f n (e ∷ es) (number_on o n ns) (cons_option o xs) i d
kind_by f None n e es ns xs i d q more h =
    let k = more i h in
    record { low = omega (arith, k.low); within = omega (arith, k.within); item = k.item; is = ap f (kind_later n (slice_index ns i) e es d k.low) ∙ k.is; there = k.there }
kind_by f (Some x) n e es ns xs zero d q more h =
    let at : n - n ≡ 0 = omega arith in
    record { low = omega arith; within = omega arith; item = x; is = ap f (ap (λ k. slice_index_or (e ∷ es) k d) at) ∙ q; there = λ z. refl }
kind_by f (Some x) n e es ns xs (suc i) d q more h =
    let k = more i (omega arith) in
    record { low = omega (arith, k.low); within = omega (arith, k.within); item = k.item; is = ap f (kind_later n (slice_index ns i) e es d k.low) ∙ k.is; there = k.there }

pub kind_at : {E X : Type 0} (f : E → Option X) (n : ℕ) (es : List E) (i : ℕ) (d : E) → i < length (numbers_from f n es) → IsKindAt f n es (numbers_from f n es) (filter_map f es) i d
kind_at f n [] i d h = absurd (omega arith)
kind_at f n (e ∷ es) i d h =
    kind_by f (f e) n e es (numbers_from f (n + 1) es) (filter_map f es) i d refl (λ j low. kind_at f (n + 1) es j d low) h

-- the first of the kind that passes, by its place among them

shifted_by : (b : Bool) (k : ℕ) (more rest : Option ℕ) → more ≡ option_map suc rest → cond b (Some (k + 1)) more ≡ option_map suc (cond b (Some k) rest)
shifted_by true k more rest e = ap Some (omega arith)
shifted_by false k more rest e = e

shifted : {X : Type 0} (t : X → Bool) (k : ℕ) (xs : List X) → position_from t (k + 1) xs ≡ option_map suc (position_from t k xs)
shifted t k [] = refl
shifted t k (x ∷ xs) = shifted_by (t x) k _ _ (shifted t (k + 1) xs)

number_there : (n : ℕ) (ns : List ℕ) (o : Option ℕ) → option_map (slice_index (n ∷ ns)) (option_map suc o) ≡ option_map (slice_index ns) o
number_there n ns None = refl
number_there n ns (Some i) = refl

first_of_by : {X : Type 0} (b : Bool) (test : X → Bool) (n : ℕ) (ns : List ℕ) (xs : List X) (more : Option ℕ) → more ≡ option_map (slice_index ns) (position_from test 0 xs) → cond b (Some n) more ≡ option_map (slice_index (n ∷ ns)) (cond b (Some 0) (position_from test (0 + 1) xs))
first_of_by true test n ns xs more e = refl
first_of_by false test n ns xs more e = e ∙ sym (ap (option_map (slice_index (n ∷ ns))) (shifted test 0 xs) ∙ number_there n ns (position_from test 0 xs))

first_on : {X : Type 0} (o : Option X) (test : X → Bool) (n : ℕ) (ns : List ℕ) (xs : List X) (more : Option ℕ) → more ≡ option_map (slice_index ns) (position_from test 0 xs) → cond (option_map_or test o false) (Some n) more ≡ option_map (slice_index (number_on o n ns)) (position_from test 0 (cons_option o xs))
first_on None test n ns xs more e = e
first_on (Some x) test n ns xs more e = first_of_by (test x) test n ns xs more e

pub first_of_kind : {E X : Type 0} (f : E → Option X) (test : X → Bool) (n : ℕ) (es : List E) → position_from (λ e. option_map_or test (f e) false) n es ≡ option_map (slice_index (numbers_from f n es)) (position_from test 0 (filter_map f es))
first_of_kind f test n [] = refl
first_of_kind f test n (e ∷ es) = first_on (f e) test n (numbers_from f (n + 1) es) (filter_map f es) _ (first_of_kind f test (n + 1) es)

pub position_of_kind : {E X : Type 0} (f : E → Option X) (test : X → Bool) (es : List E) → position (λ e. option_map_or test (f e) false) es ≡ option_map (slice_index (numbers_from f 0 es)) (position test (filter_map f es))
position_of_kind f test es =
    position_from-zero (λ e. option_map_or test (f e) false) es ∙ first_of_kind f test 0 es
    ∙ ap (option_map (slice_index (numbers_from f 0 es))) (sym (position_from-zero test (filter_map f es)))

length_on : {X : Type 0} (o : Option X) (n m : ℕ) (ns : List ℕ) → length ns ≤ m → length (number_on o n ns) ≤ suc m
length_on None n m ns h = omega arith
length_on (Some x) n m ns h = omega arith

pub length-numbers-le : {E X : Type 0} (f : E → Option X) (n : ℕ) (es : List E) → length (numbers_from f n es) ≤ length es
length-numbers-le f n [] = omega arith
length-numbers-le f n (e ∷ es) = length_on (f e) n (length es) (numbers_from f (n + 1) es) (length-numbers-le f (n + 1) es)
