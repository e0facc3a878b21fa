-- Lists of paths in order: there is one for each list of paths.
use Rattle.std.proofs.Common.{◌≡◌, ℕ, suc, ◌+◌, ◌<◌, Bool, true, false, cond, List, [], ◌∷◌, length, get_or, refl, sym, ap, ◌∙◌, subst, arith}
use Rattle.std.specs.Prelude.{sum_by}
use Rattle.std.specs.declared.cmp.Ordering.{Ordering}
use Rattle.std.specs.declared.cmp.Ordering.TheVariants.{Less, Equal, Greater}
use Rattle.std.specs.Ordering.{nat_cmp, ordering_then, ordering_reverse, is_lt, is_gt, is_eq}
use Rattle.std.specs.Cmp.{IsTotalOrder, IsStrictWeakOrder}
use Rattle.std.specs.Cmp.Lexicographic.{slice_cmp}
use Rattle.std.specs.FinMap.{nat_cmp-IsAntisymmetric, slice_cmp-IsAntisymmetric}
use Rattle.std.specs.List.Sorted.{IsSortedBy, IsPermutation}
use Rattle.std.proofs.lemmas.Cmp.{nat_cmp_total, nat_list_cmp_total, on_total, then_total, upto, tied_itself}
use Rattle.std.proofs.lemmas.List.Sums.{sum_by-cons}
use Rattle.std.proofs.lemmas.List.Sorted.{ranks_by, sorted_far, sum_by-IsPermutation}
use Rattle.epic_num.specs.declared.path_ref.PathRef.{PathRef}
use Rattle.epic_path.specs.Routes.{path_cmp, placed, in_order}

pub path_total : IsTotalOrder path_cmp
path_total = then_total (on_total (λ (p : PathRef). p.hops) nat_cmp_total) (on_total (λ (p : PathRef). p.issues.items) nat_list_cmp_total)

both_equal : (a b : Ordering) → ordering_then a b ≡ Equal → (a ≡ Equal) × (b ≡ Equal)
both_equal Less b e = absurd (cc)
both_equal Equal b e = (refl, e)
both_equal Greater b e = absurd (cc)

-- paths that tie are the same
pub path_tie : (p q : PathRef) → path_cmp p q ≡ Equal → p ≡ q
path_tie p q e =
    let parts = both_equal (nat_cmp p.hops q.hops) (slice_cmp nat_cmp p.issues.items q.issues.items) e in
    let hops = nat_cmp-IsAntisymmetric p.hops q.hops parts.0 in
    let issues = slice_cmp-IsAntisymmetric nat_cmp-IsAntisymmetric p.issues.items q.issues.items parts.1 in
    λ i. record { issues = record { items = issues i }; hops = hops i }

-- p comes no later than q
abbrev pub AtMost : PathRef → PathRef → Type 0
AtMost p q = is_gt (path_cmp p q) ≡ false

turned : (r : Ordering) → is_gt (ordering_reverse r) ≡ is_lt r
turned Less = refl
turned Equal = refl
turned Greater = refl

turned_back : (r : Ordering) → is_lt (ordering_reverse r) ≡ is_gt r
turned_back Less = refl
turned_back Equal = refl
turned_back Greater = refl

at_most_from_not_less : (p q : PathRef) → is_lt (path_cmp q p) ≡ false → AtMost p q
at_most_from_not_less p q e = ap is_gt (path_total.antisymm p q) ∙ turned (path_cmp q p) ∙ e

less_at_most : (r : Ordering) → is_lt r ≡ true → is_gt r ≡ false
less_at_most Less e = refl
less_at_most Equal e = absurd (cc)
less_at_most Greater e = absurd (cc)

pub at_most_itself : (p : PathRef) → AtMost p p
at_most_itself p = ap is_gt (tied_itself path_total p)

equal_between : (r : Ordering) → is_gt r ≡ false → is_lt r ≡ false → r ≡ Equal
equal_between Less g l = absurd (cc)
equal_between Equal g l = refl
equal_between Greater g l = absurd (cc)

pub same_from_at_most : (p q : PathRef) → AtMost p q → AtMost q p → p ≡ q
same_from_at_most p q pq qp =
    path_tie p q (equal_between (path_cmp p q) pq (ap is_lt (path_total.antisymm p q) ∙ turned_back (path_cmp q p) ∙ qp))

-- ---- lists in order

abbrev pub Below : PathRef → List PathRef → Type 0
Below p [] = Unit {0}
Below p (q ∷ qs) = AtMost p q × Below p qs

abbrev pub Ascends : List PathRef → Type 0
Ascends [] = Unit {0}
Ascends (p ∷ ps) = Below p ps × Ascends ps

below_trans : (p q : PathRef) (qs : List PathRef) → AtMost p q → Below q qs → Below p qs
below_trans p q [] e below = tt
below_trans p q (r ∷ rs) e below = (upto path_total p q r e below.0, below_trans p q rs e below.1)

below_placed : (p q : PathRef) (qs : List PathRef) → AtMost q p → Below q qs → Below q (placed p qs)
unfolding placed
below_placed p q [] e below = (e, tt)
below_placed p q (r ∷ rs) e below =
    elim (is_lt (path_cmp r p)) as (λ b. Below q (cond b (r ∷ placed p rs) (p ∷ r ∷ rs))) [
      | true ↦ (below.0, below_placed p q rs e below.1)
      | false ↦ (e, below)
    ]

ascends_placed : (p : PathRef) (qs : List PathRef) → Ascends qs → Ascends (placed p qs)
unfolding placed
ascends_placed p [] up = (tt, tt)
ascends_placed p (q ∷ qs) up =
    let T : Bool → Type 0 = λ b. is_lt (path_cmp q p) ≡ b → Ascends (cond b (q ∷ placed p qs) (p ∷ q ∷ qs)) in
    (elim (is_lt (path_cmp q p)) as T [
      | true ↦ λ e. (below_placed p q qs (less_at_most (path_cmp q p) e) up.0, ascends_placed p qs up.1)
      | false ↦ λ e. let first = at_most_from_not_less p q e in ((first, below_trans p q qs first up.0), up)
    ]) refl

pub ascends_in_order : (ps : List PathRef) → Ascends (in_order ps)
unfolding in_order
ascends_in_order [] = tt
ascends_in_order (p ∷ ps) = ascends_placed p (in_order ps) (ascends_in_order ps)

sum_by-placed : (f : PathRef → ℕ) (p : PathRef) (qs : List PathRef) → sum_by f (placed p qs) ≡ f p + sum_by f qs
unfolding placed
sum_by-placed f p [] = omega arith
sum_by-placed f p (q ∷ qs) =
    elim (is_lt (path_cmp q p)) as (λ b. sum_by f (cond b (q ∷ placed p qs) (p ∷ q ∷ qs)) ≡ f p + sum_by f (q ∷ qs)) [
      | true ↦ omega (arith, sum_by-cons f q (placed p qs), sum_by-placed f p qs, sum_by-cons f q qs)
      | false ↦ sum_by-cons f p (q ∷ qs)
    ]

pub sum_by-in_order : (f : PathRef → ℕ) (ps : List PathRef) → sum_by f (in_order ps) ≡ sum_by f ps
unfolding in_order
sum_by-in_order f [] = refl
sum_by-in_order f (p ∷ ps) = omega (arith, sum_by-placed f p (in_order ps), sum_by-in_order f ps, sum_by-cons f p ps)

-- ---- what a sort ensures

below_from : (p : PathRef) (qs : List PathRef) → ((k : ℕ) (d : PathRef) → k < length qs → is_lt (path_cmp (get_or qs k d) p) ≡ false) → Below p qs
below_from p [] h = tt
below_from p (q ∷ qs) h = (at_most_from_not_less p q (h 0 q (omega arith)), below_from p qs (λ k d l. h (suc k) d (omega arith)))

pub path_weak : IsStrictWeakOrder (λ p q. is_lt (path_cmp p q))
path_weak = ranks_by path_total (λ (p : PathRef). p)

pub ascends_from_sorted : (ps : List PathRef) → IsSortedBy (λ p q. is_lt (path_cmp p q)) ps → Ascends ps
ascends_from_sorted [] up = tt
ascends_from_sorted (p ∷ ps) up = (
  below_from p ps (λ k d l. sorted_far (λ a b. is_lt (path_cmp a b)) path_weak (p ∷ ps) up 0 (suc k) d (omega arith) (omega arith)),
  ascends_from_sorted ps (λ k d low high. let n : suc k + 1 ≡ suc (k + 1) = omega arith in rw n at (up (suc k) d (omega arith) (omega arith))),
)

-- ---- two lists in order are the same, if each path counts as much in one as in the other

-- whether q is p, as a number
abbrev pub is_path : PathRef → PathRef → ℕ
is_path p q = cond (is_eq (path_cmp p q)) 1 0

pub equal_from_is_eq : (r : Ordering) → is_eq r ≡ true → r ≡ Equal
equal_from_is_eq Less e = absurd (cc)
equal_from_is_eq Equal e = refl
equal_from_is_eq Greater e = absurd (cc)

pub is_path_itself : (p : PathRef) → is_path p p ≡ 1
is_path_itself p = ap (λ r. cond (is_eq r) 1 0) (tied_itself path_total p)

pub below_each : (p q : PathRef) (ps : List PathRef) → Below p ps → 0 < sum_by (is_path q) ps → AtMost p q
below_each p q [] below some = absurd (omega arith)
below_each p q (r ∷ rs) below some =
    let T : Bool → Type 0 = λ b. is_eq (path_cmp q r) ≡ b → 0 < cond b 1 0 + sum_by (is_path q) rs → AtMost p q in
    (elim (is_eq (path_cmp q r)) as T [
      | true ↦ λ e some'. subst (AtMost p) (sym (path_tie q r (equal_from_is_eq (path_cmp q r) e))) below.0
      | false ↦ λ e some'. below_each p q rs below.1 (omega arith)
    ]) refl (omega (arith, sum_by-cons (is_path q) r rs))

pub first_of : (p q : PathRef) (ps : List PathRef) → Below p ps → 0 < sum_by (is_path q) (p ∷ ps) → AtMost p q
first_of p q ps below some = below_each p q (p ∷ ps) (at_most_itself p, below) some

pub same_in_order : (ps qs : List PathRef) → Ascends ps → Ascends qs → ((f : PathRef → ℕ) → sum_by f ps ≡ sum_by f qs) → ps ≡ qs
same_in_order [] [] up up' same = refl
same_in_order [] (q ∷ qs) up up' same = absurd (omega (arith, same (λ _. 1), sum_by-cons (λ (_ : PathRef). 1) q qs))
same_in_order (p ∷ ps) [] up up' same = absurd (omega (arith, same (λ _. 1), sum_by-cons (λ (_ : PathRef). 1) p ps))
same_in_order (p ∷ ps) (q ∷ qs) up up' same =
    let pq = first_of p q ps up.0 (omega (arith, same (is_path q), sum_by-cons (is_path q) q qs, is_path_itself q)) in
    let qp = first_of q p qs up'.0 (omega (arith, same (is_path p), sum_by-cons (is_path p) p ps, is_path_itself p)) in
    let first = same_from_at_most p q pq qp in
    let rest = same_in_order ps qs up.1 up'.1 (λ f. let e = ap f first in omega (arith, same f, sum_by-cons f p ps, sum_by-cons f q qs)) in
    λ i. first i ∷ rest i

sum_by-ones : (ps : List PathRef) → sum_by (λ _. 1) ps ≡ length ps
sum_by-ones [] = refl
sum_by-ones (p ∷ ps) = omega (arith, sum_by-cons (λ (_ : PathRef). 1) p ps, sum_by-ones ps)

-- a list that was found, put in order, is the list of names in order
pub sorted_is : (found sorted names : List PathRef) → IsPermutation found sorted → IsSortedBy (λ p q. is_lt (path_cmp p q)) sorted → ((f : PathRef → ℕ) → sum_by f found ≡ sum_by f names) → sorted ≡ in_order names
sorted_is found sorted names moved up same =
    same_in_order sorted (in_order names) (ascends_from_sorted sorted up) (ascends_in_order names)
    (λ f. sum_by-IsPermutation f found sorted moved ∙ same f ∙ sym (sum_by-in_order f names))

-- as many were found as there are names
pub found_as_many : (found names : List PathRef) → ((f : PathRef → ℕ) → sum_by f found ≡ sum_by f names) → length found ≡ length (in_order names)
found_as_many found names same =
    sym (sum_by-ones found) ∙ same (λ _. 1) ∙ sym (sum_by-in_order (λ _. 1) names) ∙ sum_by-ones (in_order names)
