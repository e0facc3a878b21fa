-- Lists of paths in order, with none twice: there is one with the same paths.
use Rattle.std.proofs.Common.{◌≡◌, ℕ, zero, suc, ◌+◌, ◌<◌, ◌≤◌, Bool, true, false, cond, List, [], ◌∷◌, length, Contains, refl, sym, ap, ◌∙◌, subst, arith}
use Rattle.std.specs.Prelude.{sum_by}
use Rattle.std.specs.declared.cmp.Ordering.{Ordering}
use Rattle.std.specs.declared.cmp.Ordering.TheVariants.{Less, Equal, Greater}
use Rattle.std.specs.Ordering.{is_eq, is_gt}
use Rattle.std.specs.List.{AllAdjacentBelow}
use Rattle.std.proofs.lemmas.Cmp.{tied_itself}
use Rattle.std.proofs.lemmas.List.Sums.{sum_by-cons}
use Rattle.epic_num.specs.declared.path_ref.PathRef.{PathRef}
use Rattle.epic_path.specs.Routes.{path_cmp}
use Rattle.epic_path.proofs.OrderLaws.{path_total, path_tie, Below, Ascends, is_path, is_path_itself, equal_from_is_eq, first_of, same_from_at_most}
use Rattle.epic_path.proofs.RouteCounts.{counted, counts}

-- ---- lists in order that have no path twice

abbrev pub Before : PathRef → List PathRef → Type 0
Before p [] = Unit {0}
Before p (q ∷ qs) = (path_cmp p q ≡ Less) × Before p qs

abbrev pub Rises : List PathRef → Type 0
Rises [] = Unit {0}
Rises (p ∷ ps) = Before p ps × Rises ps

less_from : (r : Ordering) → is_gt r ≡ false → is_eq r ≡ false → r ≡ Less
less_from Less g e = refl
less_from Equal g e = absurd (cc)
less_from Greater g e = absurd (cc)

before_all : (p : PathRef) (qs : List PathRef) → Below p qs → sum_by (is_path p) qs ≡ 0 → Before p qs
before_all p [] below none = tt
before_all p (q ∷ qs) below none =
    let here : is_path p q ≡ 0 = omega (arith, sum_by-cons (is_path p) q qs) in
    let T : Bool → Type 0 = λ b. is_eq (path_cmp p q) ≡ b → cond {A = ℕ} b 1 0 ≡ 0 → path_cmp p q ≡ Less in (
      (elim (is_eq (path_cmp p q)) as T [
        | true ↦ λ e z. absurd (omega arith)
        | false ↦ λ e z. less_from (path_cmp p q) below.0 e
      ]) refl here,
      before_all p qs below.1 (omega (arith, sum_by-cons (is_path p) q qs)),
    )

pub rises : (ps : List PathRef) → Ascends ps → ((p : PathRef) → sum_by (is_path p) ps ≤ 1) → Rises ps
rises [] up one = tt
rises (p ∷ ps) up one = (
  before_all p ps up.0 (omega (arith, one p, sum_by-cons (is_path p) p ps, is_path_itself p)),
  rises ps up.1 (λ q. omega (arith, one q, sum_by-cons (is_path q) p ps)),
)

pub adjacent : (ps : List PathRef) → Rises ps → AllAdjacentBelow (λ p q. path_cmp p q ≡ Less) ps (length ps)
adjacent [] up k d high = absurd (omega arith)
adjacent (p ∷ []) up k d high = absurd (omega arith)
adjacent (p ∷ q ∷ qs) up zero d high = up.0.0
adjacent (p ∷ q ∷ qs) up (suc k) d high =
    let n : suc k + 1 ≡ suc (k + 1) = omega arith in
    rw n (adjacent (q ∷ qs) up.1 k d (omega arith))

before_after : (p q : PathRef) (qs : List PathRef) → path_cmp p q ≡ Less → Before q qs → Before p qs
before_after p q [] e before = tt
before_after p q (r ∷ rs) e before = (path_total.trans p q r e before.0, before_after p q rs e before.1)

pub rises_from : (ps : List PathRef) → AllAdjacentBelow (λ p q. path_cmp p q ≡ Less) ps (length ps) → Rises ps
rises_from [] up = tt
rises_from (p ∷ []) up = (tt, tt)
rises_from (p ∷ q ∷ qs) up =
    let later = rises_from (q ∷ qs) (λ k d high. let n : suc k + 1 ≡ suc (k + 1) = omega arith in rw n at (up (suc k) d (omega arith))) in
    let first : path_cmp p q ≡ Less = up 0 p (omega arith) in
    ((first, before_after p q qs first later.0), later)

below_from_before : (p : PathRef) (qs : List PathRef) → Before p qs → Below p qs
below_from_before p [] before = tt
below_from_before p (q ∷ qs) before = (ap is_gt before.0, below_from_before p qs before.1)

-- a path counts in a list that contains it
pub in_list : (ps : List PathRef) (p : PathRef) → Contains ps p → 0 < sum_by (is_path p) ps
in_list ps p has = omega (arith, counted (is_path p) ps p has, is_path_itself p)

pub is_path_same : (p q : PathRef) → 0 < is_path p q → p ≡ q
is_path_same p q some =
    let T : Bool → Type 0 = λ b. is_eq (path_cmp p q) ≡ b → 0 < cond b 1 0 → p ≡ q in
    (elim (is_eq (path_cmp p q)) as T [
      | true ↦ λ e s. path_tie p q (equal_from_is_eq (path_cmp p q) e)
      | false ↦ λ e s. absurd (omega arith)
    ]) refl some

pub contained : (ps : List PathRef) (p : PathRef) → 0 < sum_by (is_path p) ps → Contains ps p
contained ps p some =
    let one = counts (is_path p) ps some in
    subst (Contains ps) (sym (is_path_same p one.0 one.1.1)) one.1.0

before_in : (p : PathRef) (ps : List PathRef) (q : PathRef) → Before p ps → 0 < sum_by (is_path q) ps → path_cmp p q ≡ Less
before_in p [] q before some = absurd (omega arith)
before_in p (r ∷ rs) q before some =
    let T : ℕ → Type 0 = λ n. is_path q r ≡ n → path_cmp p q ≡ Less in
    (elim (is_path q r) as T [
      | zero ↦ λ e. before_in p rs q before.1 (omega (arith, sum_by-cons (is_path q) r rs))
      | suc n ↦ λ e. subst (λ z. path_cmp p z ≡ Less) (sym (is_path_same q r (omega arith))) before.0
    ]) refl

-- what stands in a rising list behind its first path stands behind the first path of another list with the same paths
behind : (p q : PathRef) (ps qs : List PathRef) (z : PathRef) → p ≡ q → Before p ps → ((y : PathRef) → 0 < sum_by (is_path y) (p ∷ ps) → 0 < sum_by (is_path y) (q ∷ qs)) → 0 < sum_by (is_path z) ps → 0 < sum_by (is_path z) qs
behind p q ps qs z same before moves some =
    let there = moves z (omega (arith, sum_by-cons (is_path z) p ps)) in
    let T : ℕ → Type 0 = λ n. is_path z q ≡ n → 0 < sum_by (is_path z) qs in
    (elim (is_path z q) as T [
      | zero ↦ λ e. omega (arith, sum_by-cons (is_path z) q qs)
      | suc n ↦ λ e. absurd (
          let is-first : z ≡ p = is_path_same z q (omega arith) ∙ sym same in
          let less : path_cmp p p ≡ Less = subst (λ y. path_cmp p y ≡ Less) is-first (before_in p ps z before some) in
          let tied = tied_itself path_total p in
          cc)
    ]) refl

pub same_rising : (ps qs : List PathRef) → Rises ps → Rises qs → ((p : PathRef) → 0 < sum_by (is_path p) ps → 0 < sum_by (is_path p) qs) → ((p : PathRef) → 0 < sum_by (is_path p) qs → 0 < sum_by (is_path p) ps) → ps ≡ qs
same_rising [] [] up up' to-qs to-ps = refl
same_rising [] (q ∷ qs) up up' to-qs to-ps = absurd (omega (arith, to-ps q (omega (arith, sum_by-cons (is_path q) q qs, is_path_itself q))))
same_rising (p ∷ ps) [] up up' to-qs to-ps = absurd (omega (arith, to-qs p (omega (arith, sum_by-cons (is_path p) p ps, is_path_itself p))))
same_rising (p ∷ ps) (q ∷ qs) up up' to-qs to-ps =
    let qp = first_of q p qs (below_from_before q qs up'.0) (to-qs p (omega (arith, sum_by-cons (is_path p) p ps, is_path_itself p))) in
    let pq = first_of p q ps (below_from_before p ps up.0) (to-ps q (omega (arith, sum_by-cons (is_path q) q qs, is_path_itself q))) in
    let same = same_from_at_most p q pq qp in
    let rest = same_rising ps qs up.1 up'.1 (λ z. behind p q ps qs z same up.0 to-qs) (λ z. behind q p qs ps z (sym same) up'.0 to-ps) in
    λ i. same i ∷ rest i
