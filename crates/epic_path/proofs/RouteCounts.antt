-- Sums over the short lists of the segments: a list of the segments counts in them, and has a name of its own.
use Rattle.std.proofs.Common.{◌≡◌, ℕ, zero, suc, ◌+◌, ◌<◌, ◌≤◌, Bool, true, false, cond, List, [], ◌∷◌, length, map, All, Contains, refl, sym, ap, ◌∙◌, subst, arith}
use Rattle.std.specs.Prelude.{◌==◌, nat_eq, sum_by, filter, flat_map}
use Rattle.std.specs.Ordering.{is_eq}
use Rattle.std.specs.List.{AllByRecursion, IsDistinct}
use Rattle.std.proofs.lemmas.Bool.{eqb-true, eq-eqb}
use Rattle.std.proofs.lemmas.List.Elements.{All-nil, All-cons, All-head, All-tail}
use Rattle.std.proofs.lemmas.List.Sums.{sum_by-cons, get_or-le-sum_by, sum_by-le-sum_by}
use Rattle.epic_num.specs.declared.name.AsId.{AsId}
use Rattle.epic_num.specs.declared.path_ref.PathRef.{PathRef}
use Rattle.epic_num.specs.declared.segment.Segment.{Segment}
use Rattle.epic_path.specs.Routes.{all_lawful, leads, lists_up_to, last_issue, named, path_cmp}
use Rattle.epic_path.proofs.SumLaws.{sum_by_nothing, sum_by-filter, sum_by-map, sum_by-flat_map}
use Rattle.epic_path.proofs.OrderLaws.{path_tie, sum_by-in_order, is_path, equal_from_is_eq}

-- ---- an element counts in a sum, and a sum that is not 0 has one that does

module _ {X : Type 0} (f : X → ℕ) where
  pub counted : (xs : List X) (x : X) → Contains xs x → f x ≤ sum_by f xs
  counted xs x has = subst (λ y. f y ≤ sum_by f xs) has.2 (get_or-le-sum_by f xs has.0 x has.1)

  pub counts : (xs : List X) → 0 < sum_by f xs → (x : X) × (Contains xs x × (0 < f x))
  counts [] some = absurd (omega arith)
  counts (x ∷ xs) some =
      let T : ℕ → Type 0 = λ n. f x ≡ n → (y : X) × (Contains (x ∷ xs) y × (0 < f y)) in
      (elim (f x) as T [
        | zero ↦ λ e. let later = counts xs (omega (arith, sum_by-cons f x xs)) in (later.0, ((suc later.1.0.0, omega (arith, later.1.0.1), later.1.0.2), later.1.1))
        | suc n ↦ λ e. (x, ((0, omega arith, refl), omega arith))
      ]) refl

-- ---- lists of the segments among the short lists

pub route_counts : (n : ℕ) (segments : List Segment) (w : List Segment → ℕ) (r : List Segment) → All (Contains segments) r → length r ≤ n → w r ≤ sum_by w (lists_up_to n segments)
unfolding lists_up_to
route_counts zero segments w [] over short = omega arith
route_counts zero segments w (s ∷ r) over short = absurd (omega arith)
route_counts (suc n) segments w [] over short = omega (arith, sum_by-cons w [] (flat_map (λ s. map (λ r. s ∷ r) (lists_up_to n segments)) segments))
route_counts (suc n) segments w (s ∷ r) over short =
    let with_first : Segment → ℕ = λ t. sum_by w (map (λ q. t ∷ q) (lists_up_to n segments)) in
    let rest = route_counts n segments (λ q. w (s ∷ q)) r (All-tail (Contains segments) s r over) (omega arith) in
    let one = counted with_first segments s (All-head (Contains segments) s r over) in
    omega (arith, sum_by-cons w [] (flat_map (λ t. map (λ q. t ∷ q) (lists_up_to n segments)) segments), sum_by-flat_map w (λ t. map (λ q. t ∷ q) (lists_up_to n segments)) segments, sum_by-map w (λ q. s ∷ q) (lists_up_to n segments))

pub record Counting (segments : List Segment) (w : List Segment → ℕ) : Type 0 where
  pub route : List Segment
  pub over : All (Contains segments) route
  pub some : 0 < w route

pub route_counting : (n : ℕ) (segments : List Segment) (w : List Segment → ℕ) → 0 < sum_by w (lists_up_to n segments) → Counting segments w
unfolding lists_up_to
route_counting zero segments w some = record { route = []; over = All-nil (Contains segments); some = omega arith }
route_counting (suc n) segments w some =
    let with_first : Segment → ℕ = λ t. sum_by w (map (λ q. t ∷ q) (lists_up_to n segments)) in
    let T : ℕ → Type 0 = λ m. w [] ≡ m → Counting segments w in
    (elim (w []) as T [
      | zero ↦ λ e.
          let first = counts with_first segments (omega (arith, sum_by-cons w [] (flat_map (λ t. map (λ q. t ∷ q) (lists_up_to n segments)) segments), sum_by-flat_map w (λ t. map (λ q. t ∷ q) (lists_up_to n segments)) segments)) in
          let rest = route_counting n segments (λ q. w (first.0 ∷ q)) (omega (arith, first.1.1, sum_by-map w (λ q. first.0 ∷ q) (lists_up_to n segments))) in
          record { route = first.0 ∷ rest.route; over = All-cons (Contains segments) first.0 rest.route first.1.0 rest.over; some = rest.some }
      | suc m ↦ λ e. record { route = []; over = All-nil (Contains segments); some = omega arith }
    ]) refl

-- ---- no two lists of the segments have one name

unfoldable matches : List ℕ → List Segment → ℕ
matches [] [] = 1
matches [] (s ∷ r) = 0
matches (i ∷ is) [] = 0
matches (i ∷ is) (s ∷ r) = cond (last_issue s == i) (matches is r) 0

matches_itself : (r : List Segment) → matches (map last_issue r) r ≡ 1
unfolding matches
matches_itself [] = refl
matches_itself (s ∷ r) = rw (eq-eqb (last_issue s) (last_issue s) refl) (matches_itself r)

name_matches : (p : PathRef) (r : List Segment) → is_path p (named r) ≤ matches p.issues.items r
unfolding named
name_matches p r =
    let T : Bool → Type 0 = λ b. is_eq (path_cmp p (named r)) ≡ b → cond b 1 0 ≤ matches p.issues.items r in
    (elim (is_eq (path_cmp p (named r))) as T [
      | true ↦ λ e.
          let same : p ≡ named r = path_tie p (named r) (equal_from_is_eq (path_cmp p (named r)) e) in
          let one : matches p.issues.items r ≡ 1 = ap (λ (q : PathRef). matches q.issues.items r) same ∙ matches_itself r in
          omega arith
      | false ↦ λ e. omega arith
    ]) refl

no_more : (i : ℕ) (s : Segment) (rest : List Segment) → last_issue s ≡ i → AllByRecursion (λ j. nat_eq (last_issue s) j ≡ false) (map last_issue rest) → sum_by (λ t. cond (last_issue t == i) 1 0) rest ≡ 0
no_more i s [] e apart = refl
no_more i s (t ∷ rest) e apart =
    let T : Bool → Type 0 = λ b. (last_issue t == i) ≡ b → cond {A = ℕ} b 1 0 ≡ 0 in
    let one : cond {A = ℕ} (last_issue t == i) 1 0 ≡ 0 = (elim (last_issue t == i) as T [
      | true ↦ λ here. absurd (let same = eqb-true (last_issue t) i here in let there = eq-eqb (last_issue s) (last_issue t) (e ∙ sym same) in cc (apart.0))
      | false ↦ λ there. refl
    ]) refl in
    omega (arith, sum_by-cons (λ t. cond (last_issue t == i) 1 0) t rest, no_more i s rest e apart.1)

one_issue : (i : ℕ) (segments : List Segment) → IsDistinct nat_eq (map last_issue segments) → sum_by (λ s. cond (last_issue s == i) 1 0) segments ≤ 1
unfolding IsDistinct
one_issue i [] distinct = omega arith
one_issue i (s ∷ rest) distinct =
    let T : Bool → Type 0 = λ b. (last_issue s == i) ≡ b → cond b 1 0 + sum_by (λ t. cond (last_issue t == i) 1 0) rest ≤ 1 in
    let both : cond (last_issue s == i) 1 0 + sum_by (λ t. cond (last_issue t == i) 1 0) rest ≤ 1 = (elim (last_issue s == i) as T [
      | true ↦ λ e. omega (arith, no_more i s rest (eqb-true (last_issue s) i e) distinct.0)
      | false ↦ λ e. omega (arith, one_issue i rest distinct.1)
    ]) refl in
    omega (arith, sum_by-cons (λ t. cond (last_issue t == i) 1 0) s rest)

one_match : (n : ℕ) (segments : List Segment) (is : List ℕ) → IsDistinct nat_eq (map last_issue segments) → sum_by (matches is) (lists_up_to n segments) ≤ 1
unfolding lists_up_to matches
one_match zero segments [] distinct = omega arith
one_match zero segments (i ∷ is) distinct = omega arith
one_match (suc n) segments [] distinct =
    let none = sum_by_nothing (λ s. sum_by (matches []) (map (λ r. s ∷ r) (lists_up_to n segments)))
    (λ s. sum_by-map (matches []) (λ r. s ∷ r) (lists_up_to n segments) ∙ sum_by_nothing (λ r. matches [] (s ∷ r)) (λ r. refl) (lists_up_to n segments)) segments in
    omega (arith, sum_by-cons (matches []) [] (flat_map (λ s. map (λ r. s ∷ r) (lists_up_to n segments)) segments), sum_by-flat_map (matches []) (λ s. map (λ r. s ∷ r) (lists_up_to n segments)) segments, none)
one_match (suc n) segments (i ∷ is) distinct =
    let with_first : Segment → ℕ = λ s. sum_by (matches (i ∷ is)) (map (λ r. s ∷ r) (lists_up_to n segments)) in
    let each : (s : Segment) → with_first s ≤ cond (last_issue s == i) 1 0 = λ s.
    let T : Bool → Type 0 = λ b. sum_by (λ r. cond b (matches is r) 0) (lists_up_to n segments) ≤ cond b 1 0 in
    let split : sum_by (λ r. cond (last_issue s == i) (matches is r) 0) (lists_up_to n segments) ≤ cond (last_issue s == i) 1 0 = elim (last_issue s == i) as T [
      | true ↦ one_match n segments is distinct
      | false ↦ omega (arith, sum_by_nothing (λ (r : List Segment). 0) (λ r. refl) (lists_up_to n segments))
    ] in
    omega (arith, sum_by-map (matches (i ∷ is)) (λ r. s ∷ r) (lists_up_to n segments)) in
    omega (
      arith,
      sum_by-cons (matches (i ∷ is)) [] (flat_map (λ s. map (λ r. s ∷ r) (lists_up_to n segments)) segments),
      sum_by-flat_map (matches (i ∷ is)) (λ s. map (λ r. s ∷ r) (lists_up_to n segments)) segments,
      sum_by-le-sum_by with_first (λ s. cond (last_issue s == i) 1 0) segments each,
      one_issue i segments distinct,
    )

-- each path stands in the list at most once
pub once : (segments : List Segment) (from to : AsId) (p : PathRef) → IsDistinct nat_eq (map last_issue segments) → sum_by (is_path p) (all_lawful segments from to) ≤ 1
unfolding all_lawful
once segments from to p distinct =
    let routes = filter (leads from to) (lists_up_to 3 segments) in
    let kept : List Segment → ℕ = λ r. cond (leads from to r) (is_path p (named r)) 0 in
    let each : (r : List Segment) → kept r ≤ matches p.issues.items r = λ r.
    let T : Bool → Type 0 = λ b. cond b (is_path p (named r)) 0 ≤ matches p.issues.items r in
    elim (leads from to r) as T [ true ↦ name_matches p r | false ↦ omega arith ] in
    omega (
      arith,
      sum_by-in_order (is_path p) (map named routes),
      sum_by-map (is_path p) named routes,
      sum_by-filter (λ r. is_path p (named r)) (leads from to) (lists_up_to 3 segments),
      sum_by-le-sum_by kept (matches p.issues.items) (lists_up_to 3 segments) each,
      one_match 3 segments p.issues.items distinct,
    )
