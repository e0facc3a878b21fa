-- The list of all lawful paths is every path, and every list that is every path is this one.
use Rattle.std.proofs.Common.{◌≡◌, ℕ, ◌<◌, ◌≤◌, Bool, true, false, cond, List, [], ◌∷◌, length, map, get_or, Err, All, Contains, refl, sym, ◌∙◌, subst, arith}
use Rattle.std.specs.Prelude.{not, ◌&&◌, nat_eq, sum_by, filter}
use Rattle.std.specs.List.{IsDistinct}
use Rattle.std.proofs.lemmas.Bool.{and_parts}
use Rattle.std.proofs.lemmas.List.Elements.{All-contains, Contains-get_or}
use Rattle.epic_num.specs.declared.name.AsId.{AsId}
use Rattle.epic_num.specs.declared.path_ref.PathRef.{PathRef}
use Rattle.epic_num.specs.declared.segment.Segment.{Segment}
use Rattle.epic_num.specs.Same.{same_as}
use Rattle.epic_num.specs.declared.path_error.PathError.TheVariants.{TooLong}
use Rattle.epic_path.specs.Joins.{are_short, joined, of_lawful_kinds, walk}
use Rattle.epic_path.specs.Routes.{all_lawful, ends_at, leads, lists_up_to, last_issue, named, IsPathOf, IsEveryPath}
use Rattle.epic_path.proofs.SumLaws.{sum_by-filter, sum_by-map}
use Rattle.epic_path.proofs.OrderLaws.{ascends_in_order, sum_by-in_order, is_path, is_path_itself}
use Rattle.epic_path.proofs.WalkLaws.{short_parts}
use Rattle.epic_path.proofs.RouteCounts.{route_counts, route_counting, once}
use Rattle.epic_path.proofs.RisingLists.{rises, rises_from, adjacent, in_list, contained, is_path_same, same_rising}

leads_short : (from to : AsId) (r : List Segment) → leads from to r ≡ true → length r ≤ 3
unfolding leads joined ends_at
leads_short from to [] e = omega arith
leads_short from to (s ∷ r) e =
    let T : Bool → Type 0 = λ b. are_short (s ∷ r) ≡ b → (not (same_as from to) && ends_at to (cond b (of_lawful_kinds (walk from 0 (s ∷ r))) (Err TooLong))) ≡ true → length (s ∷ r) ≤ 3 in
    (elim (are_short (s ∷ r)) as T [
      | true ↦ λ short h. (short_parts (s ∷ r) short).0
      | false ↦ λ long h. absurd (let none = (and_parts (not (same_as from to)) false h).1 in cc)
    ]) refl e

-- the sum over the list of all lawful paths, by the routes that lead
count_all : (segments : List Segment) (from to : AsId) (p : PathRef) → sum_by (is_path p) (all_lawful segments from to) ≡ sum_by (λ r. cond (leads from to r) (is_path p (named r)) 0) (lists_up_to 3 segments)
unfolding all_lawful
count_all segments from to p =
    let routes = filter (leads from to) (lists_up_to 3 segments) in
    sum_by-in_order (is_path p) (map named routes) ∙ sum_by-map (is_path p) named routes ∙ sum_by-filter (λ r. is_path p (named r)) (leads from to) (lists_up_to 3 segments)

stands : (segments : List Segment) (from to : AsId) (route : List Segment) → All (Contains segments) route → leads from to route ≡ true → Contains (all_lawful segments from to) (named route)
stands segments from to route over goes =
    let kept : List Segment → ℕ = λ r. cond (leads from to r) (is_path (named route) (named r)) 0 in
    let one : kept route ≡ 1 = rw goes (is_path_itself (named route)) in
    contained (all_lawful segments from to) (named route)
    (omega (arith, count_all segments from to (named route), route_counts 3 segments kept route over (leads_short from to route goes)))

is_of : (segments : List Segment) (from to : AsId) (p : PathRef) → Contains (all_lawful segments from to) p → IsPathOf segments from to p
is_of segments from to p has =
    let kept : List Segment → ℕ = λ r. cond (leads from to r) (is_path p (named r)) 0 in
    let found = route_counting 3 segments kept (omega (arith, count_all segments from to p, in_list (all_lawful segments from to) p has)) in
    let T : Bool → Type 0 = λ b. leads from to found.route ≡ b → 0 < cond b (is_path p (named found.route)) 0 → IsPathOf segments from to p in
    (elim (leads from to found.route) as T [
      | true ↦ λ goes some. record { route = found.route; over = found.over; goes = goes; name = sym (is_path_same p (named found.route) some) }
      | false ↦ λ e some. absurd (omega arith)
    ]) refl found.some

pub all_lawful_is_every : (segments : List Segment) (from to : AsId) → IsDistinct nat_eq (map last_issue segments) → IsEveryPath segments from to (all_lawful segments from to)
unfolding all_lawful
all_lawful_is_every segments from to distinct = record {
  every = stands segments from to;
  no_other = λ k d h. is_of segments from to (get_or (all_lawful segments from to) k d) (Contains-get_or (all_lawful segments from to) k d h);
  ordered = adjacent (all_lawful segments from to) (rises (all_lawful segments from to) (ascends_in_order (map named (filter (leads from to) (lists_up_to 3 segments)))) (λ p. once segments from to p distinct));
}

passes_over : (segments : List Segment) (from to : AsId) (ps qs : List PathRef) → IsEveryPath segments from to ps → IsEveryPath segments from to qs → (p : PathRef) → 0 < sum_by (is_path p) ps → 0 < sum_by (is_path p) qs
passes_over segments from to ps qs every every' p some =
    let of = All-contains (IsPathOf segments from to) ps p every.no_other (contained ps p some) in
    in_list qs p (subst (Contains qs) of.name (every'.every of.route of.over of.goes))

pub every_path_is_one : (segments : List Segment) (from to : AsId) (ps qs : List PathRef) → IsEveryPath segments from to ps → IsEveryPath segments from to qs → ps ≡ qs
every_path_is_one segments from to ps qs every every' =
    same_rising ps qs (rises_from ps every.ordered) (rises_from qs every'.ordered)
    (passes_over segments from to ps qs every every') (passes_over segments from to qs ps every' every)
