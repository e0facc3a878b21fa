-- What the search finds is worth what all routes that lead are worth.
use Rattle.std.proofs.Common.{◌≡◌, ℕ, zero, suc, ◌+◌, ◌≤◌, Bool, true, false, cond, ◌&&◌, List, [], ◌∷◌, ◌++◌, length, map, Option, Some, None, refl, sym, ap, ◌∙◌, subst, arith}
use Rattle.std.specs.Prelude.{nat_lt, nat_le, sum_by, filter, filter_map, flat_map, option_and_then}
use Rattle.std.specs.Option.{option_map_or}
use Rattle.std.proofs.lemmas.Bool.{leb-false, lt-leb}
use Rattle.std.proofs.lemmas.List.Sums.{sum_by-cons, sum_by-append}
use Rattle.epic_num.specs.declared.name.AsId.{AsId}
use Rattle.epic_num.specs.declared.path_ref.PathRef.{PathRef}
use Rattle.epic_num.specs.declared.segment.Leg.{Leg}
use Rattle.epic_num.specs.declared.segment.Segment.{Segment}
use Rattle.epic_num.specs.Same.{same_as}
use Rattle.epic_num.specs.Paths.{LegKind, UpLeg, CoreLeg, DownLeg, kind_of, end_of}
use Rattle.epic_path.specs.declared.links.Link.{Link}
use Rattle.epic_path.specs.Joins.{leg_from}
use Rattle.epic_path.specs.Routes.{leads, lists_up_to, named}
use Rattle.epic_path.specs.Search.{is_up, is_core, is_down, link_to, link_from, up_links, core_links, last_links, no_path, extended, onward, paths_ended, paths_down, paths_over_core, paths_from}
use Rattle.epic_path.proofs.SumLaws.{sum_by_one, sum_by_agree, sum_by_nothing, sum_by_plus, sum_by-filter, sum_by-map, sum_by-flat_map, sum_by-filter_map}
use Rattle.epic_path.proofs.WalkLaws.{leg_from_is}
use Rattle.epic_path.proofs.Worth.{rank, kind_over, grown, ending, worth, route_worth}

abbrev grown_by : PathRef → Link → PathRef
grown_by p l = record { issues = record { items = p.issues.items ++ l.issue ∷ [] }; hops = p.hops + l.hops }

module _ (f : PathRef → ℕ) (to : AsId) (segments : List Segment) where
  abbrev total : ℕ → ℕ → PathRef → AsId → ℕ
  total n k p at = sum_by (worth f to k p at) (lists_up_to n segments)

  abbrev over_leg : ℕ → ℕ → PathRef → Segment → Leg → ℕ
  over_leg n k p s leg = cond (nat_lt k (rank (kind_over leg))) (total n (rank (kind_over leg)) (grown p s) (end_of leg)) 0

  by_leg : (n k : ℕ) (p : PathRef) (at : AsId) (s : Segment) → sum_by (worth f to k p at) (map (λ r. s ∷ r) (lists_up_to n segments)) ≡ option_map_or (over_leg n k p s) (leg_from at s) 0
  unfolding worth
  by_leg n k p at s =
      let each : Leg → List Segment → ℕ = λ leg r. worth f to (rank (kind_over leg)) (grown p s) (end_of leg) r in
      let T : Option Leg → Type 0 = λ o. sum_by (λ r. option_map_or (λ leg. cond (nat_lt k (rank (kind_over leg))) (each leg r) 0) o 0) (lists_up_to n segments) ≡ option_map_or (over_leg n k p s) o 0 in
      let B : Leg → Bool → Type 0 = λ leg b. sum_by (λ r. cond b (each leg r) 0) (lists_up_to n segments) ≡ cond b (sum_by (each leg) (lists_up_to n segments)) 0 in
      sum_by-map (worth f to k p at) (λ r. s ∷ r) (lists_up_to n segments)
      ∙ (elim (leg_from at s) as T [
        | None ↦ sum_by_nothing (λ r. 0) (λ r. refl) (lists_up_to n segments)
        | Some leg ↦ elim (nat_lt k (rank (kind_over leg))) as (B leg) [
          | true ↦ refl
          | false ↦ sum_by_nothing (λ r. 0) (λ r. refl) (lists_up_to n segments)
        ]
      ])

  total_none : (k : ℕ) (p : PathRef) (at : AsId) → total 0 k p at ≡ ending f to p at
  unfolding worth lists_up_to
  total_none k p at = omega arith

  total_more : (n k : ℕ) (p : PathRef) (at : AsId) → total (suc n) k p at ≡ ending f to p at + sum_by (λ s. option_map_or (over_leg n k p s) (leg_from at s) 0) segments
  unfolding worth lists_up_to
  total_more n k p at =
      sum_by-cons (worth f to k p at) [] (flat_map (λ s. map (λ r. s ∷ r) (lists_up_to n segments)) segments)
      ∙ ap (λ m. ending f to p at + m) (sum_by-flat_map (worth f to k p at) (λ s. map (λ r. s ∷ r) (lists_up_to n segments)) segments ∙ sum_by_agree _ _ (λ s. by_leg n k p at s) segments)

  -- ---- legs by their kinds

  abbrev by_link : ℕ → ℕ → PathRef → Link → ℕ
  by_link n k p l = total n k (grown_by p l) l.end

  split : (n k : ℕ) (p : PathRef) (at : AsId) (s : Segment) (part : ((LegKind → Bool) → Option Link) → ℕ) → part (λ is. None) ≡ 0 → ((kind : LegKind) (l : Link) → cond (nat_lt k (rank kind)) (by_link n (rank kind) p l) 0 ≡ part (λ is. cond (is kind) (Some l) None)) → option_map_or (over_leg n k p s) (leg_from at s) 0 ≡ part (λ is. link_from is at s)
  unfolding link_from link_to
  split n k p at s part nothing each =
      let T : Option Leg → Type 0 = λ o. leg_from at s ≡ o → option_map_or (over_leg n k p s) o 0
      ≡ part (λ is. option_and_then (λ (leg : Leg). cond (is (kind_of leg.segment.kind leg.against)) (Some (link_to (end_of leg) leg.segment)) None) o) in
      (elim (leg_from at s) as T [
        | None ↦ λ e. sym nothing
        | Some leg ↦ λ e. subst (λ t. over_leg n k p t leg ≡ part (λ is. cond (is (kind_of leg.segment.kind leg.against)) (Some (link_to (end_of leg) leg.segment)) None)) ((leg_from_is at s leg e).over) (each (kind_over leg) (link_to (end_of leg) leg.segment))
      ]) refl

  abbrev on : (Link → ℕ) → Option Link → ℕ
  on h o = option_map_or h o 0

  last_kinds : (n : ℕ) (p : PathRef) (kind : LegKind) (l : Link) → cond (nat_lt 3 (rank kind)) (by_link n (rank kind) p l) 0 ≡ 0
  unfolding rank
  last_kinds n p UpLeg l = refl
  last_kinds n p CoreLeg l = refl
  last_kinds n p DownLeg l = refl

  core_kinds : (n : ℕ) (p : PathRef) (kind : LegKind) (l : Link) → cond (nat_lt 2 (rank kind)) (by_link n (rank kind) p l) 0 ≡ on (by_link n 3 p) (cond (is_down kind) (Some l) None)
  unfolding rank is_down
  core_kinds n p UpLeg l = refl
  core_kinds n p CoreLeg l = refl
  core_kinds n p DownLeg l = refl

  up_kinds : (n : ℕ) (p : PathRef) (kind : LegKind) (l : Link) → cond (nat_lt 1 (rank kind)) (by_link n (rank kind) p l) 0 ≡ on (by_link n 2 p) (cond (is_core kind) (Some l) None) + on (by_link n 3 p) (cond (is_down kind) (Some l) None)
  unfolding rank is_core is_down
  up_kinds n p UpLeg l = refl
  up_kinds n p CoreLeg l = omega arith
  up_kinds n p DownLeg l = omega arith

  first_kinds : (n : ℕ) (p : PathRef) (kind : LegKind) (l : Link) → cond (nat_lt 0 (rank kind)) (by_link n (rank kind) p l) 0
      ≡ on (by_link n 1 p) (cond (is_up kind) (Some l) None) + (on (by_link n 2 p) (cond (is_core kind) (Some l) None) + on (by_link n 3 p) (cond (is_down kind) (Some l) None))
  unfolding rank is_up is_core is_down
  first_kinds n p UpLeg l = omega arith
  first_kinds n p CoreLeg l = omega arith
  first_kinds n p DownLeg l = omega arith

  -- ---- down from an AS, then over core links, then from the start

  total_down : (n : ℕ) (p : PathRef) (at : AsId) → total n 3 p at ≡ ending f to p at
  total_down zero p at = total_none 3 p at
  total_down (suc n) p at =
      let none = sum_by_nothing (λ s. option_map_or (over_leg n 3 p s) (leg_from at s) 0) (λ s. split n 3 p at s (λ g. 0) refl (last_kinds n p)) segments in
      omega (arith, total_more n 3 p at, none)

  -- the worth of the links down from an AS, and of those over core links
  abbrev downs : PathRef → AsId → ℕ
  downs p at = sum_by (λ s. on (λ l. ending f to (grown_by p l) l.end) (link_from is_down at s)) segments

  abbrev cores : ℕ → PathRef → AsId → ℕ
  cores n p at = sum_by (λ s. on (by_link n 2 p) (link_from is_core at s)) segments

  abbrev ups : ℕ → PathRef → AsId → ℕ
  ups n p at = sum_by (λ s. on (by_link n 1 p) (link_from is_up at s)) segments

  each_down : (n : ℕ) (p : PathRef) (o : Option Link) → on (by_link n 3 p) o ≡ on (λ l. ending f to (grown_by p l) l.end) o
  each_down n p None = refl
  each_down n p (Some l) = total_down n (grown_by p l) l.end

  total_core : (n : ℕ) (p : PathRef) (at : AsId) → total (suc n) 2 p at ≡ ending f to p at + downs p at
  total_core n p at =
      total_more n 2 p at
      ∙ ap (λ m. ending f to p at + m) (sum_by_agree _ _ (λ s. split n 2 p at s (λ g. on (by_link n 3 p) (g is_down)) refl (core_kinds n p) ∙ each_down n p (link_from is_down at s)) segments)

  total_up : (n : ℕ) (p : PathRef) (at : AsId) → total (suc n) 1 p at ≡ ending f to p at + (cores n p at + downs p at)
  total_up n p at =
      total_more n 1 p at
      ∙ ap (λ m. ending f to p at + m) (sum_by_agree _ _ (λ s. split n 1 p at s (λ g. on (by_link n 2 p) (g is_core) + on (by_link n 3 p) (g is_down)) refl (up_kinds n p)
      ∙ ap (λ m. on (by_link n 2 p) (link_from is_core at s) + m) (each_down n p (link_from is_down at s))) segments
      ∙ sum_by_plus _ _ segments)

  total_first : (n : ℕ) (p : PathRef) (at : AsId) → total (suc n) 0 p at ≡ ending f to p at + (ups n p at + (cores n p at + downs p at))
  total_first n p at =
      total_more n 0 p at
      ∙ ap (λ m. ending f to p at + m) (sum_by_agree _ _ (λ s. split n 0 p at s (λ g. on (by_link n 1 p) (g is_up) + (on (by_link n 2 p) (g is_core) + on (by_link n 3 p) (g is_down))) refl (first_kinds n p)
      ∙ ap (λ m. on (by_link n 1 p) (link_from is_up at s) + (on (by_link n 2 p) (link_from is_core at s) + m)) (each_down n p (link_from is_down at s))) segments
      ∙ sum_by_plus _ _ segments
      ∙ ap (λ m. ups n p at + m) (sum_by_plus _ _ segments))

  -- ---- a path that is too long is worth nothing, however it goes on

  worthless : (k : ℕ) (p : PathRef) (at : AsId) (r : List Segment) → nat_le p.hops 32 ≡ false → worth f to k p at r ≡ 0
  unfolding worth ending
  worthless k p at [] long = rw long refl
  worthless k p at (s ∷ r) long =
      let longer : nat_le (p.hops + length s.hops.items) 32 ≡ false = lt-leb (p.hops + length s.hops.items) 32 (let far = leb-false p.hops 32 long in omega arith) in
      let T : Option Leg → Type 0 = λ o. option_map_or (λ leg. cond (nat_lt k (rank (kind_over leg))) (worth f to (rank (kind_over leg)) (grown p s) (end_of leg) r) 0) o 0 ≡ 0 in
      let B : Leg → Bool → Type 0 = λ leg b. cond b (worth f to (rank (kind_over leg)) (grown p s) (end_of leg) r) 0 ≡ 0 in
      elim (leg_from at s) as T [
        | None ↦ refl
        | Some leg ↦ elim (nat_lt k (rank (kind_over leg))) as (B leg) [
          | true ↦ worthless (rank (kind_over leg)) (grown p s) (end_of leg) r longer
          | false ↦ refl
        ]
      ]

  by_extension : (n k : ℕ) (p : PathRef) (l : Link) → by_link n k p l ≡ option_map_or (λ q. total n k q l.end) (extended p l) 0
  unfolding extended
  by_extension n k p l =
      let T : Bool → Type 0 = λ b. nat_le (p.hops + l.hops) 32 ≡ b → by_link n k p l ≡ option_map_or (λ q. total n k q l.end) (cond b (Some (grown_by p l)) None) 0 in
      (elim (nat_le (p.hops + l.hops) 32) as T [
        | true ↦ λ e. refl
        | false ↦ λ e. sum_by_nothing (worth f to k (grown_by p l) l.end) (λ r. worthless k (grown_by p l) l.end r e) (lists_up_to n segments)
      ]) refl

  onward_sum : (rest : PathRef → AsId → List PathRef) (p : PathRef) (l : Link) → sum_by f (onward rest p l) ≡ option_map_or (λ q. sum_by f (rest q l.end)) (extended p l) 0
  unfolding onward
  onward_sum rest p l =
      let T : Option PathRef → Type 0 = λ o. sum_by f (option_map_or (λ q. rest q l.end) o []) ≡ option_map_or (λ q. sum_by f (rest q l.end)) o 0 in
      elim (extended p l) as T [ None ↦ refl | Some q ↦ refl ]

  -- what goes on from an extended path is worth the same, if it is worth the same of each path that is short enough
  onward_agree : (rest : PathRef → AsId → List PathRef) (n k : ℕ) → ((q : PathRef) (at : AsId) → nat_le q.hops 32 ≡ true → sum_by f (rest q at) ≡ total n k q at) → (p : PathRef) (l : Link) → sum_by f (onward rest p l) ≡ by_link n k p l
  unfolding extended
  onward_agree rest n k same p l =
      let T : Bool → Type 0 = λ b. nat_le (p.hops + l.hops) 32 ≡ b → option_map_or (λ q. sum_by f (rest q l.end)) (cond b (Some (grown_by p l)) None) 0 ≡ option_map_or (λ q. total n k q l.end) (cond b (Some (grown_by p l)) None) 0 in
      onward_sum rest p l
      ∙ (elim (nat_le (p.hops + l.hops) 32) as T [
        | true ↦ λ e. same (grown_by p l) l.end e
        | false ↦ λ e. refl
      ]) refl
      ∙ sym (by_extension n k p l)

  -- ---- what the search finds

  paths_ended_sum : (p : PathRef) (at : AsId) → nat_le p.hops 32 ≡ true → sum_by f (paths_ended to p at) ≡ ending f to p at
  unfolding paths_ended ending
  paths_ended_sum p at short =
      let T : Bool → Type 0 = λ b. sum_by f (cond b (p ∷ []) []) ≡ cond (true && b) (f p) 0 in
      rw short ((elim (same_as at to) as T [ true ↦ sum_by_one f p | false ↦ refl ]))

  last_sum : (p : PathRef) (o : Option Link) → option_map_or (λ l. cond (same_as l.end to) (sum_by f (onward (λ q end. q ∷ []) p l)) 0) o 0 ≡ on (λ l. ending f to (grown_by p l) l.end) o
  unfolding extended ending
  last_sum p None = refl
  last_sum p (Some l) =
      let one = onward_sum (λ q end. q ∷ []) p l in
      let T : Bool → Bool → Type 0 = λ a b. cond b (option_map_or (λ q. sum_by f (q ∷ [])) (cond a (Some (grown_by p l)) None) 0) 0 ≡ cond (a && b) (f (grown_by p l)) 0 in
      ap (λ m. cond (same_as l.end to) m 0) one
      ∙ (elim (nat_le (p.hops + l.hops) 32) as (λ a. T a (same_as l.end to)) [
        | true ↦ elim (same_as l.end to) as (T true) [ true ↦ sum_by_one f (grown_by p l) | false ↦ refl ]
        | false ↦ elim (same_as l.end to) as (T false) [ true ↦ refl | false ↦ refl ]
      ])

  paths_down_sum : (p : PathRef) (at : AsId) → nat_le p.hops 32 ≡ true → sum_by f (paths_down (last_links to segments) to p at) ≡ ending f to p at + downs p at
  unfolding paths_down last_links
  paths_down_sum p at short =
      let links = filter_map (link_from is_down at) segments in
      let over : sum_by f (flat_map (onward (λ q end. q ∷ []) p) (filter (λ l. same_as l.end to) links)) ≡ downs p at =
      sum_by-flat_map f (onward (λ q end. q ∷ []) p) (filter (λ l. same_as l.end to) links)
      ∙ sum_by-filter (λ l. sum_by f (onward (λ q end. q ∷ []) p l)) (λ l. same_as l.end to) links
      ∙ sum_by-filter_map (λ l. cond (same_as l.end to) (sum_by f (onward (λ q end. q ∷ []) p l)) 0) (link_from is_down at) segments
      ∙ sum_by_agree _ _ (λ s. last_sum p (link_from is_down at s)) segments in
      omega (arith, sum_by-append f (paths_ended to p at) (flat_map (onward (λ q end. q ∷ []) p) (filter (λ l. same_as l.end to) links)), paths_ended_sum p at short, over)

  paths_down_total : (n : ℕ) (p : PathRef) (at : AsId) → nat_le p.hops 32 ≡ true → sum_by f (paths_down (last_links to segments) to p at) ≡ total (suc n) 2 p at
  paths_down_total n p at short = paths_down_sum p at short ∙ sym (total_core n p at)

  paths_over_core_sum : (n : ℕ) (p : PathRef) (at : AsId) → nat_le p.hops 32 ≡ true → sum_by f (paths_over_core (core_links segments) (last_links to segments) to p at) ≡ ending f to p at + (cores (suc n) p at + downs p at)
  unfolding paths_over_core core_links
  paths_over_core_sum n p at short =
      let down = paths_down (last_links to segments) to in
      let links = filter_map (link_from is_core at) segments in
      let over : sum_by f (flat_map (onward down p) links) ≡ cores (suc n) p at =
      sum_by-flat_map f (onward down p) links
      ∙ sum_by_agree _ _ (λ l. onward_agree down (suc n) 2 (paths_down_total n) p l) links
      ∙ sum_by-filter_map (by_link (suc n) 2 p) (link_from is_core at) segments in
      omega (arith, sum_by-append f (down p at) (flat_map (onward down p) links), paths_down_sum p at short, over)

  paths_over_core_total : (n : ℕ) (p : PathRef) (at : AsId) → nat_le p.hops 32 ≡ true → sum_by f (paths_over_core (core_links segments) (last_links to segments) to p at) ≡ total (suc (suc n)) 1 p at
  paths_over_core_total n p at short = paths_over_core_sum n p at short ∙ sym (total_up (suc n) p at)

  paths_from_total : (from : AsId) → sum_by f (paths_from (up_links segments from) (core_links segments) (last_links to segments) from to) ≡ total 3 0 no_path from
  unfolding paths_from up_links no_path
  paths_from_total from =
      let further = paths_over_core (core_links segments) (last_links to segments) to in
      let links = filter_map (link_from is_up from) segments in
      let over : sum_by f (flat_map (onward further no_path) links) ≡ ups 2 no_path from =
      sum_by-flat_map f (onward further no_path) links
      ∙ sum_by_agree _ _ (λ l. onward_agree further 2 1 (paths_over_core_total 0) no_path l) links
      ∙ sum_by-filter_map (by_link 2 1 no_path) (link_from is_up from) segments in
      omega (arith, sum_by-append f (further no_path from) (flat_map (onward further no_path) links), paths_over_core_sum 1 no_path from refl, over, total_first 2 no_path from)

-- sums over short lists agree where short lists do
agree_short : (n : ℕ) (segments : List Segment) (f g : List Segment → ℕ) → ((r : List Segment) → length r ≤ n → f r ≡ g r) → sum_by f (lists_up_to n segments) ≡ sum_by g (lists_up_to n segments)
unfolding lists_up_to
agree_short zero segments f g e = omega (arith, e [] (omega arith))
agree_short (suc n) segments f g e =
    let rest = flat_map (λ s. map (λ r. s ∷ r) (lists_up_to n segments)) segments in
    let same : sum_by f rest ≡ sum_by g rest =
    sum_by-flat_map f (λ s. map (λ r. s ∷ r) (lists_up_to n segments)) segments
    ∙ sum_by_agree _ _ (λ s. sum_by-map f (λ r. s ∷ r) (lists_up_to n segments) ∙ agree_short n segments (λ r. f (s ∷ r)) (λ r. g (s ∷ r)) (λ r h. e (s ∷ r) (omega arith)) ∙ sym (sum_by-map g (λ r. s ∷ r) (lists_up_to n segments))) segments
    ∙ sym (sum_by-flat_map g (λ s. map (λ r. s ∷ r) (lists_up_to n segments)) segments) in
    omega (arith, sum_by-cons f [] rest, sum_by-cons g [] rest, e [] (omega arith), same)

-- the search finds the names of the routes that lead, each as often as there are such routes
pub search_sum : (segments : List Segment) (from to : AsId) → same_as from to ≡ false → (f : PathRef → ℕ) → sum_by f (paths_from (up_links segments from) (core_links segments) (last_links to segments) from to) ≡ sum_by f (map named (filter (leads from to) (lists_up_to 3 segments)))
search_sum segments from to apart f =
    paths_from_total f to segments from
    ∙ agree_short 3 segments _ _ (route_worth f from to apart)
    ∙ sym (sum_by-filter (λ r. f (named r)) (leads from to) (lists_up_to 3 segments))
    ∙ sym (sum_by-map f named (filter (leads from to) (lists_up_to 3 segments)))
