-- What the routes from an AS are worth: each path over a list of segments counts as much as a function of its name says.
-- The search and the definition are compared by this.
use Rattle.std.proofs.Common.{◌≡◌, ℕ, suc, ◌+◌, ◌-◌, ◌<◌, ◌≤◌, Bool, true, false, cond, ◌&&◌, List, [], ◌∷◌, ◌++◌, length, map, Option, Some, None, Result, Ok, Err, refl, sym, ap, ◌∙◌, append_assoc, append-nil, arith}
use Rattle.std.specs.Prelude.{not, nat_lt, nat_le, option_map, unwrap_or, slice_get}
use Rattle.std.specs.Option.{option_map_or}
use Rattle.std.specs.Result.{result_map_both}
use Rattle.std.proofs.lemmas.Bool.{le-leb}
use Rattle.std.proofs.lemmas.List.{length-map}
use Rattle.std.proofs.lemmas.List.Sums.{sum_by-cons}
use Rattle.epic_num.specs.declared.name.AsId.{AsId}
use Rattle.epic_num.specs.declared.path_ref.PathRef.{PathRef}
use Rattle.epic_num.specs.declared.segment.Leg.{Leg}
use Rattle.epic_num.specs.declared.segment.Segment.{Segment}
use Rattle.epic_num.specs.declared.path_error.PathError.{PathError}
use Rattle.epic_num.specs.declared.path_error.PathError.TheVariants.{TooLong, Unjoined, WrongKind}
use Rattle.epic_num.specs.Same.{same_as}
use Rattle.epic_num.specs.Paths.{LegKind, UpLeg, CoreLeg, DownLeg, are_lawful_kinds, kind_of, end_of, path_end}
use Rattle.epic_path.specs.Joins.{leg_from, walk, hops_of, are_short, of_lawful_kinds, joined}
use Rattle.epic_path.specs.Routes.{leads, ends_at, last_issue, named}
use Rattle.epic_path.specs.Search.{no_path}
use Rattle.epic_path.proofs.JoinLemmas.{lawful_alone, lawful_by_pairs}
use Rattle.epic_path.proofs.WalkLaws.{walked_segments}

-- the order in which kinds may follow one another
unfoldable pub rank : LegKind → ℕ
rank UpLeg = 1
rank CoreLeg = 2
rank DownLeg = 3

abbrev pub kind_over : Leg → LegKind
kind_over leg = kind_of leg.segment.kind leg.against

-- each kind comes after the one before it, and the first after this rank
unfoldable pub rising : ℕ → List LegKind → Bool
rising k [] = true
rising k (x ∷ xs) = nat_lt k (rank x) && rising (rank x) xs

abbrev pub grown : PathRef → Segment → PathRef
grown p s = record { issues = record { items = p.issues.items ++ last_issue s ∷ [] }; hops = p.hops + length s.hops.items }

module _ (f : PathRef → ℕ) (to : AsId) where
  unfoldable pub ending : PathRef → AsId → ℕ
  ending p at = cond (nat_le p.hops 32 && same_as at to) (f p) 0

  -- the worth of a path that has come to an AS by legs up to this rank, and goes on over the segments in turn
  unfoldable pub worth : ℕ → PathRef → AsId → List Segment → ℕ
  worth k p at [] = ending p at
  worth k p at (s ∷ r) = option_map_or (λ leg. cond (nat_lt k (rank (kind_over leg))) (worth (rank (kind_over leg)) (grown p s) (end_of leg) r) 0) (leg_from at s) 0

-- ---- by the walk over the segments

unfoldable end_at : AsId → List Leg → AsId
end_at at [] = at
end_at at (leg ∷ legs) = end_at (end_of leg) legs

unfoldable all_grown : PathRef → List Segment → PathRef
all_grown p [] = p
all_grown p (s ∷ r) = all_grown (grown p s) r

module _ (f : PathRef → ℕ) (to : AsId) where
  unfoldable of_walk : ℕ → PathRef → AsId → List Segment → Result (List Leg) PathError → ℕ
  of_walk k p at r (Ok legs) = cond (rising k (map kind_over legs) && (nat_le (p.hops + hops_of r) 32 && same_as (end_at at legs) to)) (f (all_grown p r)) 0
  of_walk k p at r (Err e) = 0

  none_either_way : (a : Bool) → cond {A = ℕ} a 0 0 ≡ 0
  none_either_way true = refl
  none_either_way false = refl

  grouped : (a b c : Bool) (x : ℕ) → cond a (cond (b && c) x 0) 0 ≡ cond ((a && b) && c) x 0
  grouped true b c x = refl
  grouped false b c x = refl

  of_walk_more : (k : ℕ) (p : PathRef) (at : AsId) (s : Segment) (r : List Segment) (leg : Leg) (rest : Result (List Leg) PathError) → cond (nat_lt k (rank (kind_over leg))) (of_walk (rank (kind_over leg)) (grown p s) (end_of leg) r rest) 0 ≡ of_walk k p at (s ∷ r) (result_map_both (λ legs. leg ∷ legs) (λ e. e) rest)
  unfolding of_walk rising end_at all_grown hops_of
  of_walk_more k p at s r leg (Ok legs) =
      let hops : (p.hops + length s.hops.items) + hops_of r ≡ p.hops + hops_of (s ∷ r) = omega (arith, sum_by-cons (λ (t : Segment). length t.hops.items) s r) in
      ap (λ n. cond (nat_lt k (rank (kind_over leg))) (cond (rising (rank (kind_over leg)) (map kind_over legs) && (nat_le n 32 && same_as (end_at (end_of leg) legs) to)) (f (all_grown (grown p s) r)) 0) 0) hops
      ∙ grouped (nat_lt k (rank (kind_over leg))) (rising (rank (kind_over leg)) (map kind_over legs)) _ _
  of_walk_more k p at s r leg (Err e) = none_either_way (nat_lt k (rank (kind_over leg)))

  worth_of_walk : (k : ℕ) (p : PathRef) (at : AsId) (i : ℕ) (r : List Segment) → worth f to k p at r ≡ of_walk k p at r (walk at i r)
  unfolding worth ending walk of_walk rising end_at all_grown hops_of
  worth_of_walk k p at i [] =
      let hops : p.hops ≡ p.hops + 0 = omega arith in
      ap (λ n. cond (nat_le n 32 && same_as at to) (f p) 0) hops
  worth_of_walk k p at i (s ∷ r) =
      let T : Option Leg → Type 0 = λ o. option_map_or (λ leg. cond (nat_lt k (rank (kind_over leg))) (worth f to (rank (kind_over leg)) (grown p s) (end_of leg) r) 0) o 0
      ≡ of_walk k p at (s ∷ r) (option_map_or (λ leg. result_map_both (λ legs. leg ∷ legs) (λ e. e) (walk (end_of leg) (i + 1) r)) o (Err (Unjoined i))) in
      elim (leg_from at s) as T [
        | None ↦ refl
        | Some leg ↦ ap (λ n. cond (nat_lt k (rank (kind_over leg))) n 0) (worth_of_walk (rank (kind_over leg)) (grown p s) (end_of leg) (i + 1) r)
            ∙ of_walk_more k p at s r leg (walk (end_of leg) (i + 1) r)
      ]

-- ---- by the definition of a route that leads to an AS

all_grown_is : (p : PathRef) (r : List Segment) → all_grown p r ≡ record { issues = record { items = p.issues.items ++ map last_issue r }; hops = p.hops + hops_of r }
unfolding all_grown hops_of
all_grown_is p [] =
    let hops : p.hops ≡ p.hops + 0 = omega arith in
    λ i. record { issues = record { items = sym (append-nil p.issues.items) i }; hops = hops i }
all_grown_is p (s ∷ r) =
    let hops : (p.hops + length s.hops.items) + hops_of r ≡ p.hops + hops_of (s ∷ r) = omega (arith, sum_by-cons (λ (t : Segment). length t.hops.items) s r) in
    all_grown_is (grown p s) r
    ∙ (λ i. record { issues = record { items = append_assoc p.issues.items (last_issue s ∷ []) (map last_issue r) i }; hops = hops i })

all_grown_named : (r : List Segment) → all_grown no_path r ≡ named r
unfolding no_path named
all_grown_named r =
    let hops : 0 + hops_of r ≡ hops_of r = omega arith in
    all_grown_is no_path r ∙ (λ i. record { issues = record { items = map last_issue r }; hops = hops i })

pair_lawful : (k l : LegKind) → are_lawful_kinds (k ∷ l ∷ []) ≡ nat_lt (rank k) (rank l)
unfolding are_lawful_kinds rank
pair_lawful UpLeg UpLeg = refl
pair_lawful UpLeg CoreLeg = refl
pair_lawful UpLeg DownLeg = refl
pair_lawful CoreLeg UpLeg = refl
pair_lawful CoreLeg CoreLeg = refl
pair_lawful CoreLeg DownLeg = refl
pair_lawful DownLeg UpLeg = refl
pair_lawful DownLeg CoreLeg = refl
pair_lawful DownLeg DownLeg = refl

from_start : (k : LegKind) → nat_lt 0 (rank k) ≡ true
unfolding rank
from_start UpLeg = refl
from_start CoreLeg = refl
from_start DownLeg = refl

and_true : (a : Bool) → (a && true) ≡ a
and_true true = refl
and_true false = refl

rising_lawful : (ks : List LegKind) → 0 < length ks → length ks ≤ 3 → are_lawful_kinds ks ≡ rising 0 ks
unfolding rising
rising_lawful [] some few = absurd (omega arith)
rising_lawful (k ∷ []) some few = rw (lawful_alone k, from_start k) refl
rising_lawful (k ∷ l ∷ []) some few = rw (pair_lawful k l, from_start k, and_true (nat_lt (rank k) (rank l))) refl
rising_lawful (k ∷ l ∷ m ∷ []) some few = rw (lawful_by_pairs k l m, pair_lawful k l, pair_lawful l m, from_start k, and_true (nat_lt (rank l) (rank m))) refl
rising_lawful (k ∷ l ∷ m ∷ n ∷ ks) some few = absurd (omega arith)

path_end_is : (at : AsId) (leg : Leg) (legs : List Leg) → path_end (leg ∷ legs) ≡ end_at at (leg ∷ legs)
unfolding path_end end_at
path_end_is at leg [] = refl
path_end_is at leg (next ∷ legs) =
    let last : length (leg ∷ next ∷ legs) - 1 ≡ suc (length (next ∷ legs) - 1) = omega arith in
    ap (λ n. unwrap_or (option_map end_of (slice_get (leg ∷ next ∷ legs) n)) (record { 0 = 0 })) last ∙ path_end_is (end_of leg) next legs

module _ (f : PathRef → ℕ) (from to : AsId) (apart : same_as from to ≡ false) where
  no_end : (short : Bool) (e : PathError) → ends_at to (cond short (Err e) (Err TooLong)) ≡ false
  unfolding ends_at
  no_end true e = refl
  no_end false e = refl

  tests : (lawful short : Bool) (legs : List Leg) → ends_at to (cond (true && short) (cond lawful (Ok legs) (Err WrongKind)) (Err TooLong)) ≡ (lawful && (short && same_as (path_end legs) to))
  unfolding ends_at
  tests true true legs = refl
  tests true false legs = refl
  tests false true legs = refl
  tests false false legs = refl

  unfoldable of_route : List Segment → Result (List Leg) PathError → ℕ
  of_route r w = cond (not (same_as from to) && ends_at to (cond (are_short r) (of_lawful_kinds w) (Err TooLong))) (f (named r)) 0

  at_err : (r : List Segment) (x : PathError) → of_walk f to 0 no_path from r (Err x) ≡ of_route r (Err x)
  unfolding of_route of_walk of_lawful_kinds
  at_err r x = rw (apart, no_end (are_short r) x) refl

  at_ok : (s : Segment) (r : List Segment) (legs : List Leg) → length (s ∷ r) ≤ 3 → walk from 0 (s ∷ r) ≡ Ok legs → of_walk f to 0 no_path from (s ∷ r) (Ok legs) ≡ of_route (s ∷ r) (Ok legs)
  unfolding of_route of_walk of_lawful_kinds are_short no_path
  at_ok s r [] short e = absurd (let over = walked_segments from 0 (s ∷ r) [] e in cc)
  at_ok s r (leg ∷ more) short e =
      let over = walked_segments from 0 (s ∷ r) (leg ∷ more) e in
      let size : length (leg ∷ more) ≡ length (s ∷ r) = sym (length-map (leg ∷ more) (λ l. l.segment)) ∙ ap length over in
      let few : length (map kind_over (leg ∷ more)) ≤ 3 = omega (arith, length-map (leg ∷ more) kind_over) in
      let kinds = rising_lawful (map kind_over (leg ∷ more)) (omega (arith, length-map (leg ∷ more) kind_over)) few in
      let hops : 0 + hops_of (s ∷ r) ≡ hops_of (s ∷ r) = omega arith in
      rw (apart, le-leb (length (s ∷ r)) 3 short, tests (are_lawful_kinds (map kind_over (leg ∷ more))) (nat_le (hops_of (s ∷ r)) 32) (leg ∷ more), kinds, path_end_is from leg more, all_grown_named (s ∷ r), hops) refl

  pub route_worth : (r : List Segment) → length r ≤ 3 → worth f to 0 no_path from r ≡ cond (leads from to r) (f (named r)) 0
  unfolding worth ending leads ends_at joined no_path of_route
  route_worth [] short = rw apart refl
  route_worth (s ∷ r) short =
      let W : Result (List Leg) PathError → Type 0 = λ w. walk from 0 (s ∷ r) ≡ w → of_walk f to 0 no_path from (s ∷ r) w ≡ of_route (s ∷ r) w in
      worth_of_walk f to 0 no_path from 0 (s ∷ r)
      ∙ (elim (walk from 0 (s ∷ r)) as W [
        | Ok legs ↦ λ e. at_ok s r legs short e
        | Err x ↦ λ e. at_err (s ∷ r) x
      ]) refl
