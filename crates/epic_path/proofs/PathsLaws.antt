-- What a search with its maps finds, put in order, is all lawful paths.
use Rattle.std.proofs.Common.{◌≡◌, ℕ, ◌<◌, ◌≤◌, Bool, true, false, List, [], ◌∷◌, ◌++◌, length, map, Err, refl, sym, ap, ◌∙◌, arith}
use Rattle.std.specs.Prelude.{sum_by, filter}
use Rattle.std.specs.Ordering.{is_lt}
use Rattle.std.specs.List.Sorted.{IsPermutation, IsSortedBy}
use Rattle.epic_num.specs.declared.name.AsId.{AsId}
use Rattle.epic_num.specs.declared.path_ref.PathRef.{PathRef}
use Rattle.epic_num.specs.declared.segment.Segment.{Segment}
use Rattle.epic_num.specs.Same.{same_as}
use Rattle.epic_path.specs.declared.links.Link.{Link}
use Rattle.epic_path.specs.declared.paths_error.PathsError.{PathsError}
use Rattle.epic_path.specs.declared.paths_error.PathsError.TheVariants.{TooMany, OutOfMemory}
use Rattle.epic_path.specs.Routes.{all_lawful, leads, lists_up_to, named, path_cmp, in_order}
use Rattle.epic_path.specs.Search.{Finds, up_links, core_links, last_links, paths_from}
use Rattle.epic_path.proofs.Totals.{search_sum}
use Rattle.epic_path.proofs.OrderLaws.{sorted_is, found_as_many}

filter_none : {X : Type 0} (p : X → Bool) → ((x : X) → p x ≡ false) → (xs : List X) → filter p xs ≡ []
filter_none p e [] = refl
filter_none p e (x ∷ xs) = rw (e x) (filter_none p e xs)

pub none_to_itself : (segments : List Segment) (from to : AsId) → same_as from to ≡ true → [] ≡ all_lawful segments from to
unfolding all_lawful leads in_order
none_to_itself segments from to same = sym (ap (λ rs. in_order (map named rs)) (filter_none (leads from to) (λ r. rw same refl) (lists_up_to 3 segments)))

module _ (segments : List Segment) (from to : AsId) (cores downs : AsId → List Link) (target : AsId) (apart : same_as from to ≡ false)
    (is-to : target ≡ to) (is-cores : (at : AsId) → cores at ≡ core_links segments at) (is-downs : (at : AsId) → downs at ≡ last_links to segments at) where
  abbrev found : List PathRef
  found = paths_from (up_links segments from) cores downs from target

  found_sum : (f : PathRef → ℕ) → sum_by f found ≡ sum_by f (map named (filter (leads from to) (lists_up_to 3 segments)))
  found_sum f =
      (λ i. sum_by f (paths_from (up_links segments from) (λ at. is-cores at i) (λ at. is-downs at i) from (is-to i)))
      ∙ search_sum segments from to apart f

  pub sorted_all : (old before sorted : List PathRef) → old ≡ [] → before ≡ old ++ found → IsPermutation before sorted → IsSortedBy (λ p q. is_lt (path_cmp p q)) sorted → sorted ≡ all_lawful segments from to
  unfolding all_lawful
  sorted_all old before sorted empty e moved up = sorted_is before sorted _ moved up (λ f. ap (sum_by f) (e ∙ ap (λ o. o ++ found) empty) ∙ found_sum f)

  as_many : length found ≡ length (all_lawful segments from to)
  unfolding all_lawful
  as_many = found_as_many found _ found_sum

  pub few : (limit most : ℕ) (old before : List PathRef) → old ≡ [] → limit ≡ most → before ≡ old ++ found → length before ≤ limit → length (all_lawful segments from to) ≤ most
  few limit most old before empty is e small = let size : length before ≡ length found = ap length (e ∙ ap (λ o. o ++ found) empty) in omega (arith, as_many)

  pub too_many : (limit most : ℕ) (old new : List PathRef) (e : PathsError) → old ≡ [] → limit ≡ most → Finds limit old found new (Err e) → e ≡ TooMany → most < length (all_lawful segments from to)
  too_many limit most old new TooMany empty is many told = let size : length (old ++ found) ≡ length found = ap (λ o. length (o ++ found)) empty in omega (arith, as_many)
  too_many limit most old new OutOfMemory empty is many told = absurd (cc)
