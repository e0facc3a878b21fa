-- How the parts of a search put what they find together.
use Rattle.std.proofs.Common.{◌≡◌, ℕ, ◌+◌, ◌<◌, ◌≤◌, List, [], ◌∷◌, ◌++◌, length, get_or, take, drop, Some, None, Err, refl, sym, ap, ◌∙◌, append_assoc, append-nil, length-append, arith}
use Rattle.std.specs.Prelude.{flat_map, filter_map}
use Rattle.std.specs.List.{cons_option}
use Rattle.std.specs.Option.{option_map_or}
use Rattle.std.proofs.lemmas.List.{take_more, take_all, take-append-drop}
use Rattle.std.proofs.lemmas.List.Concat.{flat_map-append}
use Rattle.std.proofs.lemmas.List.Elements.{filter_map-append}
use Rattle.epic_num.specs.declared.name.AsId.{AsId}
use Rattle.epic_num.specs.declared.path_ref.PathRef.{PathRef}
use Rattle.epic_num.specs.declared.segment.Segment.{Segment}
use Rattle.epic_path.specs.declared.links.Link.{Link}
use Rattle.epic_path.specs.declared.paths_error.PathsError.{PathsError}
use Rattle.epic_path.specs.declared.paths_error.PathsError.TheVariants.{TooMany, OutOfMemory}
use Rattle.epic_path.specs.Search.{Finds, extended, is_up, link_from, onward, up_links}

-- too many already are too many of more
finds_err : (e : PathsError) (most : ℕ) (old a new old' a' new' : List PathRef) → length (old ++ a) ≤ length (old' ++ a') → Finds most old a new (Err e) → Finds most old' a' new' (Err e)
finds_err TooMany most old a new old' a' new' fewer many = omega arith
finds_err OutOfMemory most old a new old' a' new' fewer many = tt

pub finds_first : (e : PathsError) (most : ℕ) (old a b new : List PathRef) → Finds most old a new (Err e) → Finds most old (a ++ b) new (Err e)
finds_first e most old a b new many =
    finds_err e most old a new old (a ++ b) new (omega (arith, length-append old a, length-append old (a ++ b), length-append a b)) many

-- a loop over a list that finds a part for each element, where `all` tells the parts of elements one after another
module _ {X : Type 0} (all : List X → List PathRef) (joins : (xs ys : List X) → all (xs ++ ys) ≡ all xs ++ all ys) (old a : List PathRef) (xs : List X) where
  one_more : (i : ℕ) (x d : X) → i < length xs → x ≡ get_or xs i d → old ++ (a ++ all (take (i + 1) xs)) ≡ (old ++ (a ++ all (take i xs))) ++ all (x ∷ [])
  one_more i x d h is =
      ap (λ ys. old ++ (a ++ all ys)) (take_more xs i d h ∙ ap (λ y. take i xs ++ y ∷ []) (sym is))
      ∙ ap (λ b. old ++ (a ++ b)) (joins (take i xs) (x ∷ []))
      ∙ ap (λ b. old ++ b) (sym (append_assoc a (all (take i xs)) (all (x ∷ []))))
      ∙ sym (append_assoc old (a ++ all (take i xs)) (all (x ∷ [])))

  pub found_more : (mid new part : List PathRef) (i : ℕ) (x d : X) → i < length xs → x ≡ get_or xs i d → part ≡ all (x ∷ []) → mid ≡ old ++ (a ++ all (take i xs)) → new ≡ mid ++ part → new ≡ old ++ (a ++ all (take (i + 1) xs))
  found_more mid new part i x d h is one had added =
      added ∙ ap (λ b. b ++ part) had ∙ ap (λ b. (old ++ (a ++ all (take i xs))) ++ b) one ∙ sym (one_more i x d h is)

  pub found_all : (mid tail : List PathRef) (i : ℕ) → length xs ≤ i → tail ≡ all xs → mid ≡ old ++ (a ++ all (take i xs)) → mid ≡ old ++ (a ++ tail)
  found_all mid tail i h is had = had ∙ ap (λ ys. old ++ (a ++ all ys)) (take_all i xs h) ∙ ap (λ t. old ++ (a ++ t)) (sym is)

  pub finds_in_loop : (e : PathsError) (most : ℕ) (mid new part tail : List PathRef) (i : ℕ) (x d : X) → i < length xs → x ≡ get_or xs i d → part ≡ all (x ∷ []) → tail ≡ all xs → mid ≡ old ++ (a ++ all (take i xs)) → Finds most mid part new (Err e) → Finds most old (a ++ tail) new (Err e)
  finds_in_loop e most mid new part tail i x d h is one whole-is had many =
      let front : mid ++ part ≡ old ++ (a ++ all (take (i + 1) xs)) = found_more mid (mid ++ part) part i x d h is one had refl in
      let whole : tail ≡ all (take (i + 1) xs) ++ all (drop (i + 1) xs) = whole-is ∙ ap all (sym (take-append-drop (i + 1) xs)) ∙ joins (take (i + 1) xs) (drop (i + 1) xs) in
      finds_err e most mid part new old (a ++ tail) new
      (rw (front, whole) (omega (arith, length-append {A = PathRef}))) many

pub flat_map_one : {X Y : Type 0} (f : X → List Y) (x : X) → f x ≡ flat_map f (x ∷ [])
flat_map_one f x = sym (append-nil (f x))

pub over_ups-append : (f : Link → List PathRef) (from : AsId) (xs ys : List Segment) → flat_map f (up_links (xs ++ ys) from) ≡ flat_map f (up_links xs from) ++ flat_map f (up_links ys from)
unfolding up_links
over_ups-append f from xs ys =
    ap (flat_map f) (filter_map-append (link_from is_up from) xs ys) ∙ flat_map-append f (filter_map (link_from is_up from) xs) (filter_map (link_from is_up from) ys)

pub over_no_ups : (f : Link → List PathRef) (from : AsId) → flat_map f (up_links [] from) ≡ []
unfolding up_links
over_no_ups f from = refl

pub over_missing : (f : Link → List PathRef) (from : AsId) (s : Segment) → link_from is_up from s ≡ None → flat_map f (up_links (s ∷ []) from) ≡ []
unfolding up_links
over_missing f from s e = ap (λ o. flat_map f (cons_option o [])) e

pub over_one : (f : Link → List PathRef) (from : AsId) (s : Segment) (up : Link) → link_from is_up from s ≡ Some up → flat_map f (up_links (s ∷ []) from) ≡ f up
unfolding up_links
over_one f from s up e = ap (λ o. flat_map f (cons_option o [])) e ∙ append-nil (f up)

pub onward_some : (rest : PathRef → AsId → List PathRef) (path p : PathRef) (link : Link) → extended path link ≡ Some p → onward rest path link ≡ rest p link.end
unfolding onward
onward_some rest path p link e = ap (λ o. option_map_or (λ q. rest q link.end) o []) e

pub onward_none : (rest : PathRef → AsId → List PathRef) (path : PathRef) (link : Link) → extended path link ≡ None → onward rest path link ≡ []
unfolding onward
onward_none rest path link e = ap (λ o. option_map_or (λ q. rest q link.end) o []) e
