-- A tree of places as an index of keys: the first place that has a key.
use Rattle.std.specs.Prelude.{◌≡◌, ℕ, ◌<◌, List, [], ◌∷◌, length, map, position, slice_index_or}
use Rattle.std.specs.Ordering.{is_eq, nat_cmp, then_cmp, on}
use Rattle.std.specs.declared.cmp.Ordering.{Ordering}
use Rattle.std.specs.declared.cmp.Ordering.TheVariants.{Equal}
use Rattle.epic_tree.specs.Sides.{IsCut, found, Ordered}

-- on which side of the key at a place a key stands
abbrev pub key_side : {K : Type 0} → (K → K → Ordering) → K → List K → K → ℕ → Ordering
key_side R d keys y p = R y (slice_index_or keys p d)

abbrev pub AreBelow : ℕ → List ℕ → Type 0
AreBelow n [] = Unit {0}
AreBelow n (p ∷ ps) = (p < n) × AreBelow n ps

-- Places of a list of keys in the order of their keys; what is found for any key is the first place that has it.
pub record IsIndex {K : Type 0} (R : K → K → Ordering) (d : K) (keys : List K) (order : List ℕ) : Type 0 where
  pub below : AreBelow (length keys) order
  pub cut : (y : K) → IsCut (key_side R d keys y) order
  pub first : (y : K) → found (key_side R d keys y) order ≡ position (λ z. is_eq (R y z)) keys

-- the order of two keys by their tags, and then by an order of their own
abbrev pub tagged_cmp : {K : Type 0} → (K → ℕ) → (K → K → Ordering) → K → K → Ordering
tagged_cmp tag R = then_cmp (on tag nat_cmp) R

-- keys that the order doesn't tell apart have one tag
abbrev pub IsTagOf : {K : Type 0} → (K → K → Ordering) → (K → ℕ) → Type 0
IsTagOf {K} R tag = (y z : K) → R y z ≡ Equal → tag y ≡ tag z

-- a tree of places is an index of a list of keys, in the order of their tags and then in their own
pub record IsTagged {K : Type 0} (R : K → K → Ordering) (tag : K → ℕ) (d : K) (keys : List K) (tree : Ordered) : Type 0 where
  pub index : IsIndex (tagged_cmp tag R) d keys tree.places
  pub tags : tree.tags ≡ map tag keys
