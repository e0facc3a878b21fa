-- What a table's tree finds, and how it grows.
use Rattle.std.proofs.Common.{◌≡◌, ℕ, zero, suc, ◌<◌, Bool, List, [], ◌∷◌, ◌++◌, length, Option, Some, None, Ordering, refl, sym, ap, ◌∙◌, arith}
use Rattle.std.specs.Prelude.{position, slice_index_or, IfSome}
use Rattle.std.specs.Cmp.{IsTotalOrder}
use Rattle.std.specs.List.{slice_index}
use Rattle.std.specs.Ordering.{is_eq, nat_cmp, ordering_then}
use Rattle.std.proofs.lemmas.List.{length-map}
use Rattle.std.proofs.lemmas.List.Quantifiers.{position-Some}
use Rattle.epic_tree.specs.Sides.{IsCut, Ordered, by_tag, found, put}
use Rattle.epic_tree.specs.Index.{key_side, IsTagOf}
use Rattle.epic_tree.proofs.Indexing.{AreAlike, put_same, tagged_none, tagged_cut, tagged_find, tagged_kept, tagged_push}
use Rattle.epic_index.specs.Rows.{IsTable}

-- what stands at a place, whatever stands past the end
there_any : {K : Type 0} (keys : List K) (d e : K) (p : ℕ) → p < length keys → slice_index_or keys p d ≡ slice_index_or keys p e
there_any [] d e p h = absurd (omega arith)
there_any (x ∷ xs) d e zero h = refl
there_any (x ∷ xs) d e (suc p) h = there_any xs d e p (omega arith)

module _ {K : Type 0} {R : K → K → Ordering} {tag : K → ℕ} where
  pub table_none : (tree : Ordered) → tree.places ≡ [] → tree.tags ≡ [] → IsTable R tag [] tree
  table_none tree e f none = tagged_none R tag none tree e f

  pub table_cut : (keys : List K) (tree : Ordered) → IsTable R tag keys tree → (y : K) → IsCut (by_tag tree.tags (tag y) (key_side R y keys y)) tree.places
  table_cut keys tree h y = tagged_cut R tag y keys tree (h y) y

  -- the places of the tree are those of the keys
  pub table_low : (keys : List K) (tree : Ordered) (y : K) → IsTable R tag keys tree → (p : ℕ) → p < length tree.tags → p < length keys
  table_low keys tree y h p low = omega (arith, low, ap length (h y).tags, length-map keys tag)

  pub table_find : (keys : List K) (tree : Ordered) (eq : K → K → Bool) → IsTagOf R tag → ((x y : K) → eq x y ≡ is_eq (R x y)) → IsTable R tag keys tree → (y : K) (o : Option ℕ) → o ≡ found (by_tag tree.tags (tag y) (key_side R y keys y)) tree.places → o ≡ position (eq y) keys
  table_find keys tree eq of ties h y o e =
      e ∙ tagged_find R tag y keys tree of (h y) y ∙ ap (λ (q : K → Bool). position q keys) (λ i z. sym (ties y z) i)

  pub table_kept : (keys : List K) (tree later : Ordered) → IsTable R tag keys tree → later.places ≡ tree.places → later.tags ≡ tree.tags → IsTable R tag keys later
  table_kept keys tree later h e f none = tagged_kept R tag none keys tree later (h none) e f

  -- one key more
  pub table_push : (keys : List K) (tree later : Ordered) (new : K) → IsTotalOrder R → IsTable R tag keys tree → later.places ≡ put (by_tag tree.tags (tag new) (key_side R new keys new)) (length tree.tags) tree.places → later.tags ≡ tree.tags ++ tag new ∷ [] → IsTable R tag (keys ++ new ∷ []) later
  table_push keys tree later new total h e f none =
      let alike : AreAlike (length keys) (by_tag tree.tags (tag new) (key_side R new keys new)) (by_tag tree.tags (tag new) (key_side R none keys new)) =
      λ p low. ap (λ k. ordering_then (nat_cmp (tag new) (slice_index tree.tags p)) (R new k)) (there_any keys new none p low) in
      tagged_push R tag none keys tree later new total (h none) (e ∙ put_same (length keys) _ _ (length tree.tags) tree.places alike (h none).index.below) f

pub position_low : {X : Type 0} (xs : List X) (p : X → Bool) (o : Option ℕ) → o ≡ position p xs → IfSome o (λ i. i < length xs)
position_low [] p None e = tt
position_low [] p (Some i) e = cc
position_low (x ∷ xs) p None e = tt
position_low (x ∷ xs) p (Some i) e = (position-Some p (x ∷ xs) i x (sym e)).0
