-- From the last hop of a chain down to its first.
use Rattle.std.proofs.Common.{◌≡◌, ℕ, zero, suc, ◌+◌, true, false, List, [], ◌∷◌, ◌++◌, take, refl, ap, sym, ◌∙◌, arith, add-one, inl, inr}
use Rattle.std.specs.Prelude.{◌⊎◌, Option, Some, slice_get}
use Rattle.std.specs.Option.{option_map_or}
use Rattle.epic_num.specs.declared.hop.HopName.{HopName}
use Rattle.epic_num.specs.Chains.{Issue, issue_at, last_names}
use Rattle.epic_num.specs.Same.{same_name}
use Rattle.epic_num.proofs.SameLaws.{same_name-Decides}
use Rattle.epic_topo.specs.Network.{Network}
use Rattle.epic_fields.specs.Issues.{IssuesKept}
use Rattle.epic_fields.specs.Tags.{link}
use Rattle.epic_audit.specs.Chain.{IsBrokenChain}
use Rattle.epic_audit.proofs.Queries.{named_there}

-- the hops stand at positions 1, 2 and so on, and each carries the link tag of the one before
pub record AreLinked (t : Network) (names : List HopName) : Type 0 where
  pub positions : (m : ℕ) (x : HopName) → slice_get names m ≡ Some x → x.body.pos ≡ m + 1
  pub links : (m : ℕ) (x y : HopName) → slice_get names m ≡ Some x → slice_get names (m + 1) ≡ Some y → y.body.link ≡ link t x

pub take_through : {A : Type 0} (xs : List A) (m : ℕ) (x : A) → slice_get xs m ≡ Some x → take (suc m) xs ≡ take m xs ++ x ∷ []
take_through [] m x e = absurd (cc)
take_through (y ∷ ys) zero x e = let same : y ≡ x = cc in ap (λ z. z ∷ []) same
take_through (y ∷ ys) (suc m) x e = ap (λ zs. y ∷ zs) (take_through ys m x e)

-- an element that isn't the first has one before it
one_before : {A : Type 0} (xs : List A) (m : ℕ) (x : A) → slice_get xs (suc m) ≡ Some x → (y : A) × (slice_get xs m ≡ Some y)
one_before [] m x e = absurd (cc)
one_before (y ∷ ys) zero x e = (y, refl)
one_before (y ∷ ys) (suc m) x e = one_before ys m x e

-- the name of an issue after those that it goes on from
names_to : (issues : List Issue) (m n : ℕ) (i : Issue) → issue_at issues n ≡ Some i
    → last_names issues (suc m) n ≡ last_names issues m i.parent ++ i.name ∷ []
unfolding last_names
names_to issues m n i there = ap (λ (o : Option Issue). option_map_or (λ k. last_names issues m k.parent ++ k.name ∷ []) o []) there

-- Below an issue of the hop at position m + 1 stand the hops before it, or the chain is broken.
pub descend : (t : Network) (issues : List Issue) (names : List HopName) → IssuesKept t issues → AreLinked t names
    → (m n : ℕ) (i : Issue) → issue_at issues n ≡ Some i → slice_get names m ≡ Some i.name
    → (last_names issues (suc m) n ≡ take (suc m) names) ⊎ IsBrokenChain t issues names
unfolding last_names
descend t issues names kept linked zero n i there at = inl (names_to issues 0 n i there ∙ sym (take_through names 0 i.name at))
descend t issues names kept linked (suc m) n i there at =
    elim (kept n i there).placed [
      | inl root ↦ (let first = root.position in let higher = linked.positions (suc m) i.name at in absurd (omega arith))
      | inr child ↦
          (let z = one_before names m i.name at in
          let p = child.parent in
          let at_next : slice_get names (m + 1) ≡ Some i.name = ap (slice_get names) (add-one m) ∙ at in
          let one_link : link t z.0 ≡ link t p.name = sym (linked.links m z.0 i.name z.1 at_next) ∙ child.linked in
          elim (same_name z.0 p.name) as (λ b. same_name z.0 p.name ≡ b
          → (last_names issues (suc (suc m)) n ≡ take (suc (suc m)) names) ⊎ IsBrokenChain t issues names) [
            | true ↦ λ e.
                (let same : z.0 ≡ p.name = (same_name-Decides z.0 p.name).0 e in
                elim (descend t issues names kept linked m i.parent p child.is_parent (z.1 ∙ ap Some same)) [
                  | inl below ↦ inl (names_to issues (suc m) n i there ∙ (ap (λ xs. xs ++ i.name ∷ []) below ∙ sym (take_through names (suc m) i.name at)))
                  | inr broken ↦ inr broken
                ])
            | false ↦ λ e.
                inr (record {
                  index = m;
                  name = z.0;
                  next = i.name;
                  parent = p.name;
                  there = z.1;
                  next_there = at_next;
                  goes_on = record { number = n; issue = i; there = there; named = refl; parent_named = named_there issues i.parent p child.is_parent };
                  one_link = record { differ = λ same. (let is = (same_name-Decides z.0 p.name).1 same in absurd (cc)); link_is = one_link };
                })
          ] refl)
    ]
