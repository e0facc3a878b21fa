-- Which row of a hop's tags fails first, where a router tries a generation and then the one before it.
use Rattle.std.proofs.Common.{◌≡◌, ◌≢◌, ℕ, ◌-◌, Bool, true, false, not, List, [], ◌∷◌, None, Some, refl, ap, sym, subst, ◌∙◌}
use Rattle.std.specs.Prelude.{◌==◌, ◌||◌, is_none}
use Rattle.std.proofs.lemmas.Bool.{cond-true, cond-false, cond_both, and_parts, eqb-true, eq-eqb}
use Rattle.epic_num.specs.declared.hop.Field.{Field}
use Rattle.epic_num.specs.declared.name.AsId.{AsId}
use Rattle.epic_num.specs.Tables.{first_row}
use Rattle.epic_layout.specs.Contents.{Contents}
use Rattle.epic_topo.specs.Network.{Network}
use Rattle.epic_router.specs.Acceptance.{IsAccepting, failing}
use Rattle.epic_router.specs.Candidates.{field_fits, tags_fit, some_field_fits, accepting, candidates_of}
use Rattle.epic_router.specs.Checks.{tag_rows}
use Rattle.epic_router.specs.Passing.{HasWidth, IsUpdate}

-- the hop's tags are right under a generation
pub record IsRight (t : Network) (a : AsId) (candidates : List ℕ) (p : Contents) (j : ℕ) (g : ℕ) : Type 0 where
  pub rows : first_row (tag_rows t a candidates p j) ≡ None
  pub generation : accepting t a candidates p j ≡ Some g

-- ---- any candidates

passes : (t : Network) (a : AsId) (cs : List ℕ) (p : Contents) (j g : ℕ) → some_field_fits t a cs p j ≡ true → accepting t a cs p j ≡ Some g
    → IsRight t a cs p j g
unfolding tag_rows
passes t a cs p j g some accepted = record {
  rows = cond-false _ _ _ (ap not some) ∙ cond-false _ _ _ (ap is_none accepted);
  generation = accepted;
}

fails : (t : Network) (a : AsId) (cs : List ℕ) (p : Contents) (j : ℕ) (some : Bool) → some_field_fits t a cs p j ≡ some → accepting t a cs p j ≡ None
    → first_row (tag_rows t a cs p j) ≡ Some (failing some, j)
unfolding tag_rows
fails t a cs p j true some none = cond-false _ _ _ (ap not some) ∙ cond-true _ _ _ (ap is_none none)
fails t a cs p j false some none = cond-true _ _ _ (ap not some)

field_right : (t : Network) (a : AsId) (p : Contents) (j g : ℕ) → tags_fit t a p j g ≡ true → field_fits t a p j g ≡ true
unfolding tags_fit
field_right t a p j g e = (and_parts _ _ e).0

or_more : (x y : Bool) → x ≡ true → (x || y) ≡ true
or_more true y e = refl
or_more false y e = absurd (cc)

or_last : (x y : Bool) → y ≡ true → (x || (y || false)) ≡ true
or_last true y e = refl
or_last false true e = refl
or_last false false e = absurd (cc)

or_none : (x : Bool) → (x || false) ≡ x
or_none true = refl
or_none false = refl

-- the first is right
right_first : (t : Network) (a : AsId) (p : Contents) (j g : ℕ) (rest : List ℕ) → tags_fit t a p j g ≡ true → IsRight t a (g ∷ rest) p j g
unfolding some_field_fits accepting
right_first t a p j g rest e =
    passes t a (g ∷ rest) p j g (or_more _ _ (field_right t a p j g e)) (cond-true _ _ _ e)

-- the second is right
right_second : (t : Network) (a : AsId) (p : Contents) (j g h : ℕ) → tags_fit t a p j g ≡ false → tags_fit t a p j h ≡ true
    → IsRight t a (g ∷ h ∷ []) p j h
unfolding some_field_fits accepting
right_second t a p j g h d e =
    passes t a (g ∷ h ∷ []) p j h (or_last _ _ (field_right t a p j h e)) (cond-false _ _ _ d ∙ cond-true _ _ _ e)

-- one that is wrong
wrong_one : (t : Network) (a : AsId) (p : Contents) (j g : ℕ) → tags_fit t a p j g ≡ false
    → first_row (tag_rows t a (g ∷ []) p j) ≡ Some (failing (field_fits t a p j g), j)
unfolding some_field_fits accepting
wrong_one t a p j g d = fails t a (g ∷ []) p j (field_fits t a p j g) (or_none _) (cond-false _ _ _ d)

-- two that are wrong
wrong_two : (t : Network) (a : AsId) (p : Contents) (j g h : ℕ) → tags_fit t a p j g ≡ false → tags_fit t a p j h ≡ false
    → first_row (tag_rows t a (g ∷ h ∷ []) p j) ≡ Some (failing (field_fits t a p j g || field_fits t a p j h), j)
unfolding some_field_fits accepting
wrong_two t a p j g h d e =
    fails t a (g ∷ h ∷ []) p j (field_fits t a p j g || field_fits t a p j h)
    (ap (λ y. field_fits t a p j g || y) (or_none _))
    (cond-false _ _ _ d ∙ cond-false _ _ _ e)

-- ---- the candidates of a generation

zero_alone : (g : ℕ) → g ≡ 0 → candidates_of g ≡ g ∷ []
unfolding candidates_of
zero_alone g e = cond-true _ _ _ (eq-eqb g 0 e) ∙ ap (λ n. n ∷ []) (sym e)

one_before : (g : ℕ) → g ≢ 0 → candidates_of g ≡ g ∷ (g - 1) ∷ []
unfolding candidates_of
one_before g ne =
    cond_both (g == 0) (0 ∷ []) (g ∷ (g - 1) ∷ []) (λ cs. cs ≡ g ∷ (g - 1) ∷ []) (λ h. absurd (ne (eqb-true g 0 h))) (λ _. refl)

pub present_right : (t : Network) (a : AsId) (p : Contents) (j g : ℕ) → tags_fit t a p j g ≡ true → IsRight t a (candidates_of g) p j g
unfolding candidates_of
present_right t a p j g e =
    cond_both (g == 0) (0 ∷ []) (g ∷ (g - 1) ∷ []) (λ cs. IsRight t a cs p j g)
    (λ h. subst (λ n. IsRight t a (n ∷ []) p j g) (eqb-true g 0 h) (right_first t a p j g [] e))
    (λ _. right_first t a p j g ((g - 1) ∷ []) e)

pub present_alone : (t : Network) (a : AsId) (p : Contents) (j g : ℕ) → g ≡ 0 → tags_fit t a p j g ≡ false
    → first_row (tag_rows t a (candidates_of g) p j) ≡ Some (failing (field_fits t a p j g), j)
present_alone t a p j g e d = ap (λ cs. first_row (tag_rows t a cs p j)) (zero_alone g e) ∙ wrong_one t a p j g d

pub previous_right : (t : Network) (a : AsId) (p : Contents) (j g : ℕ) → g ≢ 0 → tags_fit t a p j g ≡ false → tags_fit t a p j (g - 1) ≡ true
    → IsRight t a (candidates_of g) p j (g - 1)
previous_right t a p j g ne d e = subst (λ cs. IsRight t a cs p j (g - 1)) (sym (one_before g ne)) (right_second t a p j g (g - 1) d e)

pub neither_right : (t : Network) (a : AsId) (p : Contents) (j g : ℕ) → g ≢ 0 → tags_fit t a p j g ≡ false → tags_fit t a p j (g - 1) ≡ false
    → first_row (tag_rows t a (candidates_of g) p j) ≡ Some (failing (field_fits t a p j g || field_fits t a p j (g - 1)), j)
neither_right t a p j g ne d e =
    ap (λ cs. first_row (tag_rows t a cs p j)) (one_before g ne) ∙ wrong_two t a p j g (g - 1) d e

-- what is known of the hop then
pub as_accepting : (t : Network) (a : AsId) (cs : List ℕ) (p : Contents) (j g n : ℕ) (u : Field) → IsRight t a cs p j g → n ≡ g
    → IsUpdate t a g p j u → HasWidth p u → IsAccepting t a cs p j (record { generation = n; update = u })
as_accepting t a cs p j g n u right e update width =
    subst (λ (m : ℕ). IsAccepting t a cs p j (record { generation = m; update = u })) (sym e)
    (record { generation = right.generation; update = update; width = width })
