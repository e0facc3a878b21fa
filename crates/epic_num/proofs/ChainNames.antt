-- The names of a chain, one by one.
use Rattle.std.proofs.Common.{◌≡◌, ℕ, zero, suc, ◌-◌, ◌<◌, ◌≤◌, List, [], ◌∷◌, ◌++◌, length, length-append, Some, refl, sym, ap, ◌∙◌, arith}
use Rattle.std.specs.Prelude.{option_map, slice_get}
use Rattle.std.specs.Option.{option_map_or}
use Rattle.epic_num.specs.declared.hop.HopName.{HopName}
use Rattle.epic_num.specs.Chains.{Issue, issue_at, name_of, ancestor, last_names}
use Rattle.epic_num.proofs.ChainLaws.{slice_get-append, slice_get-seam}
use Rattle.epic_num.proofs.Misspelt.{by_order}

-- one issue more before
pub ancestor_more : (issues : List Issue) (number n : ℕ)
    → ancestor issues number (suc n) ≡ option_map_or (λ i. i.parent) (issue_at issues (ancestor issues number n)) 0
unfolding ancestor
ancestor_more issues number zero = refl
ancestor_more issues number (suc n) = ancestor_more issues (option_map_or (λ i. i.parent) (issue_at issues number) 0) n

-- the issue is there, and so many in all of those that it goes on from
abbrev pub Reaches : List Issue → ℕ → ℕ → Type 0
Reaches issues most number = (m : ℕ) → m < most → (i : Issue) × (issue_at issues (ancestor issues number m) ≡ Some i)

pub reaches_parent : (issues : List Issue) (most number : ℕ) (i : Issue) → issue_at issues number ≡ Some i
    → Reaches issues (suc most) number → Reaches issues most i.parent
unfolding ancestor
reaches_parent issues most number i there reaches m small =
    let r = reaches (suc m) (omega arith) in
    (r.0, ap (λ o. issue_at issues (ancestor issues (option_map_or (λ j. j.parent) o 0) m)) (sym there) ∙ r.1)

-- where an issue is there, its name comes last
pub last_names-there : (issues : List Issue) (most number : ℕ) (i : Issue) → issue_at issues number ≡ Some i
    → last_names issues (suc most) number ≡ last_names issues most i.parent ++ i.name ∷ []
unfolding last_names
last_names-there issues most number i there = ap (λ o. option_map_or (λ j. last_names issues most j.parent ++ j.name ∷ []) o []) there

first_issue : (issues : List Issue) (most number : ℕ) → Reaches issues (suc most) number → (i : Issue) × (issue_at issues number ≡ Some i)
unfolding ancestor
first_issue issues most number reaches = reaches 0 (omega arith)

-- as many names as were asked for
pub length-last_names : (issues : List Issue) (most number : ℕ) → Reaches issues most number → length (last_names issues most number) ≡ most
unfolding last_names
length-last_names issues zero number reaches = refl
length-last_names issues (suc most) number reaches =
    let i = first_issue issues most number reaches in
    let rest = length-last_names issues most i.0.parent (reaches_parent issues most number i.0 i.1 reaches) in
    ap length (last_names-there issues most number i.0 i.1)
    ∙ omega (arith, rest, length-append (last_names issues most i.0.parent) (i.0.name ∷ []))

-- the m-th name is that of the issue which so many others go on from
pub name_in : (issues : List Issue) (most number m : ℕ) → Reaches issues most number → m < most
    → slice_get (last_names issues most number) m ≡ name_of issues (ancestor issues number (most - 1 - m))
unfolding name_of ancestor
name_in issues zero number m reaches small = absurd (omega arith)
name_in issues (suc most) number m reaches small =
    ap (λ xs. slice_get xs m) (last_names-there issues most number i.0 i.1)
    ∙ by_order m most (slice_get (names ++ i.0.name ∷ []) m ≡ option_map (λ j. j.name) (issue_at issues (ancestor issues number (suc most - 1 - m)))) last
    (before (λ h. name_in issues most i.0.parent m (reaches_parent issues most number i.0 i.1 reaches) h))
  where
    i : (j : Issue) × (issue_at issues number ≡ Some j)
    i = first_issue issues most number reaches

    names : List HopName
    names = last_names issues most i.0.parent

    long : length names ≡ most
    long = length-last_names issues most i.0.parent (reaches_parent issues most number i.0 i.1 reaches)

    last : most ≤ m → slice_get (names ++ i.0.name ∷ []) m ≡ option_map (λ j. j.name) (issue_at issues (ancestor issues number (suc most - 1 - m)))
    last h =
        let at : m ≡ length names = omega (arith, long) in
        let none : suc most - 1 - m ≡ 0 = omega arith in
        ap (slice_get (names ++ i.0.name ∷ [])) at
        ∙ (slice_get-seam names i.0.name
        ∙ (ap (option_map (λ j. j.name)) (sym i.1) ∙ ap (λ n. option_map (λ j. j.name) (issue_at issues (ancestor issues number n))) (sym none)))

    before : (m < most → slice_get names m ≡ option_map (λ j. j.name) (issue_at issues (ancestor issues i.0.parent (most - 1 - m))))
        → m < most → slice_get (names ++ i.0.name ∷ []) m ≡ option_map (λ j. j.name) (issue_at issues (ancestor issues number (suc most - 1 - m)))
    before named h =
        let more : suc most - 1 - m ≡ suc (most - 1 - m) = omega arith in
        slice_get-append names (i.0.name ∷ []) m (omega (arith, long))
        ∙ (named h
        ∙ (ap (λ o. option_map (λ j. j.name) (issue_at issues (ancestor issues (option_map_or (λ j. j.parent) o 0) (most - 1 - m)))) (sym i.1)
        ∙ ap (λ n. option_map (λ j. j.name) (issue_at issues (ancestor issues number n))) (sym more)))
