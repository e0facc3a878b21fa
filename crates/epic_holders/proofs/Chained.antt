-- Walks along the chain of an issue, from its end.
use Rattle.std.proofs.Common.{◌≡◌, ℕ, suc, ◌+◌, ◌-◌, ◌<◌, Bool, true, false, ◌||◌, List, [], ◌∷◌, ◌++◌, Option, Some, None, refl, ap, sym, ◌∙◌, arith}
use Rattle.std.specs.Prelude.{option_map}
use Rattle.std.specs.List.{list_any}
use Rattle.std.specs.Option.{option_map_or}
use Rattle.std.proofs.lemmas.Bool.{or_right}
use Rattle.std.proofs.lemmas.List.Folds.{list_any-append}
use Rattle.std.proofs.lemmas.Option.{same_Some}
use Rattle.epic_num.specs.declared.hop.HopName.{HopName}
use Rattle.epic_num.specs.Chains.{Issue, issue_at, last_names, chain}
use Rattle.epic_num.specs.Same.{same_name}
use Rattle.epic_holders.specs.Holders.{is_in}

-- what a ledger answers of an issue
abbrev pub row : Issue → HopName × ℕ
row i = (i.name, i.parent)

-- the first of two tests is the one that is left
or_rest : (a b : Bool) → b ≡ false → (a || b) ≡ a
or_rest true b e = refl
or_rest false b e = e

in_end : (x y : HopName) (names : List HopName) → is_in x (names ++ y ∷ []) ≡ (is_in x names || same_name y x)
unfolding is_in
in_end x y names = list_any-append (λ z. same_name z x) names (y ∷ []) ∙ ap (λ (b : Bool). list_any (λ z. same_name z x) names || b) (or_rest (same_name y x) false refl)

module _ (issues : List Issue) (x : HopName) (k n : ℕ) where
  -- where the issue is there
  in_last : (r : HopName × ℕ) → Some r ≡ option_map row (issue_at issues n)
      → is_in x (last_names issues (suc k) n) ≡ (is_in x (last_names issues k r.1) || same_name r.0 x)
  unfolding last_names
  in_last r e = by (issue_at issues n) refl e
    where
      by : (o : Option Issue) → issue_at issues n ≡ o → Some r ≡ option_map row o
          → is_in x (option_map_or (λ i. last_names issues k i.parent ++ i.name ∷ []) o []) ≡ (is_in x (last_names issues k r.1) || same_name r.0 x)
      by None h s = absurd (cc)
      by (Some i) h s =
          let same : r ≡ row i = same_Some {A = HopName × ℕ} r (row i) s in
          in_end x i.name (last_names issues k i.parent)
          ∙ ap (λ (q : HopName × ℕ). is_in x (last_names issues k q.1) || same_name q.0 x) (sym same)

  -- where it isn't
  in_none : None ≡ option_map row (issue_at issues n) → is_in x (last_names issues (suc k) n) ≡ false
  unfolding last_names is_in
  in_none e = by (issue_at issues n) e
    where
      by : (o : Option Issue) → None ≡ option_map row o
          → list_any (λ y. same_name y x) (option_map_or (λ i. last_names issues k i.parent ++ i.name ∷ []) o []) ≡ false
      by None s = refl
      by (Some i) s = absurd (cc)

-- no names are left
in_zero : (issues : List Issue) (x : HopName) (n : ℕ) → is_in x (last_names issues 0 n) ≡ false
unfolding last_names is_in
in_zero issues x n = refl

-- a walk that has passed i of so many issues
module _ (issues : List Issue) (x : HopName) (most number i n : ℕ) (so_far : is_in x (last_names issues most number) ≡ is_in x (last_names issues (most - i) n)) where
  one_more : i < most → most - i ≡ suc (most - (i + 1))
  one_more low = omega arith

  whole : i < most → is_in x (last_names issues most number) ≡ is_in x (last_names issues (suc (most - (i + 1))) n)
  whole low = so_far ∙ ap (λ k. is_in x (last_names issues k n)) (one_more low)

  pub found_in : i < most → (r : HopName × ℕ) → Some r ≡ option_map row (issue_at issues n) → same_name r.0 x ≡ true → true ≡ is_in x (last_names issues most number)
  found_in low r e same =
      sym (whole low ∙ (in_last issues x (most - (i + 1)) n r e ∙ or_right (is_in x (last_names issues (most - (i + 1)) r.1)) (same_name r.0 x) same))

  pub passed_in : i < most → (r : HopName × ℕ) → Some r ≡ option_map row (issue_at issues n) → same_name r.0 x ≡ false
      → is_in x (last_names issues most number) ≡ is_in x (last_names issues (most - (i + 1)) r.1)
  passed_in low r e other =
      whole low ∙ (in_last issues x (most - (i + 1)) n r e ∙ or_rest (is_in x (last_names issues (most - (i + 1)) r.1)) (same_name r.0 x) other)

  pub ended_in : i < most → None ≡ option_map row (issue_at issues n) → false ≡ is_in x (last_names issues most number)
  ended_in low e = sym (whole low ∙ in_none issues x (most - (i + 1)) n e)

  pub walked_in : most - i ≡ 0 → false ≡ is_in x (last_names issues most number)
  walked_in none =
      sym (so_far ∙ (ap (λ k. is_in x (last_names issues k n)) none ∙ in_zero issues x n))

-- ---- chains

pub in_chain : (issues : List Issue) (x : HopName) (n : ℕ) (r : HopName × ℕ) → Some r ≡ option_map row (issue_at issues n)
    → is_in x (last_names issues r.0.body.pos n) ≡ is_in x (chain issues n)
unfolding chain
in_chain issues x n r e = by (issue_at issues n) e
  where
    by : (o : Option Issue) → Some r ≡ option_map row o
        → is_in x (last_names issues r.0.body.pos n) ≡ is_in x (option_map_or (λ i. last_names issues i.name.body.pos n) o [])
    by None s = absurd (cc)
    by (Some i) s = ap (λ (q : HopName × ℕ). is_in x (last_names issues q.0.body.pos n)) (same_Some {A = HopName × ℕ} r (row i) s)

pub in_no_chain : (issues : List Issue) (x : HopName) (n : ℕ) → None ≡ option_map row (issue_at issues n) → false ≡ is_in x (chain issues n)
unfolding chain is_in
in_no_chain issues x n e = by (issue_at issues n) e
  where
    by : (o : Option Issue) → None ≡ option_map row o → false ≡ list_any (λ y. same_name y x) (option_map_or (λ i. last_names issues i.name.body.pos n) o [])
    by None s = refl
    by (Some i) s = absurd (cc)
