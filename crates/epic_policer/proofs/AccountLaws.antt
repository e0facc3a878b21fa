-- What is read of the accounts after one of them was written.
use Rattle.std.proofs.Common.{◌≡◌, ℕ, ◌+◌, ◌<◌, ◌≤◌, refl, sym, ◌∙◌, ap, subst, List, [], ◌∷◌, ◌++◌, length, take, get_or, Bool, true, false, cond, ◌==◌, arith}
use Rattle.std.specs.Prelude.{option_map, Some, is_some, ◌||◌}
use Rattle.std.specs.List.{list_any}
use Rattle.std.specs.Map.{lookup, keys_of}
use Rattle.std.proofs.Math.Bool.{or-false}
use Rattle.std.proofs.lemmas.Bool.{eq-eqb, eqb-false, eqb-true, false≢true, ne_eqb, or_from, or_left, or_right}
use Rattle.std.proofs.lemmas.List.{take_all, take_more}
use Rattle.std.proofs.lemmas.List.Folds.{list_any-append}
use Rattle.epic_num.specs.declared.name.AsId.{AsId}
use Rattle.epic_num.specs.Same.{same_as}
use Rattle.epic_policer.specs.Accounts.{list_in, used_in}
use Rattle.epic_policer.specs.Offers.{is_among}
use Rattle.epic_policer.specs.declared.accounts.Account.{Account}

-- one name for two sources that are the same
pub same_account : (accounts : List (AsId × Account)) (source s : AsId) → (source.0 == s.0) ≡ true → lookup (λ t. source.0 == t.0) accounts ≡ lookup (λ t. s.0 == t.0) accounts
same_account accounts source s e = ap (λ n. lookup (λ (c : AsId). n == c.0) accounts) (eqb-true source.0 s.0 e)

-- what a write leaves as it was
pub same_read : {X : Type 0} (g : Account → X) (old new : List (AsId × Account)) (source s : AsId) (a b : Account)
    → Some a ≡ lookup (λ t. source.0 == t.0) old
    → lookup (λ t. s.0 == t.0) new ≡ cond (source.0 == s.0) (Some b) (lookup (λ t. s.0 == t.0) old)
    → g b ≡ g a → option_map g (lookup (λ t. s.0 == t.0) new) ≡ option_map g (lookup (λ t. s.0 == t.0) old)
same_read g old new source s a b here is same = ap (option_map g) is ∙ by_test (source.0 == s.0) refl
  where
    by_test : (t : Bool) → (source.0 == s.0) ≡ t → option_map g (cond t (Some b) (lookup (λ u. s.0 == u.0) old)) ≡ option_map g (lookup (λ u. s.0 == u.0) old)
    by_test true e = ap Some same ∙ ap (option_map g) (here ∙ same_account old source s e)
    by_test false e = refl

-- the sources are those that have an account
pub known_by : (accounts : List (AsId × Account)) (s : AsId) → is_among (keys_of accounts) s ≡ is_some (list_in accounts s)
unfolding is_among list_in same_as
known_by [] s = refl
known_by (x ∷ xs) s = by_test (s.0 == x.0.0) (known_by xs s)
  where
    by_test : (t : Bool) → list_any (same_as s) (keys_of xs) ≡ is_some (option_map (λ a. a.list) (lookup (λ u. s.0 == u.0) xs))
        → (t || list_any (same_as s) (keys_of xs)) ≡ is_some (option_map (λ (a : Account). a.list) (cond t (Some x.1) (lookup (λ u. s.0 == u.0) xs)))
    by_test true e = refl
    by_test false e = e

same_number : (i l : ℕ) → Some i ≡ Some l → i ≡ l
same_number i l e = cc

-- the accounts of the first so many sources: each has one, in which nothing is used
abbrev pub IsOpened : List AsId → ℕ → List (AsId × Account) → Type 0
IsOpened sources i accounts =
    ((s : AsId) → is_some (list_in accounts s) ≡ is_among (take i sources) s)
    × ((s : AsId) → used_in accounts s ≡ 0)
    × ((s : AsId) (l : ℕ) → list_in accounts s ≡ Some l → l < length sources)

pub opened_none : (sources : List AsId) (accounts : List (AsId × Account)) → accounts ≡ [] → IsOpened sources 0 accounts
unfolding is_among list_in used_in
opened_none sources accounts none = subst (IsOpened sources 0) (sym none) (λ s. refl, λ s. refl, λ s l e. absurd (false≢true (ap is_some e)))

pub opened_more : (sources : List AsId) (old new : List (AsId × Account)) (i : ℕ) (x d : AsId) → x ≡ get_or sources i d → i < length sources → IsOpened sources i old
    → ((s : AsId) → used_in new s ≡ cond (x.0 == s.0) 0 (used_in old s))
    → ((s : AsId) → list_in new s ≡ cond (x.0 == s.0) (Some i) (list_in old s)) → IsOpened sources (i + 1) new
unfolding is_among same_as
opened_more sources old new i x d here lt o used lists = (known, nothing, inside)
  where
    either : (s : AsId) (b : Bool) → (x.0 == s.0) ≡ b → is_some (cond b (Some i) (list_in old s)) ≡ (is_among (take i sources) s || ((s.0 == x.0) || false))
    either s true e = sym (or_right (is_among (take i sources) s) ((s.0 == x.0) || false) (or_left (s.0 == x.0) false (eq-eqb s.0 x.0 (sym (eqb-true x.0 s.0 e)))))
    either s false e =
        let other : ((s.0 == x.0) || false) ≡ false = or_from (s.0 == x.0) false (ne_eqb s.0 x.0 (λ f. eqb-false x.0 s.0 e (sym f))) refl in
        o.0 s ∙ sym (or-false (is_among (take i sources) s)) ∙ ap (λ b. is_among (take i sources) s || b) (sym other)

    known : (s : AsId) → is_some (list_in new s) ≡ is_among (take (i + 1) sources) s
    known s =
        ap is_some (lists s) ∙ either s (x.0 == s.0) refl ∙ sym (list_any-append (same_as s) (take i sources) (x ∷ []))
        ∙ ap (λ xs. is_among xs s) (sym (take_more sources i d lt ∙ ap (λ y. take i sources ++ y ∷ []) (sym here)))

    unused : (b : Bool) (n : ℕ) → n ≡ 0 → cond b 0 n ≡ 0
    unused true n e = refl
    unused false n e = e

    nothing : (s : AsId) → used_in new s ≡ 0
    nothing s = used s ∙ unused (x.0 == s.0) (used_in old s) (o.1 s)

    within : (s : AsId) (l : ℕ) (b : Bool) → cond b (Some i) (list_in old s) ≡ Some l → l < length sources
    within s l true e = let n = same_number i l e in omega (arith, n, lt)
    within s l false e = o.2 s l e

    inside : (s : AsId) (l : ℕ) → list_in new s ≡ Some l → l < length sources
    inside s l e = within s l (x.0 == s.0) (sym (lists s) ∙ e)

pub opened_all : (sources : List AsId) (accounts : List (AsId × Account)) (i : ℕ) → IsOpened sources i accounts → length sources ≤ i → (s : AsId) → is_some (list_in accounts s) ≡ is_among sources s
opened_all sources accounts i o le s = o.0 s ∙ ap (λ xs. is_among xs s) (take_all i sources le)
