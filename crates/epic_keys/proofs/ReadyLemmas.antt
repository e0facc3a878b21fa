-- The key that is found at the place of a name that was made ready.
use Rattle.std.proofs.Common.{◌≡◌, ◌≢◌, ℕ, Bool, true, false, IsTrue, List, ◌==◌, refl, ap, sym, ◌∙◌, arith}
use Rattle.std.proofs.lemmas.Bool.{cond-false}
use Rattle.std.proofs.lemmas.Bool.Decides.{nat_tests}
use Rattle.epic_num.specs.declared.key_name.KeyName.{KeyName}
use Rattle.epic_num.specs.declared.key_name.KeyName.TheVariants.{Fwd, Field, Dest}
use Rattle.epic_topo.specs.Network.{Network}
use Rattle.epic_keys.specs.Keys.{key, master_key, owner}
use Rattle.epic_keys.specs.Ready.{IsKept, Made, Places, kept_at, key_under, place}

key_is : (t : Network) (name : KeyName) → key_under (master_key t (owner name)) name ≡ key t name
unfolding key key_under owner
key_is t (Fwd a g) = refl
key_is t (Field a src epoch) = refl
key_is t (Dest dst src epoch) = refl

pub at_first : (p : Places) (n : ℕ) → n ≡ 0 → kept_at p n ≡ p.first
unfolding kept_at
at_first p n e = ap (kept_at p) e

pub at_second : (p : Places) (n : ℕ) → n ≡ 1 → kept_at p n ≡ p.second
unfolding kept_at
at_second p n e = ap (kept_at p) e

pub at_third : (p : Places) (n : ℕ) → n ≡ 2 → kept_at p n ≡ p.third
unfolding kept_at
at_third p n e = ap (kept_at p) e

is_other : (n m : ℕ) → n ≢ m → (n == m) ≡ false
is_other n m e = grind (arith, nat_tests)

pub at_fourth : (p : Places) (n : ℕ) → n ≢ 0 → n ≢ 1 → n ≢ 2 → kept_at p n ≡ p.fourth
unfolding kept_at
at_fourth p n zeroth first second =
    cond-false _ _ _ (is_other n 0 zeroth) ∙ (cond-false _ _ _ (is_other n 1 first) ∙ cond-false _ _ _ (is_other n 2 second))

-- what a place holds is the key of the name that is ready there
pub ready_at : (p q : Places) (n : ℕ) (t : Network) (name : KeyName) (m : Made) (k : List ℕ) → p ≡ q → n ≡ place name → kept_at p n ≡ m
    → (IsTrue m.is_made → k ≡ key_under m.master m.name) → IsKept q t name → k ≡ key t name
unfolding IsKept
ready_at p q n t name m k same number held is ready =
    let e = sym held ∙ ((λ i. kept_at (same i) (number i)) ∙ ready) in
    is (ap (λ x. x.is_made) e) ∙ ((λ i. key_under (e i).master (e i).name) ∙ key_is t name)
