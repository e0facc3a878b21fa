-- A generation that was put into the map of generations.
use Rattle.std.proofs.Common.{◌≡◌, ℕ, ◌+◌, Bool, true, false, cond, ◌==◌, nat_cmp, is_eq, refl, ap, sym, ◌∙◌, arith}
use Rattle.std.specs.Prelude.{Option, Some, Result, Ok, Err, unwrap_or, if◌then◌else◌}
use Rattle.std.specs.BTreeMap.{BTreeMap, Updates, IsUnchanged}
use Rattle.std.proofs.lemmas.Bool.{eqb-true}
use Rattle.std.proofs.lemmas.Bool.Decides.{nat_tests}
use Rattle.epic_num.specs.declared.memory.OutOfMemory.{OutOfMemory}
use Rattle.epic_num.specs.declared.name.AsId.{AsId}
use Rattle.epic_num.specs.Same.{same_as}
use Rattle.epic_beacon.specs.Store.{Store, Rolls, generation_in}

same_number : (a b : ℕ) → (a == b) ≡ is_eq (nat_cmp a b)
same_number a b = grind (arith, nat_tests)

chosen : (t : Bool) (g : ℕ) (o : Option ℕ) → unwrap_or (cond t (Some g) o) 0 ≡ (if t then g else unwrap_or o 0)
chosen true g o = refl
chosen false g o = refl

put : (old new : BTreeMap ℕ ℕ) (a : AsId) (g : ℕ) → Updates nat_cmp old new a.0 (Some g)
    → (b : AsId) → generation_in new.entries b ≡ (if same_as a b then g else generation_in old.entries b)
unfolding generation_in same_as
put old new a g updates b =
    ap (λ o. unwrap_or o 0) (updates.0 b.0)
    ∙ (chosen (is_eq (nat_cmp a.0 b.0)) g _
    ∙ ap (λ t. if t then g else generation_in old.entries b) (sym (same_number a.0 b.0)))

pub rolled : (old new : BTreeMap ℕ ℕ) (a : AsId) → Updates nat_cmp old new a.0 (Some (generation_in old.entries a + 1))
    → (b : AsId) → generation_in new.entries b ≡ (if same_as a b then generation_in old.entries b + 1 else generation_in old.entries b)
unfolding same_as
rolled old new a updates b = put old new a (generation_in old.entries a + 1) updates b ∙ by (a.0 == b.0) refl
  where
    by : (t : Bool) → (a.0 == b.0) ≡ t
        → (if t then generation_in old.entries a + 1 else generation_in old.entries b) ≡ (if t then generation_in old.entries b + 1 else generation_in old.entries b)
    by false e = refl
    by true e = ap (λ n. generation_in old.entries (record { 0 = n }) + 1) (eqb-true a.0 b.0 e)

pub unrolled : (old new : BTreeMap ℕ ℕ) → IsUnchanged old new → (b : AsId) → generation_in new.entries b ≡ generation_in old.entries b
unfolding generation_in
unrolled old new same b = rw same refl

-- the beacons stay, whatever a roll answers
pub beacons_stay : (old new : Store) (a : AsId) (answer : Result ℕ OutOfMemory) → Rolls old new a answer → new.beacons ≡ old.beacons
beacons_stay old new a (Ok g) h = ap (λ (s : Store). s.beacons) h.1
beacons_stay old new a (Err e) h = ap (λ (s : Store). s.beacons) h
