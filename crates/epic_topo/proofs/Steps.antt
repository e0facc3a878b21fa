-- Steps of reading: what a step's value keeps, and what the answer of code says of it.
use Rattle.std.proofs.Common.{◌≡◌, ℕ, ◌≤◌, ℤ, pos, negsuc, Bool, true, false, ◌&&◌, nat_le, Option, Some, None, Result, Ok, Err, IfOk, refl, ap, subst}
use Rattle.std.proofs.lemmas.Bool.{and_parts, cond_both, leb-true}
use Rattle.epic_topo.specs.Reading.{Gives, ◌>>=◌, fails, in_range, only_if, or_fails}
use Rattle.epic_topo.specs.declared.fault.TopoError.{TopoError}
use Rattle.epic_topo.specs.declared.fault.TopoError.TheVariants.{Bad, OutOfMemory}
use Rattle.epic_topo.specs.declared.fault.TopoKey.{TopoKey}
use Rattle.epic_topo.specs.declared.fault.TopoKind.{TopoKind}

-- ---- what holds of the value that a step gives

pub after : {A B : Type 0} (r : Result A TopoError) (f : A → Result B TopoError) (P : B → Type 0)
    → ((x : A) → r ≡ Ok x → IfOk (f x) P) → IfOk (r >>= f) P
after (Ok x) f P h = h x refl
after (Err e) f P h = tt

pub at_ok : {A : Type 0} (P : A → Type 0) (r : Result A TopoError) (x : A) → r ≡ Ok x → IfOk r P → P x
at_ok P (Ok y) x e h = let same : y ≡ x = cc in let Q = P in subst Q same h
at_ok P (Err d) x e h = absurd (cc)

-- a value that was taken is there
pub there : {A : Type 0} (kind : TopoKind) (key : TopoKey) (place : ℕ) (o : Option A) (x : A) → or_fails kind key place o ≡ Ok x → o ≡ Some x
there kind key place None x e = absurd (cc)
there kind key place (Some y) x e = (cc)

pub if_passed : {A : Type 0} (test : Bool) (kind : TopoKind) (key : TopoKey) (place : ℕ) (x y : A)
    → only_if test kind key place x ≡ Ok y → (test ≡ true) × (x ≡ y)
if_passed true kind key place x y e = (refl, cc)
if_passed false kind key place x y e = absurd (cc)

-- a number that was taken is in its range
pub ranged : (kind : TopoKind) (key : TopoKey) (place least most : ℕ) (z : ℤ)
    → IfOk (in_range kind key place least most z) (λ n. (least ≤ n) × (n ≤ most))
ranged kind key place least most (pos n) =
    cond_both (nat_le least n && nat_le n most) (Ok n) (fails kind key place)
    (λ r. IfOk r (λ k. (least ≤ k) × (k ≤ most)))
    (λ e. let parts = and_parts _ _ e in (leb-true least n parts.0, leb-true n most parts.1))
    (λ e. tt)
ranged kind key place least most (negsuc n) = tt

-- ---- what the answer of code says

pub gives_equal : {A : Type 0} (read r : Result A TopoError) → read ≡ r → Gives read r
gives_equal read (Ok x) e = e
gives_equal read (Err OutOfMemory) e = tt
gives_equal read (Err (Bad kind key place)) e = e

-- a step's fault is the fault of the whole
pub gives_fault : {A B : Type 0} (read : Result A TopoError) (f : A → Result B TopoError) (e : TopoError)
    → Gives read (Err e) → Gives (read >>= f) (Err e)
gives_fault read f OutOfMemory h = tt
gives_fault read f (Bad kind key place) h = ap (λ r. r >>= f) h

pub gives_memory : {A : Type 0} (read : Result A TopoError) (e : TopoError) → e ≡ OutOfMemory → Gives read (Err e)
gives_memory read OutOfMemory h = tt
gives_memory read (Bad kind key place) h = absurd (cc)
