-- The ordered set of fetches, read as a set.
use Rattle.std.proofs.Common.{◌≡◌, ℕ, Bool, true, false, cond, ◌||◌, ◌&&◌, ◌==◌, nat_cmp, is_eq, refl, ap, sym, ◌∙◌, arith}
use Rattle.std.specs.BTreeSet.{IsEmpty, IsUnchanged, Updates}
use Rattle.std.specs.Cmp.{both_tied}
use Rattle.std.proofs.lemmas.Bool.Decides.{nat_tests}
use Rattle.epic_num.specs.Same.{same_as}
use Rattle.epic_keys.specs.Fetches.{Fetch, FetchSet, Adds, IsNone, Keeps, fetch_cmp, is_fetched, same_fetch}

same_number : (a b : ℕ) → (a == b) ≡ is_eq (nat_cmp a b)
same_number a b = grind (arith, nat_tests)

tied : (f g : Fetch) → same_fetch f g ≡ is_eq (fetch_cmp (f.source.0, f.owner.0, f.epoch) (g.source.0, g.owner.0, g.epoch))
unfolding same_fetch same_as
tied f g =
    both_tied (f.source.0 == g.source.0 && f.owner.0 == g.owner.0) (f.epoch == g.epoch) _ (nat_cmp f.epoch g.epoch)
    (both_tied (f.source.0 == g.source.0) (f.owner.0 == g.owner.0) (nat_cmp f.source.0 g.source.0) (nat_cmp f.owner.0 g.owner.0)
    (same_number f.source.0 g.source.0) (same_number f.owner.0 g.owner.0))
    (same_number f.epoch g.epoch)

either : (b x : Bool) → cond b true x ≡ (b || x)
either true x = refl
either false x = refl

-- an empty set has no fetch
pub none_fetched : (set : FetchSet) → IsEmpty set → IsNone (is_fetched set)
unfolding is_fetched
none_fetched set empty f = rw empty refl

-- a set with the same keys has the same fetches
pub same_fetched : (old new : FetchSet) → IsUnchanged old new → Keeps (is_fetched old) (is_fetched new)
unfolding is_fetched
same_fetched old new same f = rw same refl

-- a set into which a fetch was put has it besides
pub added_fetch : (old new : FetchSet) (fetch : Fetch)
    → Updates fetch_cmp old new (fetch.source.0, fetch.owner.0, fetch.epoch) true → Adds (is_fetched old) (is_fetched new) fetch
unfolding is_fetched
added_fetch old new fetch updates f =
    updates.0 (f.source.0, f.owner.0, f.epoch)
    ∙ (either (is_eq (fetch_cmp (fetch.source.0, fetch.owner.0, fetch.epoch) (f.source.0, f.owner.0, f.epoch))) (is_fetched old f)
    ∙ ap (λ b. b || is_fetched old f) (sym (tied fetch f)))
