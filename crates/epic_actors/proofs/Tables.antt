-- A router that is put among the others, and what holds of all of them then.
use Rattle.std.proofs.Common.{◌≡◌, ◌≢◌, ℕ, ◌+◌, ◌==◌, ◌≤◌, cond, nat_cmp, is_eq, [], refl, ap, sym, subst, ◌∙◌, ⊎_elim, arith}
use Rattle.std.specs.Prelude.{Option, None, Some, Result, Ok, Err, OnOk}
use Rattle.std.specs.BTreeMap.{BTreeMap, Updates, get_by}
use Rattle.std.proofs.lemmas.Bool.{cases_Bool, cond-true, cond-false, both_ways}
use Rattle.std.proofs.lemmas.Bool.Decides.{nat_tests}
use Rattle.epic_num.specs.declared.memory.OutOfMemory.{OutOfMemory}
use Rattle.epic_num.specs.declared.name.AsId.{AsId}
use Rattle.epic_num.specs.Same.{same_as}
use Rattle.epic_num.proofs.SameLaws.{same_as-Decides}
use Rattle.epic_topo.specs.Network.{Network}
use Rattle.epic_window.specs.Entries.{Same}
use Rattle.epic_window.proofs.SameEntries.{Same-refl, Same-trans, Same-later}
use Rattle.epic_router.specs.Routers.{RouterState}
use Rattle.epic_ledger.specs.History.{History}
use Rattle.epic_model.specs.Standing.{StandsFor}
use Rattle.epic_model.specs.Windows.{router_window}
use Rattle.epic_actors.specs.Routers.{RouterTable, router_of, HasRoom, StandsAt, RoutersStandFor}

abbrev pub table : BTreeMap ℕ RouterState → RouterTable
table m = record { entries = m.entries }

pub found : (m : BTreeMap ℕ RouterState) (a : AsId) → router_of (table m) a ≡ get_by (nat_cmp a.0) m
unfolding router_of
found m a = refl

same_number : (a b : ℕ) → (a == b) ≡ is_eq (nat_cmp a b)
same_number a b = grind (arith, nat_tests)

put : (old new : BTreeMap ℕ RouterState) (a : AsId) (r : RouterState) → Updates nat_cmp old new a.0 (Some r)
    → (b : AsId) → router_of (table new) b ≡ cond (same_as a b) (Some r) (router_of (table old) b)
unfolding router_of same_as
put old new a r updates b = updates.0 b.0 ∙ ap (λ t. cond t (Some r) (get_by (nat_cmp b.0) old)) (sym (same_number a.0 b.0))

-- what holds of the router that was put, and of the others before, holds of all
pub each : (P : AsId → Option RouterState → Type 0) (old new : BTreeMap ℕ RouterState) (a : AsId) (r : RouterState) → Updates nat_cmp old new a.0 (Some r)
    → P a (Some r) → ((b : AsId) → a ≢ b → P b (router_of (table old) b)) → (b : AsId) → P b (router_of (table new) b)
each P old new a r updates here there b =
    ⊎_elim
    (λ same. (let is = (same_as-Decides a b).0 same in
    subst (P b) (sym (put old new a r updates b ∙ cond-true (same_as a b) (Some r) (router_of (table old) b) same)) (subst (λ c. P c (Some r)) is here)))
    (λ other. subst (P b) (sym (put old new a r updates b ∙ cond-false (same_as a b) (Some r) (router_of (table old) b) other))
    (there b (λ e. both_ways (same_as a b) other ((same_as-Decides a b).1 e))))
    (cases_Bool (same_as a b))

-- nothing changed
pub unchanged : (old new : BTreeMap ℕ RouterState) → new.entries ≡ old.entries → table new ≡ table old
unchanged old new same i = record { entries = same i }

-- ---- windows

-- with more room a window stands for the same
pub grown_stands : (t : Network) (now : ℕ) (h : History) (a : AsId) (old new : RouterState)
    → Same old.window.profile old.window.latest new.window.entries old.window.entries
    → new.window.latest ≡ old.window.latest → new.window.profile ≡ old.window.profile → new.asn ≡ old.asn
    → StandsAt t now h a (Some old) → StandsAt t now h a (Some new)
grown_stands t now h a old new same latest profile asn s = (
  asn ∙ s.0,
  record {
    tells = Same-trans t.profile now new.window.entries old.window.entries (router_window h a)
        (Same-later t.profile old.window.latest now new.window.entries old.window.entries s.1.latest
        (subst (λ p. Same p old.window.latest new.window.entries old.window.entries) s.1.profile same))
        s.1.tells;
    profile = profile ∙ s.1.profile;
    latest = subst (λ n. n ≤ now) (sym latest) s.1.latest;
  },
)

-- a new one stands for nothing
pub new_stands : (t : Network) (now : ℕ) (h : History) (a : AsId) (r : RouterState) → r.asn ≡ a → r.window.profile ≡ t.profile → r.window.entries ≡ [] → r.window.latest ≡ 0
    → StandsAt t now h a None → StandsAt t now h a (Some r)
new_stands t now h a r asn profile entries latest none = (
  asn,
  record {
    tells = subst (λ es. Same t.profile now r.window.entries es) (entries ∙ sym none) (Same-refl t.profile now r.window.entries);
    profile = profile;
    latest = subst (λ n. n ≤ now) (sym latest) (omega arith);
  },
)

-- ---- all routers

-- the ledger tells the same of the AS
pub moved_stands : (t : Network) (now : ℕ) (h g : History) (b : AsId) (o : Option RouterState) → router_window g b ≡ router_window h b → StandsAt t now h b o → StandsAt t now g b o
moved_stands t now h g b None same s = same ∙ s
moved_stands t now h g b (Some r) same s = (s.0, subst (StandsFor t now r.window) (sym same) s.1)

less_room : (o : Option RouterState) (n m : ℕ) → m ≤ n → HasRoom n o → HasRoom m o
less_room None n m le h = h
less_room (Some r) n m le h = omega (arith, le, h)

-- the router that was put has as much room, but for so much
pub rooms_kept : (old new : BTreeMap ℕ RouterState) (a : AsId) (r s : RouterState) (less : ℕ) → router_of (table old) a ≡ Some r → Updates nat_cmp old new a.0 (Some s)
    → r.window.spare ≤ s.window.spare + less → (b : AsId) (n m : ℕ) → m + less ≤ n → HasRoom n (router_of (table old) b) → HasRoom m (router_of (table new) b)
rooms_kept old new a r s less was updates few b n m le =
    each (λ b o. HasRoom n (router_of (table old) b) → HasRoom m o) old new a s updates
    (λ h. (let had : n ≤ r.window.spare = subst (HasRoom n) was h in omega (arith, had, few, le)))
    (λ b other h. less_room (router_of (table old) b) n m (omega (arith, le)) h) b

-- a new one takes none away
pub rooms_new : (old new : BTreeMap ℕ RouterState) (a : AsId) (s : RouterState) → router_of (table old) a ≡ None → Updates nat_cmp old new a.0 (Some s)
    → (b : AsId) (m : ℕ) → HasRoom m (router_of (table old) b) → HasRoom m (router_of (table new) b)
rooms_new old new a s was updates b m =
    each (λ b o. HasRoom m (router_of (table old) b) → HasRoom m o) old new a s updates
    (λ h. absurd (subst (HasRoom m) was h))
    (λ b other h. h) b

pub all_stand : (t : Network) (now : ℕ) (h g : History) (old new : BTreeMap ℕ RouterState) (a : AsId) (s : RouterState) → Updates nat_cmp old new a.0 (Some s)
    → ((b : AsId) → a ≢ b → router_window g b ≡ router_window h b)
    → StandsAt t now g a (Some s) → RoutersStandFor t now (table old) h → RoutersStandFor t now (table new) g
all_stand t now h g old new a s updates others here stand =
    each (StandsAt t now g) old new a s updates here (λ b other. moved_stands t now h g b (router_of (table old) b) (others b other) (stand b))

pub put_here : (old new : BTreeMap ℕ RouterState) (a : AsId) (s : RouterState) → Updates nat_cmp old new a.0 (Some s) → router_of (table new) a ≡ Some s
unfolding router_of
put_here old new a s updates = updates.1

pub on_ok : {P Q : Type 0} (r : Result (Unit {0}) OutOfMemory) → (P → Q) → OnOk r P → OnOk r Q
on_ok (Ok x) f p = f p
on_ok (Err e) f p = p
