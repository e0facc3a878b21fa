-- A host that is put among the others, and what holds of all of them then.
use Rattle.std.proofs.Common.{◌≡◌, ◌≢◌, ℕ, ◌+◌, ◌==◌, ◌≤◌, cond, nat_cmp, is_eq, [], refl, ap, sym, subst, ◌∙◌, ⊎_elim, arith}
use Rattle.std.specs.Prelude.{Option, None, Some, ◌&&◌}
use Rattle.std.specs.BTreeMap.{BTreeMap, Updates, get_by}
use Rattle.std.specs.declared.cmp.Ordering.{Ordering}
use Rattle.std.specs.declared.cmp.Ordering.TheVariants.{Less, Equal, Greater}
use Rattle.std.specs.Ordering.{ordering_then}
use Rattle.std.proofs.lemmas.Bool.{cases_Bool, cond-true, cond-false, both_ways}
use Rattle.std.proofs.lemmas.Bool.Decides.{nat_tests}
use Rattle.epic_num.specs.declared.name.HostId.{HostId}
use Rattle.epic_num.specs.Same.{same_as, same_host}
use Rattle.epic_num.proofs.SameLaws.{same_host-Decides}
use Rattle.epic_topo.specs.Network.{Network}
use Rattle.epic_window.specs.Entries.{Same}
use Rattle.epic_window.proofs.SameEntries.{Same-refl, Same-trans, Same-later}
use Rattle.epic_ends.specs.Destinations.{Destination}
use Rattle.epic_ledger.specs.History.{History}
use Rattle.epic_model.specs.Standing.{StandsFor}
use Rattle.epic_model.specs.Windows.{host_window}
use Rattle.epic_actors.specs.Hosts.{HostTable, host_cmp, host_of, HasHostRoom, HostStandsAt, HostsStandFor}

abbrev pub table : BTreeMap (ℕ × ℕ) Destination → HostTable
table m = record { entries = m.entries }

pub found : (m : BTreeMap (ℕ × ℕ) Destination) (a : HostId) → host_of (table m) a ≡ get_by (host_cmp (a.asn.0, a.host)) m
unfolding host_of
found m a = refl

same_number : (a b : ℕ) → (a == b) ≡ is_eq (nat_cmp a b)
same_number a b = grind (arith, nat_tests)

both_equal : (x y : Ordering) → (is_eq x && is_eq y) ≡ is_eq (ordering_then x y)
both_equal Less y = refl
both_equal Equal y = refl
both_equal Greater y = refl

same_name : (a b : HostId) → same_host a b ≡ is_eq (host_cmp (a.asn.0, a.host) (b.asn.0, b.host))
unfolding same_host same_as
same_name a b =
    ap (λ x. x && a.host == b.host) (same_number a.asn.0 b.asn.0)
    ∙ (ap (λ y. is_eq (nat_cmp a.asn.0 b.asn.0) && y) (same_number a.host b.host)
    ∙ both_equal (nat_cmp a.asn.0 b.asn.0) (nat_cmp a.host b.host))

put : (old new : BTreeMap (ℕ × ℕ) Destination) (a : HostId) (r : Destination) → Updates host_cmp old new (a.asn.0, a.host) (Some r)
    → (b : HostId) → host_of (table new) b ≡ cond (same_host a b) (Some r) (host_of (table old) b)
unfolding host_of
put old new a r updates b = updates.0 (b.asn.0, b.host) ∙ ap (λ t. cond t (Some r) (get_by (host_cmp (b.asn.0, b.host)) old)) (sym (same_name a b))

-- what holds of the host that was put, and of the others before, holds of all
pub each : (P : HostId → Option Destination → Type 0) (old new : BTreeMap (ℕ × ℕ) Destination) (a : HostId) (r : Destination) → Updates host_cmp old new (a.asn.0, a.host) (Some r)
    → P a (Some r) → ((b : HostId) → a ≢ b → P b (host_of (table old) b)) → (b : HostId) → P b (host_of (table new) b)
each P old new a r updates here there b =
    ⊎_elim
    (λ same. (let is = (same_host-Decides a b).0 same in
    subst (P b) (sym (put old new a r updates b ∙ cond-true (same_host a b) (Some r) (host_of (table old) b) same)) (subst (λ c. P c (Some r)) is here)))
    (λ other. subst (P b) (sym (put old new a r updates b ∙ cond-false (same_host a b) (Some r) (host_of (table old) b) other))
    (there b (λ e. both_ways (same_host a b) other ((same_host-Decides a b).1 e))))
    (cases_Bool (same_host a b))

-- nothing changed
pub unchanged : (old new : BTreeMap (ℕ × ℕ) Destination) → new.entries ≡ old.entries → table new ≡ table old
unchanged old new same i = record { entries = same i }

-- ---- windows

-- with more room a window stands for the same
pub grown_stands : (t : Network) (now : ℕ) (h : History) (a : HostId) (old new : Destination)
    → Same old.window.profile old.window.latest new.window.entries old.window.entries
    → new.window.latest ≡ old.window.latest → new.window.profile ≡ old.window.profile → new.host ≡ old.host
    → HostStandsAt t now h a (Some old) → HostStandsAt t now h a (Some new)
grown_stands t now h a old new same latest profile host s = (
  host ∙ s.0,
  record {
    tells = Same-trans t.profile now new.window.entries old.window.entries (host_window h a)
        (Same-later t.profile old.window.latest now new.window.entries old.window.entries s.1.latest
        (subst (λ p. Same p old.window.latest new.window.entries old.window.entries) s.1.profile same))
        s.1.tells;
    profile = profile ∙ s.1.profile;
    latest = subst (λ n. n ≤ now) (sym latest) s.1.latest;
  },
)

-- a new one stands for nothing
pub new_stands : (t : Network) (now : ℕ) (h : History) (a : HostId) (r : Destination) → r.host ≡ a → r.window.profile ≡ t.profile → r.window.entries ≡ [] → r.window.latest ≡ 0
    → HostStandsAt t now h a None → HostStandsAt t now h a (Some r)
new_stands t now h a r host profile entries latest none = (
  host,
  record {
    tells = subst (λ es. Same t.profile now r.window.entries es) (entries ∙ sym none) (Same-refl t.profile now r.window.entries);
    profile = profile;
    latest = subst (λ n. n ≤ now) (sym latest) (omega arith);
  },
)

-- ---- all hosts

-- the ledger tells the same of the AS
pub moved_stands : (t : Network) (now : ℕ) (h g : History) (b : HostId) (o : Option Destination) → host_window g b ≡ host_window h b → HostStandsAt t now h b o → HostStandsAt t now g b o
moved_stands t now h g b None same s = same ∙ s
moved_stands t now h g b (Some r) same s = (s.0, subst (StandsFor t now r.window) (sym same) s.1)

less_room : (o : Option Destination) (n m : ℕ) → m ≤ n → HasHostRoom n o → HasHostRoom m o
less_room None n m le h = h
less_room (Some r) n m le h = omega (arith, le, h)

-- the host that was put has as much room, but for so much
pub rooms_kept : (old new : BTreeMap (ℕ × ℕ) Destination) (a : HostId) (r s : Destination) (less : ℕ) → host_of (table old) a ≡ Some r → Updates host_cmp old new (a.asn.0, a.host) (Some s)
    → r.window.spare ≤ s.window.spare + less → (b : HostId) (n m : ℕ) → m + less ≤ n → HasHostRoom n (host_of (table old) b) → HasHostRoom m (host_of (table new) b)
rooms_kept old new a r s less was updates few b n m le =
    each (λ b o. HasHostRoom n (host_of (table old) b) → HasHostRoom m o) old new a s updates
    (λ h. (let had : n ≤ r.window.spare = subst (HasHostRoom n) was h in omega (arith, had, few, le)))
    (λ b other h. less_room (host_of (table old) b) n m (omega (arith, le)) h) b

-- a new one takes none away
pub rooms_new : (old new : BTreeMap (ℕ × ℕ) Destination) (a : HostId) (s : Destination) → host_of (table old) a ≡ None → Updates host_cmp old new (a.asn.0, a.host) (Some s)
    → (b : HostId) (m : ℕ) → HasHostRoom m (host_of (table old) b) → HasHostRoom m (host_of (table new) b)
rooms_new old new a s was updates b m =
    each (λ b o. HasHostRoom m (host_of (table old) b) → HasHostRoom m o) old new a s updates
    (λ h. absurd (subst (HasHostRoom m) was h))
    (λ b other h. h) b

pub all_stand : (t : Network) (now : ℕ) (h g : History) (old new : BTreeMap (ℕ × ℕ) Destination) (a : HostId) (s : Destination) → Updates host_cmp old new (a.asn.0, a.host) (Some s)
    → ((b : HostId) → a ≢ b → host_window g b ≡ host_window h b)
    → HostStandsAt t now g a (Some s) → HostsStandFor t now (table old) h → HostsStandFor t now (table new) g
all_stand t now h g old new a s updates others here stand =
    each (HostStandsAt t now g) old new a s updates here (λ b other. moved_stands t now h g b (host_of (table old) b) (others b other) (stand b))

pub put_here : (old new : BTreeMap (ℕ × ℕ) Destination) (a : HostId) (s : Destination) → Updates host_cmp old new (a.asn.0, a.host) (Some s) → host_of (table new) a ≡ Some s
unfolding host_of
put_here old new a s updates = updates.1
