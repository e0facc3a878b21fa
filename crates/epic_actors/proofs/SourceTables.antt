-- A source that is put among the others, and what holds of all of them then.
use Rattle.std.proofs.Common.{◌≡◌, ◌≢◌, ℕ, ◌==◌, false, cond, nat_cmp, is_eq, List, refl, ap, sym, subst, ◌∙◌, ⊎_elim, arith}
use Rattle.std.specs.Prelude.{Option, None, Some, IsSome, is_some, ◌&&◌, Result, Ok, Err, IfOk, IfErr}
use Rattle.std.specs.BTreeMap.{BTreeMap, Updates, get_by}
use Rattle.std.specs.declared.cmp.Ordering.{Ordering}
use Rattle.std.specs.declared.cmp.Ordering.TheVariants.{Less, Equal, Greater}
use Rattle.std.specs.Ordering.{ordering_then}
use Rattle.std.proofs.lemmas.Bool.{cases_Bool, cond-true, cond-false, both_ways}
use Rattle.std.proofs.lemmas.Bool.Decides.{nat_tests}
use Rattle.epic_num.specs.declared.name.HostId.{HostId}
use Rattle.epic_num.specs.declared.hop.Level.{Level}
use Rattle.epic_num.specs.declared.segment.Leg.{Leg}
use Rattle.epic_num.specs.Levels.{first_byte}
use Rattle.epic_num.specs.Same.{same_as, same_host}
use Rattle.epic_num.proofs.SameLaws.{same_host-Decides}
use Rattle.epic_topo.specs.Network.{Network}
use Rattle.epic_keys.specs.Fetches.{FetchSet, is_fetched}
use Rattle.epic_ends.specs.Sources.{Sender, answer}
use Rattle.epic_ledger.specs.History.{History}
use Rattle.epic_ledger.specs.Facts.{sends_in}
use Rattle.epic_model.specs.Keeping.{latest_sent}
use Rattle.epic_model.specs.Steps.{ts_next, has_keys, admission}
use Rattle.epic_actors.specs.Hosts.{host_cmp}
use Rattle.epic_actors.specs.Sources.{SourceTable, source_of, SourceStandsAt, SourcesStandFor, IsLatest, KeysStandFor, state_at}

abbrev pub table : BTreeMap (ℕ × ℕ) Sender → SourceTable
table m = record { entries = m.entries }

pub found : (m : BTreeMap (ℕ × ℕ) Sender) (a : HostId) → source_of (table m) a ≡ get_by (host_cmp (a.asn.0, a.host)) m
unfolding source_of
found m a = refl

same_number : (a b : ℕ) → (a == b) ≡ is_eq (nat_cmp a b)
same_number a b = grind (arith, nat_tests)

both_equal : (x y : Ordering) → (is_eq x && is_eq y) ≡ is_eq (ordering_then x y)
both_equal Less y = refl
both_equal Equal y = refl
both_equal Greater y = refl

same_name : (a b : HostId) → same_host a b ≡ is_eq (host_cmp (a.asn.0, a.host) (b.asn.0, b.host))
unfolding same_host same_as
same_name a b =
    ap (λ x. x && a.host == b.host) (same_number a.asn.0 b.asn.0)
    ∙ (ap (λ y. is_eq (nat_cmp a.asn.0 b.asn.0) && y) (same_number a.host b.host)
    ∙ both_equal (nat_cmp a.asn.0 b.asn.0) (nat_cmp a.host b.host))

put : (old new : BTreeMap (ℕ × ℕ) Sender) (a : HostId) (r : Sender) → Updates host_cmp old new (a.asn.0, a.host) (Some r)
    → (b : HostId) → source_of (table new) b ≡ cond (same_host a b) (Some r) (source_of (table old) b)
unfolding source_of
put old new a r updates b = updates.0 (b.asn.0, b.host) ∙ ap (λ t. cond t (Some r) (get_by (host_cmp (b.asn.0, b.host)) old)) (sym (same_name a b))

-- what holds of the source that was put, and of the others before, holds of all
pub each : (P : HostId → Option Sender → Type 0) (old new : BTreeMap (ℕ × ℕ) Sender) (a : HostId) (r : Sender) → Updates host_cmp old new (a.asn.0, a.host) (Some r)
    → P a (Some r) → ((b : HostId) → a ≢ b → P b (source_of (table old) b)) → (b : HostId) → P b (source_of (table new) b)
each P old new a r updates here there b =
    ⊎_elim
    (λ same. (let is = (same_host-Decides a b).0 same in
    subst (P b) (sym (put old new a r updates b ∙ cond-true (same_host a b) (Some r) (source_of (table old) b) same)) (subst (λ c. P c (Some r)) is here)))
    (λ other. subst (P b) (sym (put old new a r updates b ∙ cond-false (same_host a b) (Some r) (source_of (table old) b) other))
    (there b (λ e. both_ways (same_host a b) other ((same_host-Decides a b).1 e))))
    (cases_Bool (same_host a b))

-- nothing changed
pub unchanged : (old new : BTreeMap (ℕ × ℕ) Sender) → new.entries ≡ old.entries → table new ≡ table old
unchanged old new same i = record { entries = same i }

pub put_here : (old new : BTreeMap (ℕ × ℕ) Sender) (a : HostId) (s : Sender) → Updates host_cmp old new (a.asn.0, a.host) (Some s) → source_of (table new) a ≡ Some s
unfolding source_of
put_here old new a s updates = updates.1

-- ---- all sources

-- no source is lost
pub none_lost : (old new : BTreeMap (ℕ × ℕ) Sender) (a : HostId) (s : Sender) → Updates host_cmp old new (a.asn.0, a.host) (Some s)
    → (b : HostId) → IsSome (source_of (table old) b) → IsSome (source_of (table new) b)
none_lost old new a s updates = each (λ b o. IsSome (source_of (table old) b) → IsSome o) old new a s updates (λ h. refl) (λ b other h. h)

-- a new source stands for no packet
pub new_stands : (old new : BTreeMap (ℕ × ℕ) Sender) (a : HostId) (s : Sender) → Updates host_cmp old new (a.asn.0, a.host) (Some s)
    → s ≡ record { host = a; last = None } → source_of (table old) a ≡ None → (h : History) → SourcesStandFor (table old) h → SourcesStandFor (table new) h
new_stands old new a s updates is was h stand =
    let none : latest_sent (sends_in h) a ≡ None = subst (SourceStandsAt h a) was (stand a) in
    each (SourceStandsAt h) old new a s updates (is ∙ (λ i. record { host = a; last = sym none i })) (λ b other. stand b)

-- the ledger tells the same of the host
pub moved_stands : (h g : History) (b : HostId) (o : Option Sender) → latest_sent (sends_in g) b ≡ latest_sent (sends_in h) b → SourceStandsAt h b o → SourceStandsAt g b o
moved_stands h g b None same s = same ∙ s
moved_stands h g b (Some r) same s = s ∙ (λ i. record { host = b; last = sym same i })

-- the source of a packet that was sent
pub sends_stand : (old new : BTreeMap (ℕ × ℕ) Sender) (a : HostId) (s : Sender) (ts : ℕ) (h g : History)
    → Updates host_cmp old new (a.asn.0, a.host) (Some s) → s ≡ record { host = a; last = Some ts } → IsLatest a ts h g
    → SourcesStandFor (table old) h → SourcesStandFor (table new) g
sends_stand old new a s ts h g updates is latest stand =
    each (SourceStandsAt g) old new a s updates
    (is ∙ (λ i. record { host = a; last = sym latest.here i }))
    (λ b other. moved_stands h g b (source_of (table old) b) (latest.others b other) (stand b))

-- one that is as before
pub same_stands : (old new : BTreeMap (ℕ × ℕ) Sender) (a : HostId) (s : Sender) (h : History)
    → Updates host_cmp old new (a.asn.0, a.host) (Some s) → source_of (table old) a ≡ Some s
    → SourcesStandFor (table old) h → SourcesStandFor (table new) h
same_stands old new a s h updates was stand =
    each (SourceStandsAt h) old new a s updates (subst (SourceStandsAt h a) was (stand a)) (λ b other. stand b)

-- ---- what a source answers

-- a source that stands for the ledger
pub own_is : (m : BTreeMap (ℕ × ℕ) Sender) (a : HostId) (s : Sender) (h : History) → source_of (table m) a ≡ Some s → SourcesStandFor (table m) h
    → s ≡ record { host = a; last = latest_sent (sends_in h) a }
own_is m a s h was stand = subst (SourceStandsAt h a) was (stand a)

pub answer_is : (t : Network) (now : ℕ) (h : History) (keys : FetchSet) (version : ℕ) (level : Level) (src dst : HostId) (payload : List ℕ) (legs : List Leg) (s : Sender)
    → s ≡ record { host = src; last = latest_sent (sends_in h) src } → KeysStandFor keys h → (steps : ℕ)
    → answer t (is_fetched keys) s legs (first_byte version level) dst payload now ≡ admission t (state_at now steps h) version level src dst payload legs
unfolding answer admission has_keys ts_next
answer_is t now h keys version level src dst payload legs s is stand steps =
    λ i. answer t (λ f. stand f i) (is i) legs (first_byte version level) dst payload now

-- ---- results

pub none_of : {X : Type 0} (o : Option X) → is_some o ≡ false → o ≡ None
none_of None e = refl
none_of (Some x) e = absurd (cc)

pub if_ok : {X E : Type 0} {P Q : X → Type 0} (r : Result X E) → ((x : X) → P x → Q x) → IfOk r P → IfOk r Q
if_ok (Ok x) f p = f x p
if_ok (Err e) f p = p

pub if_err : {X E : Type 0} {P Q : E → Type 0} (r : Result X E) → ((e : E) → P e → Q e) → IfErr r P → IfErr r Q
if_err (Ok x) f p = p
if_err (Err e) f p = f e p
