use Rattle.std.proofs.Common.{◌≡◌, refl, sym, subst, ap, ◌∙◌, arith}
use Rattle.std.specs.Prelude.{None, Some, is_some}
use Rattle.std.specs.BTreeMap.{Updates}
use Rattle.epic_actors.specs.Hosts.{host_cmp, HasHostRoom, HostsStandFor, HostStandsAt, host_of}
use Rattle.epic_actors.proofs.HostTables.{table, found, put_here, rooms_kept, rooms_new, all_stand, grown_stands, new_stands, unchanged}
use Rattle.epic_actors.proofs.Tables.{on_ok}
use Rattle.epic_actors.proofs.hosts.Hosts.ready.Goals as goal
use Rattle.epic_actors.proofs.hosts.Hosts.ready.Goals.{in-Err-2, in-Ok-1}

-- ---- the AS has a router

pub returns-in-Some-clause-room : goal.returns-in-Some-clause-room
returns-in-Some-clause-room c =
    let m = c.self.inside.by_name in
    let s = c.reserve.new.self in
    let updates : Updates host_cmp m (c.get_mut.follows.lender s) (c.args.host.asn.0, c.args.host.host) (Some s) = (c.get_mut.follows.holds s).3 (ap is_some (sym c.in-Some.ensures.value)) in
    on_ok c.reserve.result (λ h. subst (HasHostRoom c.args.n) (sym (put_here m (c.get_mut.follows.lender s) c.args.host s updates)) h) c.reserve.ensures.room

pub returns-in-Some-clause-succeeds : goal.returns-in-Some-clause-succeeds
returns-in-Some-clause-succeeds c =
    let m = c.self.inside.by_name in
    let was : host_of (table m) c.args.host ≡ Some c.in-Some.there.now = found m c.args.host ∙ sym c.in-Some.ensures.value in
    λ h. c.reserve.ensures.succeeds (subst (HasHostRoom c.args.n) (ap (λ v. host_of v c.args.host) (sym c.self.view_is) ∙ was) h)

pub returns-in-Some-clause-kept : goal.returns-in-Some-clause-kept
returns-in-Some-clause-kept c =
    let m = c.self.inside.by_name in
    let r = c.in-Some.there.now in
    let s = c.reserve.new.self in
    let was : host_of (table m) c.args.host ≡ Some r = found m c.args.host ∙ sym c.in-Some.ensures.value in
    let updates : Updates host_cmp m (c.get_mut.follows.lender s) (c.args.host.asn.0, c.args.host.host) (Some s) = (c.get_mut.follows.holds s).3 (ap is_some (sym c.in-Some.ensures.value)) in
    λ b k h. rooms_kept m (c.get_mut.follows.lender s) c.args.host r s 0 was updates (omega (arith, c.reserve.ensures.kept)) b k k (omega arith)
    (subst (λ v. HasHostRoom k (host_of v b)) (sym c.self.view_is) h)

pub returns-in-Some-clause-stand : goal.returns-in-Some-clause-stand
returns-in-Some-clause-stand c =
    let m = c.self.inside.by_name in
    let r = c.in-Some.there.now in
    let s = c.reserve.new.self in
    let t = c.args.topo.now in
    let was : host_of (table m) c.args.host ≡ Some r = found m c.args.host ∙ sym c.in-Some.ensures.value in
    let updates : Updates host_cmp m (c.get_mut.follows.lender s) (c.args.host.asn.0, c.args.host.host) (Some s) = (c.get_mut.follows.holds s).3 (ap is_some (sym c.in-Some.ensures.value)) in
    λ now h stand.
    let before : HostsStandFor t now (table m) h = subst (λ v. HostsStandFor t now v h) (sym c.self.view_is) stand in
    all_stand t now h h m (c.get_mut.follows.lender s) c.args.host s updates (λ b other. refl)
    (grown_stands t now h c.args.host r s c.reserve.ensures.entries c.reserve.ensures.latest c.reserve.ensures.profile c.reserve.ensures.host
    (subst (HostStandsAt t now h c.args.host) was (before c.args.host)))
    before

-- ---- the AS has none

pub returns-in_err-reserve-in-None-clause-succeeds : goal.returns-in_err-reserve-in-None-clause-succeeds
returns-in_err-reserve-in-None-clause-succeeds c =
    let m = c.self.inside.by_name in
    let was : host_of (table m) c.args.host ≡ None = found m c.args.host ∙ sym c.in-None.ensures.value in
    λ h. absurd (subst (HasHostRoom c.args.n) (ap (λ v. host_of v c.args.host) (sym c.self.view_is) ∙ was) h)

pub returns-in-Ok-clause-room : goal.returns-in-Ok-clause-room
returns-in-Ok-clause-room c =
    let m = c.get_mut.follows.lender-at-none in
    let s = c.reserve-in-None.new.self in
    subst (HasHostRoom c.args.n) (sym (put_here m c.insert.new.self c.args.host s c.in-Ok.ensures.updates)) c.in_ok-reserve-in-None.ensures.room

pub returns-in-Ok-clause-kept : goal.returns-in-Ok-clause-kept
returns-in-Ok-clause-kept c =
    let m = c.get_mut.follows.lender-at-none in
    let s = c.reserve-in-None.new.self in
    let none : host_of (table c.self.inside.by_name) c.args.host ≡ None = found c.self.inside.by_name c.args.host ∙ sym c.in-None.ensures.value in
    let same = ap table c.get_mut.follows.holds-at-none in
    let was = ap (λ v. host_of v c.args.host) same ∙ none in
    λ b k h. rooms_new m c.insert.new.self c.args.host s was c.in-Ok.ensures.updates b k (subst (λ v. HasHostRoom k (host_of v b)) (sym c.self.view_is ∙ sym same) h)

pub returns-in-Ok-clause-stand : goal.returns-in-Ok-clause-stand
returns-in-Ok-clause-stand c =
    let m = c.get_mut.follows.lender-at-none in
    let made = c.new-made.result in
    let s = c.reserve-in-None.new.self in
    let t = c.args.topo.now in
    let none : host_of (table c.self.inside.by_name) c.args.host ≡ None = found c.self.inside.by_name c.args.host ∙ sym c.in-None.ensures.value in
    let same = ap table c.get_mut.follows.holds-at-none in
    let was = ap (λ v. host_of v c.args.host) same ∙ none in
    λ now h stand.
    let before : HostsStandFor t now (table m) h = subst (λ v. HostsStandFor t now v h) (sym c.self.view_is ∙ sym same) stand in
    all_stand t now h h m c.insert.new.self c.args.host s c.in-Ok.ensures.updates (λ b other. refl)
    (grown_stands t now h c.args.host made s c.reserve-in-None.ensures.entries c.reserve-in-None.ensures.latest c.reserve-in-None.ensures.profile c.reserve-in-None.ensures.host
    (new_stands t now h c.args.host made c.new-made.ensures.host (c.new-made.ensures.profile ∙ c.profile.ensures.value) c.new-made.ensures.entries c.new-made.ensures.latest
    (subst (HostStandsAt t now h c.args.host) was (before c.args.host))))
    before

pub returns-clause-succeeds : goal.returns-clause-succeeds
returns-clause-succeeds c =
    let m = c.self.inside.by_name in
    let was : host_of (table m) c.args.host ≡ None = found m c.args.host ∙ sym c.in-None.ensures.value in
    λ h. absurd (subst (HasHostRoom c.args.n) (ap (λ v. host_of v c.args.host) (sym c.self.view_is) ∙ was) h)

pub returns-clause-stand : goal.returns-clause-stand
returns-clause-stand c =
    let t = c.args.topo.now in
    let m = c.get_mut.follows.lender-at-none in
    let same = ap table c.get_mut.follows.holds-at-none in
    λ now h stand.
    let before : HostsStandFor t now (table m) h = subst (λ v. HostsStandFor t now v h) (sym c.self.view_is ∙ sym same) stand in
    let after : HostsStandFor t now (table c.insert.new.self) h = subst (λ v. HostsStandFor t now v h) (sym (unchanged m c.insert.new.self c.in-Err.ensures.err)) before in
    elim c.match-this.branch [
      | in-Err-2 w ↦ subst (λ v. HostsStandFor t now v h) (sym w.self-is) after
      | in-Ok-1 w ↦ subst (λ v. HostsStandFor t now v h) (sym w.self-is) after
    ]
