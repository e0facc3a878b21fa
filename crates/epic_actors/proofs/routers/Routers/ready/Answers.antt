use Rattle.std.proofs.Common.{◌≡◌, refl, sym, subst, ap, ◌∙◌, arith, nat_cmp}
use Rattle.std.specs.Prelude.{None, Some, is_some}
use Rattle.std.specs.BTreeMap.{Updates}
use Rattle.epic_actors.specs.Routers.{HasRoom, RoutersStandFor, StandsAt, router_of}
use Rattle.epic_actors.proofs.Tables.{table, found, put_here, rooms_kept, rooms_new, all_stand, grown_stands, new_stands, on_ok, unchanged}
use Rattle.epic_actors.proofs.routers.Routers.ready.Goals as goal
use Rattle.epic_actors.proofs.routers.Routers.ready.Goals.{in-Err-2, in-Ok-1}

-- ---- the AS has a router

pub returns-in-Some-clause-room : goal.returns-in-Some-clause-room
returns-in-Some-clause-room c =
    let m = c.self.inside.by_as in
    let s = c.reserve.new.self in
    let updates : Updates nat_cmp m (c.get_mut.follows.lender s) c.args.a.0 (Some s) = (c.get_mut.follows.holds s).3 (ap is_some (sym c.in-Some.ensures.value)) in
    on_ok c.reserve.result (λ h. subst (HasRoom c.args.n) (sym (put_here m (c.get_mut.follows.lender s) c.args.a s updates)) h) c.reserve.ensures.room

pub returns-in-Some-clause-succeeds : goal.returns-in-Some-clause-succeeds
returns-in-Some-clause-succeeds c =
    let m = c.self.inside.by_as in
    let was : router_of (table m) c.args.a ≡ Some c.in-Some.router.now = found m c.args.a ∙ sym c.in-Some.ensures.value in
    λ h. c.reserve.ensures.succeeds (subst (HasRoom c.args.n) (ap (λ v. router_of v c.args.a) (sym c.self.view_is) ∙ was) h)

pub returns-in-Some-clause-kept : goal.returns-in-Some-clause-kept
returns-in-Some-clause-kept c =
    let m = c.self.inside.by_as in
    let r = c.in-Some.router.now in
    let s = c.reserve.new.self in
    let was : router_of (table m) c.args.a ≡ Some r = found m c.args.a ∙ sym c.in-Some.ensures.value in
    let updates : Updates nat_cmp m (c.get_mut.follows.lender s) c.args.a.0 (Some s) = (c.get_mut.follows.holds s).3 (ap is_some (sym c.in-Some.ensures.value)) in
    λ b k h. rooms_kept m (c.get_mut.follows.lender s) c.args.a r s 0 was updates (omega (arith, c.reserve.ensures.kept)) b k k (omega arith)
    (subst (λ v. HasRoom k (router_of v b)) (sym c.self.view_is) h)

pub returns-in-Some-clause-stand : goal.returns-in-Some-clause-stand
returns-in-Some-clause-stand c =
    let m = c.self.inside.by_as in
    let r = c.in-Some.router.now in
    let s = c.reserve.new.self in
    let t = c.args.topo.now in
    let was : router_of (table m) c.args.a ≡ Some r = found m c.args.a ∙ sym c.in-Some.ensures.value in
    let updates : Updates nat_cmp m (c.get_mut.follows.lender s) c.args.a.0 (Some s) = (c.get_mut.follows.holds s).3 (ap is_some (sym c.in-Some.ensures.value)) in
    λ now h stand.
    let before : RoutersStandFor t now (table m) h = subst (λ v. RoutersStandFor t now v h) (sym c.self.view_is) stand in
    all_stand t now h h m (c.get_mut.follows.lender s) c.args.a s updates (λ b other. refl)
    (grown_stands t now h c.args.a r s c.reserve.ensures.entries c.reserve.ensures.latest c.reserve.ensures.profile c.reserve.ensures.asn
    (subst (StandsAt t now h c.args.a) was (before c.args.a)))
    before

-- ---- the AS has none

pub returns-in_err-reserve-in-None-clause-succeeds : goal.returns-in_err-reserve-in-None-clause-succeeds
returns-in_err-reserve-in-None-clause-succeeds c =
    let m = c.self.inside.by_as in
    let was : router_of (table m) c.args.a ≡ None = found m c.args.a ∙ sym c.in-None.ensures.value in
    λ h. absurd (subst (HasRoom c.args.n) (ap (λ v. router_of v c.args.a) (sym c.self.view_is) ∙ was) h)

pub returns-in-Ok-clause-room : goal.returns-in-Ok-clause-room
returns-in-Ok-clause-room c =
    let m = c.get_mut.follows.lender-at-none in
    let s = c.reserve-in-None.new.self in
    subst (HasRoom c.args.n) (sym (put_here m c.insert.new.self c.args.a s c.in-Ok.ensures.updates)) c.in_ok-reserve-in-None.ensures.room

pub returns-in-Ok-clause-kept : goal.returns-in-Ok-clause-kept
returns-in-Ok-clause-kept c =
    let m = c.get_mut.follows.lender-at-none in
    let s = c.reserve-in-None.new.self in
    let none : router_of (table c.self.inside.by_as) c.args.a ≡ None = found c.self.inside.by_as c.args.a ∙ sym c.in-None.ensures.value in
    let same = ap table c.get_mut.follows.holds-at-none in
    let was = ap (λ v. router_of v c.args.a) same ∙ none in
    λ b k h. rooms_new m c.insert.new.self c.args.a s was c.in-Ok.ensures.updates b k (subst (λ v. HasRoom k (router_of v b)) (sym c.self.view_is ∙ sym same) h)

pub returns-in-Ok-clause-stand : goal.returns-in-Ok-clause-stand
returns-in-Ok-clause-stand c =
    let m = c.get_mut.follows.lender-at-none in
    let made = c.new-router.result in
    let s = c.reserve-in-None.new.self in
    let t = c.args.topo.now in
    let none : router_of (table c.self.inside.by_as) c.args.a ≡ None = found c.self.inside.by_as c.args.a ∙ sym c.in-None.ensures.value in
    let same = ap table c.get_mut.follows.holds-at-none in
    let was = ap (λ v. router_of v c.args.a) same ∙ none in
    λ now h stand.
    let before : RoutersStandFor t now (table m) h = subst (λ v. RoutersStandFor t now v h) (sym c.self.view_is ∙ sym same) stand in
    all_stand t now h h m c.insert.new.self c.args.a s c.in-Ok.ensures.updates (λ b other. refl)
    (grown_stands t now h c.args.a made s c.reserve-in-None.ensures.entries c.reserve-in-None.ensures.latest c.reserve-in-None.ensures.profile c.reserve-in-None.ensures.asn
    (new_stands t now h c.args.a made c.new-router.ensures.asn (c.new-router.ensures.profile ∙ c.profile.ensures.value) c.new-router.ensures.entries c.new-router.ensures.latest
    (subst (StandsAt t now h c.args.a) was (before c.args.a))))
    before

pub returns-clause-succeeds : goal.returns-clause-succeeds
returns-clause-succeeds c =
    let m = c.self.inside.by_as in
    let was : router_of (table m) c.args.a ≡ None = found m c.args.a ∙ sym c.in-None.ensures.value in
    λ h. absurd (subst (HasRoom c.args.n) (ap (λ v. router_of v c.args.a) (sym c.self.view_is) ∙ was) h)

pub returns-clause-stand : goal.returns-clause-stand
returns-clause-stand c =
    let t = c.args.topo.now in
    let m = c.get_mut.follows.lender-at-none in
    let same = ap table c.get_mut.follows.holds-at-none in
    λ now h stand.
    let before : RoutersStandFor t now (table m) h = subst (λ v. RoutersStandFor t now v h) (sym c.self.view_is ∙ sym same) stand in
    let after : RoutersStandFor t now (table c.insert.new.self) h = subst (λ v. RoutersStandFor t now v h) (sym (unchanged m c.insert.new.self c.in-Err.ensures.err)) before in
    elim c.match-this.branch [
      | in-Err-2 w ↦ subst (λ v. RoutersStandFor t now v h) (sym w.self-is) after
      | in-Ok-1 w ↦ subst (λ v. RoutersStandFor t now v h) (sym w.self-is) after
    ]
