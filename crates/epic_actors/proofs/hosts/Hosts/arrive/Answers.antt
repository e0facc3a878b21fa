use Rattle.std.proofs.Common.{◌≡◌, ◌+◌, true, sym, subst, ap, ◌∙◌, arith}
use Rattle.std.specs.Prelude.{None, Some, is_some}
use Rattle.std.specs.BTreeMap.{Updates}
use Rattle.epic_num.specs.declared.name.HostId.{HostId}
use Rattle.epic_topo.specs.Network.{has}
use Rattle.epic_ends.specs.Destinations.{is_accepted}
use Rattle.epic_actors.specs.Hosts.{HasHostRoom, HostsStandFor, HostStandsAt, host_cmp, host_of}
use Rattle.epic_model.specs.Passing.{arrived_at}
use Rattle.epic_actors.proofs.HostTables.{table, found, rooms_kept, all_stand}
use Rattle.epic_actors.proofs.Turned.{one_less}
use Rattle.epic_actors.proofs.Arrived.{arrival_is, right_arrival, arrived_stands, others_left}
use Rattle.epic_actors.proofs.hosts.Hosts.arrive.Goals as goal
use Rattle.epic_actors.proofs.hosts.Hosts.arrive.Goals.{In-Some}

before : (c : In-Some) → HostsStandFor c.args.topo.now c.args.now (table c.self.inside.by_name) c.args.ledger.now.history
before c = subst (λ v. HostsStandFor c.args.topo.now c.args.now v c.args.ledger.now.history) (sym c.self.view_is) c.requires.stand

was : (c : In-Some) → host_of (table c.self.inside.by_name) c.args.host ≡ Some c.in-Some.there.now
was c = found c.self.inside.by_name c.args.host ∙ sym c.in-Some.ensures.value

own : (c : In-Some) → HostStandsAt c.args.topo.now c.args.now c.args.ledger.now.history c.args.host (Some c.in-Some.there.now)
own c = subst (HostStandsAt c.args.topo.now c.args.now c.args.ledger.now.history c.args.host) (was c) (before c c.args.host)

pub arrive-requires-clause-known : goal.arrive-requires-clause-known
arrive-requires-clause-known c =
    let d = (goal.at.arrive-requires-clause-known c).In-Some in
    subst (λ (x : HostId). has c.args.topo.now x.asn ≡ true) (sym (own d).0) c.requires.known

pub arrive-requires-clause-profile : goal.arrive-requires-clause-profile
arrive-requires-clause-profile c = (own (goal.at.arrive-requires-clause-profile c).In-Some).1.profile

pub arrive-requires-clause-room : goal.arrive-requires-clause-room
arrive-requires-clause-room c =
    let d = (goal.at.arrive-requires-clause-room c).In-Some in
    subst (HasHostRoom 1) (ap (λ v. host_of v c.args.host) (sym c.self.view_is) ∙ was d) c.requires.room

pub arrive-requires-clause-latest : goal.arrive-requires-clause-latest
arrive-requires-clause-latest c = (own (goal.at.arrive-requires-clause-latest c).In-Some).1.latest

pub unreachable-requires : goal.unreachable-requires
unreachable-requires c =
    let none : host_of (table c.self.inside.by_name) c.args.host ≡ None = found c.self.inside.by_name c.args.host ∙ sym c.in-None.ensures.value in
    subst (HasHostRoom 1) (ap (λ v. host_of v c.args.host) (sym c.self.view_is) ∙ none) c.requires.room

pub returns-clause-answer : goal.returns-clause-answer
returns-clause-answer c =
    let d = (goal.at.returns-clause-answer c).In-Some in
    c.arrive.ensures.answer ∙ arrival_is _ _ _ _ _ _ (own d)

pub returns-clause-right : goal.returns-clause-right
returns-clause-right c =
    let d = (goal.at.returns-clause-right c).In-Some in
    right_arrival _ _ c.args.ledger.now.history _ _ _ (own d) c.arrive.result c.arrive.ensures.right

pub returns-clause-stand : goal.returns-clause-stand
returns-clause-stand c =
    let d = (goal.at.returns-clause-stand c).In-Some in
    let m = c.self.inside.by_name in
    let s = c.arrive.new.self in
    let t = c.args.topo.now in
    let h = c.args.ledger.now.history in
    let updates : Updates host_cmp m (c.get_mut.follows.lender s) (c.args.host.asn.0, c.args.host.host) (Some s) = (c.get_mut.follows.holds s).3 (ap is_some (sym c.in-Some.ensures.value)) in
    let is = c.arrive.ensures.answer ∙ arrival_is _ _ _ _ _ _ (own d) in
    all_stand t c.args.now h (arrived_at t c.args.step c.args.now h c.args.host c.args.bytes.now).history m (c.get_mut.follows.lender s) c.args.host s updates
    (others_left t c.args.step c.args.now h c.args.host c.args.bytes.now)
    (arrived_stands _ _ _ _ _ _ (own d) c.args.step s c.arrive.result is c.arrive.ensures.host c.arrive.ensures.window)
    (before d)

pub returns-clause-rooms : goal.returns-clause-rooms
returns-clause-rooms c =
    let d = (goal.at.returns-clause-rooms c).In-Some in
    let m = c.self.inside.by_name in
    let r = c.in-Some.there.now in
    let s = c.arrive.new.self in
    let updates : Updates host_cmp m (c.get_mut.follows.lender s) (c.args.host.asn.0, c.args.host.host) (Some s) = (c.get_mut.follows.holds s).3 (ap is_some (sym c.in-Some.ensures.value)) in
    let less = one_less (is_accepted c.arrive.result) r.window.spare s.window.spare c.arrive.ensures.window.spare in
    λ b k h. rooms_kept m (c.get_mut.follows.lender s) c.args.host r s 1 (was d) updates less b (k + 1) k (omega arith)
    (subst (λ v. HasHostRoom (k + 1) (host_of v b)) (sym c.self.view_is) h)
