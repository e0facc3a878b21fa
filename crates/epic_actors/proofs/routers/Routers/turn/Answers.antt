use Rattle.std.proofs.Common.{◌≡◌, ◌+◌, ◌≤◌, refl, sym, subst, ap, ◌∙◌, arith, nat_cmp}
use Rattle.std.specs.Prelude.{None, Some, is_some, ◌&&◌}
use Rattle.std.specs.BTreeMap.{Updates}
use Rattle.epic_num.specs.Levels.{is_timed}
use Rattle.epic_layout.specs.Layout.{parse}
use Rattle.epic_layout.specs.Reading.{IsRead}
use Rattle.epic_layout.proofs.OneSpelling.{bytes_are_read}
use Rattle.epic_topo.specs.Network.{has}
use Rattle.epic_router.specs.Remembering.{is_accepted}
use Rattle.epic_router.specs.Routers.{bytes_after}
use Rattle.epic_actors.specs.Routers.{HasRoom, RoutersStandFor, StandsAt, router_of}
use Rattle.epic_model.specs.Passing.{turned_at}
use Rattle.epic_actors.proofs.Tables.{table, found, rooms_kept, all_stand}
use Rattle.epic_actors.proofs.Turned.{answer_is, right_is, turned_stands, others_as_before, one_less}
use Rattle.epic_actors.proofs.routers.Routers.turn.Goals as goal
use Rattle.epic_actors.proofs.routers.Routers.turn.Goals.{In-Some}

before : (c : In-Some) → RoutersStandFor c.args.topo.now c.args.now (table c.self.inside.by_as) c.args.ledger.now.history
before c = subst (λ v. RoutersStandFor c.args.topo.now c.args.now v c.args.ledger.now.history) (sym c.self.view_is) c.requires.stand

was : (c : In-Some) → router_of (table c.self.inside.by_as) c.args.a ≡ Some c.in-Some.router.now
was c = found c.self.inside.by_as c.args.a ∙ sym c.in-Some.ensures.value

own : (c : In-Some) → StandsAt c.args.topo.now c.args.now c.args.ledger.now.history c.args.a (Some c.in-Some.router.now)
own c = subst (StandsAt c.args.topo.now c.args.now c.args.ledger.now.history c.args.a) (was c) (before c c.args.a)

pub turn-requires-clause-known : goal.turn-requires-clause-known
turn-requires-clause-known c =
    let d = (goal.at.turn-requires-clause-known c).In-Some in
    subst (λ b. has c.args.topo.now b ≡ Rattle.std.proofs.Common.true) (sym (own d).0) c.requires.known

pub turn-requires-clause-profile : goal.turn-requires-clause-profile
turn-requires-clause-profile c = (own (goal.at.turn-requires-clause-profile c).In-Some).1.profile

pub turn-requires-clause-room : goal.turn-requires-clause-room
turn-requires-clause-room c =
    let d = (goal.at.turn-requires-clause-room c).In-Some in
    subst (HasRoom 1) (ap (λ v. router_of v c.args.a) (sym c.self.view_is) ∙ was d) c.requires.room

pub turn-requires-clause-latest : goal.turn-requires-clause-latest
turn-requires-clause-latest c = (own (goal.at.turn-requires-clause-latest c).In-Some).1.latest

pub unreachable-requires : goal.unreachable-requires
unreachable-requires c =
    let none : router_of (table c.self.inside.by_as) c.args.a ≡ None = found c.self.inside.by_as c.args.a ∙ sym c.in-None.ensures.value in
    subst (HasRoom 1) (ap (λ v. router_of v c.args.a) (sym c.self.view_is) ∙ none) c.requires.room

pub returns-clause-answer : goal.returns-clause-answer
returns-clause-answer c =
    let d = (goal.at.returns-clause-answer c).In-Some in
    c.turn.ensures.answer ∙ answer_is _ _ _ _ _ _ _ _ (own d) c.requires.generation

pub returns-clause-bytes : goal.returns-clause-bytes
returns-clause-bytes c =
    let d = (goal.at.returns-clause-bytes c).In-Some in
    c.turn.ensures.bytes ∙ ap (λ b. bytes_after c.args.topo.now b c.turn.result c.args.bytes.now) (own d).0

pub returns-clause-right : goal.returns-clause-right
returns-clause-right c =
    let d = (goal.at.returns-clause-right c).In-Some in
    right_is _ _ _ _ _ _ _ _ (own d) c.requires.generation c.turn.result c.turn.ensures.right

pub returns-clause-stand : goal.returns-clause-stand
returns-clause-stand c =
    let d = (goal.at.returns-clause-stand c).In-Some in
    let m = c.self.inside.by_as in
    let s = c.turn.new.self in
    let t = c.args.topo.now in
    let h = c.args.ledger.now.history in
    let read : IsRead c.args.bytes.now = bytes_are_read c.args.bytes.now c.are_bytes.ensures in
    let updates : Updates nat_cmp m (c.get_mut.follows.lender s) c.args.a.0 (Some s) = (c.get_mut.follows.holds s).3 (ap is_some (sym c.in-Some.ensures.value)) in
    let is = c.turn.ensures.answer ∙ answer_is _ _ _ _ _ _ _ _ (own d) c.requires.generation in
    all_stand t c.args.now h (turned_at t c.args.step c.args.now h c.args.a c.args.iface c.args.bytes.now).history m (c.get_mut.follows.lender s) c.args.a s updates
    (others_as_before t c.args.step c.args.now h c.args.a c.args.iface c.args.bytes.now read c.requires.lawful)
    (turned_stands _ _ _ _ _ _ _ _ (own d) c.requires.generation c.args.step s c.turn.result read c.requires.lawful c.requires.emits is c.turn.ensures.asn c.turn.ensures.window)
    (before d)

pub returns-clause-rooms : goal.returns-clause-rooms
returns-clause-rooms c =
    let d = (goal.at.returns-clause-rooms c).In-Some in
    let m = c.self.inside.by_as in
    let r = c.in-Some.router.now in
    let s = c.turn.new.self in
    let updates : Updates nat_cmp m (c.get_mut.follows.lender s) c.args.a.0 (Some s) = (c.get_mut.follows.holds s).3 (ap is_some (sym c.in-Some.ensures.value)) in
    let less = one_less (is_accepted c.turn.result && is_timed (parse c.args.bytes.now).first) r.window.spare s.window.spare c.turn.ensures.window.spare in
    λ b k h. rooms_kept m (c.get_mut.follows.lender s) c.args.a r s 1 (was d) updates less b (k + 1) k (omega arith)
    (subst (λ v. HasRoom (k + 1) (router_of v b)) (sym c.self.view_is) h)
