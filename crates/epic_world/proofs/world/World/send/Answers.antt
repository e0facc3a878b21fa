use Rattle.std.proofs.Common.{◌≡◌, true, ◌∙◌, sym, ap, subst}
use Rattle.std.specs.Prelude.{Ok}
use Rattle.epic_num.specs.declared.answer.Refusal.TheVariants.{NoSegment, Path as PathRefusal}
use Rattle.epic_topo.specs.Network.{has}
use Rattle.epic_beacon.specs.Store.{store_of}
use Rattle.epic_path.specs.Joins.{joined, legs_of}
use Rattle.epic_model.specs.Steps.{next_send, over_path, over_segments, segments_of}
use Rattle.epic_model.specs.Traces.{refused}
use Rattle.epic_actors.specs.Sources.{IsPathOver}
use Rattle.epic_world.specs.Refining.{state_of}
use Rattle.epic_world.specs.Standing.{Standing}
use Rattle.epic_world.specs.Stepped.{Steps}
use Rattle.epic_world.proofs.Answering.{beacons_are}
use Rattle.epic_world.proofs.Sent.{known_send, over_is}
use Rattle.epic_world.proofs.world.World.send.Goals as goal

pub send_over-requires-clause-over : goal.send_over-requires-clause-over
unfolding legs_of
send_over-requires-clause-over c =
    let w = c.self.inside in
    let bs = beacons_are w.topo (store_of w.beacons) w.keys w.routers w.hosts w.sources w.moment w.steps w.ledger.history c.self.invariant in
    let found = ap (λ b. segments_of b c.copied.result.items) (sym bs)
    ∙ (ap (λ n. segments_of w.beacons.beacons n.items) c.copied.ensures
    ∙ (ap (segments_of w.beacons.beacons) (sym c.as_slice.ensures.value) ∙ sym c.in-Ok.ensures.value)) in
    let path = ap (joined c.args.src.asn) (sym c.as_slice-in-Ok.ensures.value) ∙ sym c.in-Ok-join.ensures in
    let here : IsPathOver w.topo w.ledger.history c.args.src c.copied.result.items c.in-Ok-join.path.legs.items = record { segments = c.in-Ok.segments.items; found = found; path = path } in
    subst (λ (v : Standing). IsPathOver v.network v.state.history c.args.src c.copied.result.items c.in-Ok-join.path.legs.items) c.self.view_is here

pub returns-in-Ok-join-clause-step : goal.returns-in-Ok-join-clause-step
unfolding legs_of
returns-in-Ok-join-clause-step c =
    let w = c.self.inside in
    let s = state_of w.moment w.steps w.ledger.history in
    let a = c.args in
    let legs = c.in-Ok-join.path.legs.items in
    let source : has w.topo a.src.asn ≡ true = sym c.has.ensures ∙ c.if-not-has.false in
    let destination : has w.topo a.dst.asn ≡ true = sym c.has-2.ensures ∙ c.if-not-has-2.false in
    let bs = beacons_are w.topo (store_of w.beacons) w.keys w.routers w.hosts w.sources w.moment w.steps w.ledger.history c.self.invariant in
    let found = ap (λ b. segments_of b a.numbers.now.items) (sym bs)
    ∙ (ap (segments_of w.beacons.beacons) (sym c.as_slice.ensures.value) ∙ sym c.in-Ok.ensures.value) in
    let path = ap (joined a.src.asn) (sym c.as_slice-in-Ok.ensures.value) ∙ sym c.in-Ok-join.ensures in
    let over : IsPathOver w.topo w.ledger.history a.src a.numbers.now.items legs = record { segments = c.in-Ok.segments.items; found = found; path = path } in
    let e = over_is w.topo s a.version a.level a.src a.dst a.numbers.now a.payload.now legs source destination over in
    let is = subst (λ (v : Standing). next_send v.network v.state a.version a.level a.src a.dst a.numbers.now a.payload.now ≡ over_path v.network v.state a.version a.level a.src a.dst a.numbers.now a.payload.now (Ok legs)) c.self.view_is e in
    let old = a.self.now.state in
    let new = c.send_over.new.self.state in
    let step = subst (λ n. Steps (over_path a.self.now.network old a.version a.level a.src a.dst n a.payload.now (Ok legs)) c.send_over.result old new) c.copied.ensures c.send_over.ensures.step in
    subst (λ n. Steps n c.send_over.result old new) (sym is) step

pub returns-in-Err-join-clause-step : goal.returns-in-Err-join-clause-step
unfolding legs_of
returns-in-Err-join-clause-step c =
    let w = c.self.inside in
    let s = state_of w.moment w.steps w.ledger.history in
    let a = c.args in
    let error = c.in-Err-join.error in
    let source : has w.topo a.src.asn ≡ true = sym c.has.ensures ∙ c.if-not-has.false in
    let destination : has w.topo a.dst.asn ≡ true = sym c.has-2.ensures ∙ c.if-not-has-2.false in
    let bs = beacons_are w.topo (store_of w.beacons) w.keys w.routers w.hosts w.sources w.moment w.steps w.ledger.history c.self.invariant in
    let found = ap (λ b. segments_of b a.numbers.now.items) (sym bs)
    ∙ (ap (segments_of w.beacons.beacons) (sym c.as_slice.ensures.value) ∙ sym c.in-Ok.ensures.value) in
    let path = ap (joined a.src.asn) (sym c.as_slice-in-Ok.ensures.value) ∙ sym c.in-Err-join.ensures in
    let e = known_send w.topo s a.version a.level a.src a.dst a.numbers.now a.payload.now source destination
    ∙ (ap (over_segments w.topo s a.version a.level a.src a.dst a.numbers.now a.payload.now) found
    ∙ ap (over_path w.topo s a.version a.level a.src a.dst a.numbers.now a.payload.now) path) in
    let is = subst (λ (v : Standing). next_send v.network v.state a.version a.level a.src a.dst a.numbers.now a.payload.now ≡ refused v.state (PathRefusal error)) c.self.view_is e in
    let old = a.self.now.state in
    let new = c.refused-in-Err-join.new.self.state in
    subst (λ n. Steps n (Ok c.refused-in-Err-join.result) old new) (sym is) c.refused-in-Err-join.ensures.step

pub returns-in-Err-clause-step : goal.returns-in-Err-clause-step
returns-in-Err-clause-step c =
    let w = c.self.inside in
    let s = state_of w.moment w.steps w.ledger.history in
    let a = c.args in
    let number = c.in-Err.number in
    let source : has w.topo a.src.asn ≡ true = sym c.has.ensures ∙ c.if-not-has.false in
    let destination : has w.topo a.dst.asn ≡ true = sym c.has-2.ensures ∙ c.if-not-has-2.false in
    let bs = beacons_are w.topo (store_of w.beacons) w.keys w.routers w.hosts w.sources w.moment w.steps w.ledger.history c.self.invariant in
    let found = ap (λ b. segments_of b a.numbers.now.items) (sym bs)
    ∙ (ap (segments_of w.beacons.beacons) (sym c.as_slice.ensures.value) ∙ sym c.in-Err.ensures.value) in
    let e = known_send w.topo s a.version a.level a.src a.dst a.numbers.now a.payload.now source destination
    ∙ ap (over_segments w.topo s a.version a.level a.src a.dst a.numbers.now a.payload.now) found in
    let is = subst (λ (v : Standing). next_send v.network v.state a.version a.level a.src a.dst a.numbers.now a.payload.now ≡ refused v.state (NoSegment number)) c.self.view_is e in
    let old = a.self.now.state in
    let new = c.refused-in-Err.new.self.state in
    subst (λ n. Steps n (Ok c.refused-in-Err.result) old new) (sym is) c.refused-in-Err.ensures.step
