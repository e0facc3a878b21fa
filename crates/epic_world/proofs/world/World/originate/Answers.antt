use Rattle.std.proofs.Common.{◌^◌, ◌-◌, ◌<◌, ◌≡◌, true, ◌+◌, ◌∙◌, sym, ap, subst, arith}
use Rattle.std.specs.Prelude.{◌⊎◌, Ok, Err}
use Rattle.std.proofs.lemmas.Option.{same_Some}
use Rattle.epic_num.specs.Chains.{Issue}
use Rattle.epic_num.specs.declared.answer.Answer.TheVariants.{Issued}
use Rattle.epic_num.specs.declared.command.Command.TheVariants as command
use Rattle.epic_num.specs.declared.beacon_error.BeaconError.TheVariants.{OutOfMemory}
use Rattle.epic_topo.specs.Network.{has}
use Rattle.epic_ledger.specs.declared.event.Event.TheVariants as event
use Rattle.epic_ledger.specs.Facts.{issues_in}
use Rattle.epic_ledger.specs.Lawful.{FitsIssue}
use Rattle.epic_beacon.specs.Store.{issue_of, store_of}
use Rattle.epic_beacon.specs.Issuing.{originated}
use Rattle.epic_world.specs.Standing.{Standing}
use Rattle.epic_model.specs.State.{State}
use Rattle.epic_model.specs.Keeping.{store_in}
use Rattle.epic_ledger.specs.OneMore.{with_event}
use Rattle.epic_world.specs.Stepped.{Steps}
use Rattle.epic_world.specs.Refining.{Refines, state_of}
use Rattle.epic_model.specs.Steps.{issued, next_originate}
use Rattle.epic_world.proofs.Answering.{is_originate, issues_are_kept, originates, originated_is, issue_recorded, some_there, issue_answers, known_originate}
use Rattle.epic_world.proofs.Issued.{is_kept, issue_fits, there}
use Rattle.epic_world.proofs.world.World.originate.Goals as goal

pub originate-requires-clause-kept : goal.originate-requires-clause-kept
originate-requires-clause-kept c =
    let w = c.self.inside in
    issues_are_kept w.topo (store_of w.beacons) w.keys w.routers w.hosts w.sources w.moment w.steps w.ledger.history c.self.invariant

pub record_issue-requires-clause-there : goal.record_issue-requires-clause-there
record_issue-requires-clause-there c =
    let w = c.self.inside in
    let q = originated_is w.topo (store_of w.beacons) w.keys w.routers w.hosts w.sources w.moment w.steps w.ledger.history c.self.invariant (store_of c.originate.new.self) c.args.a c.args.out c.args.exp c.in-Ok.no c.in-Ok.ensures.issues in
    some_there _ (issue_of q.beacon) (there w.topo (store_of w.beacons) (store_of c.originate.new.self) (issues_in w.ledger.history.events) _ c.in-Ok.no q)

pub record_issue-requires-clause-fits : goal.record_issue-requires-clause-fits
record_issue-requires-clause-fits c i is =
    let w = c.self.inside in
    let h = c.reserve.new.self.history in
    let r = subst (Refines w.topo (store_of w.beacons) w.keys w.routers w.hosts w.sources w.moment w.steps) (sym c.reserve.ensures.history) c.self.invariant in
    let q = originated_is w.topo (store_of w.beacons) w.keys w.routers w.hosts w.sources w.moment w.steps h r (store_of c.originate.new.self) c.args.a c.args.out c.args.exp c.in-Ok.no c.in-Ok.ensures.issues in
    let new = (store_of c.originate.new.self) in
    let at = there w.topo (store_of w.beacons) new (issues_in h.events) _ c.in-Ok.no q in
    let kept = is_kept w.topo (store_of w.beacons) new (issues_in h.events) _ c.in-Ok.no q c.originate.ensures.kept in
    let same : issue_of q.beacon ≡ i = same_Some (issue_of q.beacon) i (sym at ∙ is) in
    subst (λ (j : Issue). FitsIssue (issues_in h.events) c.in-Ok.no j.parent) same
    (issue_fits w.topo (issues_in h.events) c.in-Ok.no (issue_of q.beacon) q.number_is kept)

pub invariant_of-self-in-Ok : goal.invariant_of-self-in-Ok
invariant_of-self-in-Ok c =
    let w = c.self.inside in
    let limit : w.steps < 2 ^ 30 - 1 = subst (λ (v : Standing). v.state.steps < 2 ^ 30 - 1) (sym c.self.view_is) c.requires in
    let h = c.reserve.new.self.history in
    let r = subst (Refines w.topo (store_of w.beacons) w.keys w.routers w.hosts w.sources w.moment w.steps) (sym c.reserve.ensures.history) c.self.invariant in
    let q = originated_is w.topo (store_of w.beacons) w.keys w.routers w.hosts w.sources w.moment w.steps h r (store_of c.originate.new.self) c.args.a c.args.out c.args.exp c.in-Ok.no c.in-Ok.ensures.issues in
    let s = state_of w.moment w.steps h in
    let g = c.goes_on.ensures in
    let known : has w.topo c.args.a ≡ true = sym c.has.ensures ∙ c.if-not-has.false in
    let same = originates w.topo (store_of w.beacons) w.keys w.routers w.hosts w.sources w.moment w.steps h r c.args.a c.args.out c.args.exp in
    let next_is = is_originate w.topo s c.args.a c.args.out c.args.exp ∙ (known_originate w.topo s c.args.a c.args.out c.args.exp known ∙ ap (issued s) (sym same)) in
    subst (Refines w.topo (store_of c.originate.new.self) w.keys w.routers w.hosts w.sources w.moment (w.steps + 1)) (sym (c.record_issue.ensures (issue_of q.beacon) (there w.topo (store_of w.beacons) (store_of c.originate.new.self) (issues_in h.events) _ c.in-Ok.no q)))
    (issue_recorded w.topo (store_of w.beacons) w.keys w.routers w.hosts w.sources w.moment w.steps h r (store_of c.originate.new.self) _ c.in-Ok.no (command.Originate c.args.a c.args.out c.args.exp)
    g.steps g.actors g.senders g.topology (omega arith, omega arith) (omega (arith, limit)) next_is q c.originate.ensures.kinds)

pub returns-in-Ok-clause-step : goal.returns-in-Ok-clause-step
returns-in-Ok-clause-step c =
    let w = c.self.inside in
    let s : State = record { moment = w.moment; steps = w.steps; history = w.ledger.history } in
    let new : State = record { moment = w.moment; steps = w.steps + 1; history = c.record_issue.new.ledger.history } in
    let q = originated_is w.topo (store_of w.beacons) w.keys w.routers w.hosts w.sources w.moment w.steps w.ledger.history c.self.invariant (store_of c.originate.new.self) c.args.a c.args.out c.args.exp c.in-Ok.no c.in-Ok.ensures.issues in
    let told = sym (originates w.topo (store_of w.beacons) w.keys w.routers w.hosts w.sources w.moment w.steps w.ledger.history c.self.invariant c.args.a c.args.out c.args.exp) ∙ q.answer_is in
    let history = c.record_issue.ensures (issue_of q.beacon) (there w.topo (store_of w.beacons) (store_of c.originate.new.self) (issues_in w.ledger.history.events) _ c.in-Ok.no q) ∙ ap (λ h. with_event h (event.Issue (w.steps + 1) c.in-Ok.no q.beacon.name q.beacon.parent)) c.reserve.ensures.history in
    let known : has w.topo c.args.a ≡ true = sym c.has.ensures ∙ c.if-not-has.false in
    let here = subst (λ n. Steps n (Ok (Issued c.in-Ok.no)) s new) (sym (known_originate w.topo s c.args.a c.args.out c.args.exp known))
    (issue_answers s _ q.beacon c.in-Ok.no c.record_issue.new.ledger.history told q.number_is history) in
    subst (λ (v : Standing). Steps (next_originate v.network v.state c.args.a c.args.out c.args.exp) (Ok (Issued c.in-Ok.no)) v.state new) c.self.view_is here

pub returns-in-Err-clause-step : goal.returns-in-Err-clause-step
returns-in-Err-clause-step c =
    let w = c.self.inside in
    let s : State = record { moment = w.moment; steps = w.steps; history = w.ledger.history } in
    let told = originated w.topo (store_in w.topo w.ledger.history) c.args.a c.args.out c.args.exp w.moment in
    let same = originates w.topo (store_of w.beacons) w.keys w.routers w.hosts w.sources w.moment w.steps w.ledger.history c.self.invariant c.args.a c.args.out c.args.exp in
    let known : has w.topo c.args.a ≡ true = sym c.has.ensures ∙ c.if-not-has.false in
    let cause = subst (λ r. (c.in-Err.error ≡ OutOfMemory) ⊎ (r ≡ Err c.in-Err.error)) same c.in-Err.ensures.issues.0 in
    let step = subst (λ h. let b : State = record { moment = w.moment; steps = w.steps; history = h } in Steps (issued b told) c.not_issued.result b c.not_issued.new.self.state) c.reserve.ensures.history (c.not_issued.ensures.step told cause) in
    let here = subst (λ n. Steps n c.not_issued.result s c.not_issued.new.self.state) (sym (known_originate w.topo s c.args.a c.args.out c.args.exp known)) step in
    subst (λ (v : Standing). Steps (next_originate v.network v.state c.args.a c.args.out c.args.exp) c.not_issued.result v.state c.not_issued.new.self.state) c.self.view_is here
