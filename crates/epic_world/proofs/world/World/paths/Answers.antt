use Rattle.std.proofs.Common.{◌≡◌, ◌≤◌, ◌<◌, true, length, ◌∙◌, sym, ap, subst}
use Rattle.std.specs.Prelude.{Ok, Err}
use Rattle.epic_num.specs.declared.answer.Answer.TheVariants.{Paths}
use Rattle.epic_num.specs.declared.answer.Refusal.TheVariants.{TooManyPaths}
use Rattle.epic_topo.specs.Network.{has}
use Rattle.epic_ledger.specs.Facts.{issues_in}
use Rattle.epic_beacon.specs.Segments.{segments}
use Rattle.epic_beacon.specs.Told.{beacons_in}
use Rattle.epic_path.specs.Routes.{all_lawful}
use Rattle.epic_beacon.specs.Store.{store_of}
use Rattle.epic_model.specs.Steps.{next_paths}
use Rattle.epic_world.specs.Standing.{Standing}
use Rattle.epic_model.specs.State.{State}
use Rattle.epic_world.specs.Stepped.{Steps}
use Rattle.epic_model.specs.Traces.{answered, refused}
use Rattle.epic_world.proofs.Answering.{segments_are, known_paths, few_found, many_found}
use Rattle.epic_world.proofs.world.World.paths.Goals as goal

pub returns-in-Ok-all_paths-clause-step : goal.returns-in-Ok-all_paths-clause-step
returns-in-Ok-all_paths-clause-step c =
    let w = c.self.inside in
    let s : State = record { moment = w.moment; steps = w.steps; history = w.ledger.history } in
    let from : has w.topo c.args.from ≡ true = sym c.has.ensures ∙ c.if-not-has.false in
    let to : has w.topo c.args.to ≡ true = sym c.has-2.ensures ∙ c.if-not-has-2.false in
    let same = c.in-Ok.ensures.value ∙ segments_are w.topo (store_of w.beacons) w.keys w.routers w.hosts w.sources w.moment w.steps w.ledger.history c.self.invariant in
    let all = ap (λ ss. all_lawful ss c.args.from c.args.to) (c.as_slice.ensures.value ∙ same) in
    let paths = all_lawful (segments (beacons_in w.topo (issues_in w.ledger.history.events))) c.args.from c.args.to in
    let few = subst (λ ps. length ps ≤ 4096) all c.in-Ok-all_paths.ensures.fits in
    let e = known_paths w.topo s c.args.from c.args.to from to ∙ few_found s paths few in
    let is = subst (λ (v : Standing). next_paths v.network v.state c.args.from c.args.to ≡ answered v.state (Paths paths)) c.self.view_is e in
    let r = c.answered.result in
    let old = c.args.self.now.state in
    let new = c.answered.new.self.state in
    subst (λ n. Steps n (Ok r) old new) (sym is)
    (subst (λ ps. Steps (answered old (Paths ps)) (Ok r) old new) (c.in-Ok-all_paths.ensures.ok ∙ all) c.answered.ensures.step)

pub returns-in-Err-TooMany-clause-step : goal.returns-in-Err-TooMany-clause-step
returns-in-Err-TooMany-clause-step c =
    let w = c.self.inside in
    let s : State = record { moment = w.moment; steps = w.steps; history = w.ledger.history } in
    let from : has w.topo c.args.from ≡ true = sym c.has.ensures ∙ c.if-not-has.false in
    let to : has w.topo c.args.to ≡ true = sym c.has-2.ensures ∙ c.if-not-has-2.false in
    let same = c.in-Ok.ensures.value ∙ segments_are w.topo (store_of w.beacons) w.keys w.routers w.hosts w.sources w.moment w.steps w.ledger.history c.self.invariant in
    let all = ap (λ ss. all_lawful ss c.args.from c.args.to) (c.as_slice.ensures.value ∙ same) in
    let paths = all_lawful (segments (beacons_in w.topo (issues_in w.ledger.history.events))) c.args.from c.args.to in
    let told = c.all_paths.ensures.too_many (c.in-Err-TooMany.is ∙ ap Err c.in-Err-TooMany.field-0-is) in
    let many = subst (λ ps. 4096 < length ps) all told in
    let e = known_paths w.topo s c.args.from c.args.to from to ∙ many_found s paths many in
    let is = subst (λ (v : Standing). next_paths v.network v.state c.args.from c.args.to ≡ refused v.state TooManyPaths) c.self.view_is e in
    let r = c.refused-in-Err-TooMany.result in
    let old = c.args.self.now.state in
    let new = c.refused-in-Err-TooMany.new.self.state in
    subst (λ n. Steps n (Ok r) old new) (sym is) c.refused-in-Err-TooMany.ensures.step
