use Rattle.std.proofs.Common.{◌≡◌, ◌++◌, [], length, ap, subst, ◌∙◌, arith}
use Rattle.epic_num.specs.declared.answer.Answer.{Answer}
use Rattle.epic_topo.specs.Lawful.{IsTopology}
use Rattle.epic_topo.specs.Network.{Network}
use Rattle.epic_model.specs.Steps.{next}
use Rattle.epic_app.specs.Captures.{shown}
use Rattle.epic_app.specs.Generating.{plainly}
use Rattle.epic_app.specs.Noting.{notes_after}
use Rattle.epic_app.specs.RunReport.{answered_text, verdicts_in}
use Rattle.epic_app.proofs.StepWriting.{lines_are}
use Rattle.epic_app.proofs.Told.{answers_are_few, answers_are_notable, answers_are_told}
use Rattle.epic_app.proofs.gen_report.digest_step.Goals as goal

pub step_lines-requires : goal.step_lines-requires
step_lines-requires c =
    let t = c.args.world.now.network in
    let s = c.args.world.now.state in
    let topology = subst (λ (n : Network). IsTopology n) c.topology.ensures c.profile-profile.ensures.lawful in
    rw (c.in-Ok.ensures.network, c.in-Ok.ensures.step.1, c.in-Ok.ensures.step.0)
    (record {
      told = answers_are_told t s c.args.command.now topology c.fits.ensures c.ledger-ledger.ensures.world;
      notable = answers_are_notable t s c.args.command.now topology c.fits.ensures c.ledger-ledger.ensures.world;
    })

pub count-requires : goal.count-requires
count-requires c =
    let t = c.args.world.now.network in
    let s = c.args.world.now.state in
    let topology = subst (λ (n : Network). IsTopology n) c.topology.ensures c.profile-profile.ensures.lawful in
    let few = ap (λ (a : Answer). length (verdicts_in a)) c.in-Ok.ensures.step.0 in
    record { few = omega (arith, few, c.requires.room, answers_are_few t s c.args.command.now topology c.fits.ensures c.ledger-ledger.ensures.world) }

pub returns-clause-total : goal.returns-clause-total
returns-clause-total c =
    let t = c.args.world.now.network in
    let s = c.args.world.now.state in
    let topology = subst (λ (n : Network). IsTopology n) c.topology.ensures c.profile-profile.ensures.lawful in
    let few = ap (λ (a : Answer). length (verdicts_in a)) c.in-Ok.ensures.step.0 in
    omega (arith, few, c.count.ensures.total, answers_are_few t s c.args.command.now topology c.fits.ensures c.ledger-ledger.ensures.world)

pub returns-clause-digest : goal.returns-clause-digest
unfolding notes_after
returns-clause-digest c = λ before.
    let t = c.args.world.now.network in
    let s = c.args.world.now.state in
    let n = next t s c.args.command.now in
    let show = plainly c.args.script in
    let text : c.deref.result.now ≡ answered_text (shown c.args.script n.state.steps) t c.args.command.now n.answer [] n.state =
    c.deref.ensures.value
    ∙ ((rw (c.in-Ok.ensures.network, c.in-Ok.ensures.step.1, c.in-Ok.ensures.step.0, c.new-show.ensures) at c.in-Ok-step_lines.ensures.text) [] tt) in
    c.update.ensures ∙ ap (λ xs. record c.args.digest.now { message = c.args.digest.now.message ++ xs }) (lines_are t s c.args.command.now show before _ text)
