use Rattle.std.proofs.Common.{◌≡◌, Bool, IfOk, ap, subst, ◌∙◌}
use Rattle.epic_topo.specs.Network.{Network}
use Rattle.epic_gen.specs.Script.{generated}
use Rattle.epic_gen.specs.Topology.{generated_network}
use Rattle.epic_world.specs.Run.{run}
use Rattle.epic_app.specs.Generating.{gen_text, generated_steps}
use Rattle.epic_app.specs.RunReport.{has_alarm}
use Rattle.epic_app.proofs.CommandEnds.{gen_answered, gen_memory}
use Rattle.epic_app.proofs.generating.generate.Goals as goal

pub returns-in_default : goal.returns-in_default
returns-in_default g c = λ contents reads writes. gen_memory c.args.words.now.seed c.args.words.now.packets _

pub returns-in-Err : goal.returns-in-Err
returns-in-Err g c = λ contents reads writes. gen_memory c.args.words.now.seed c.args.words.now.packets _

pub returns : goal.returns
unfolding generated_steps
returns g c =
    let seed = c.args.words.now.seed in
    let packets = c.args.words.now.packets in
    let cs = generated seed packets in
    let text : c.deref.result.now ≡ gen_text (generated_network seed) (generated_steps seed packets) =
    c.deref.ensures.value ∙ (c.in-Ok-generated_report.ensures.text ∙ ap (λ (t : Network). gen_text t (run t cs)) c.in-Ok.ensures) in
    let alarm = c.in-Ok-generated_report.ensures.alarm ∙ ap (λ (t : Network). has_alarm (run t cs)) c.in-Ok.ensures in
    λ contents reads writes.
    rw c.ended.ensures
    (gen_answered seed packets contents reads writes _ _ _ _ c.deref.result.now c.write_answer.result text c.write_answer.ensures.text
    (subst (λ (a : Bool). IfOk c.write_answer.result (λ b. b ≡ a)) alarm c.write_answer.ensures.answer))
