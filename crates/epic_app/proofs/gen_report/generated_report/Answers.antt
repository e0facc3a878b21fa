use Rattle.std.proofs.Common.{rules, ◌≡◌, ◌+◌, ◌*◌, ◌<◌, ◌≤◌, ◌++◌, length, take, get_or, [], sym, ap, ◌∙◌, arith}
use Rattle.std.proofs.lemmas.Option.{get_or_from_slice_get, slice_get_within}
use Rattle.epic_gen.specs.Names.{generator_key}
use Rattle.epic_gen.specs.Script.{generated}
use Rattle.epic_gen.proofs.Places.{length-generated}
use Rattle.epic_text.specs.Counts.{counts_of}
use Rattle.epic_model.specs.State.{start}
use Rattle.epic_model.specs.Steps.{next}
use Rattle.epic_world.specs.Run.{done_by, run_from, state_after}
use Rattle.epic_world.proofs.Counted.{next_counts}
use Rattle.epic_app.specs.Generating.{plainly}
use Rattle.epic_app.specs.RunReport.{all_verdicts, step_text, steps_text, verdicts_in}
use Rattle.epic_app.specs.StepLines.{count_all}
use Rattle.epic_app.proofs.GenSteps.{gen_alarm, gen_whole, next_text, possible_at}
use Rattle.epic_app.proofs.RunLemmas.{next_state, next_verdicts, count_all-counts}
use Rattle.epic_app.proofs.gen_report.generated_report.Goals as goal

pub loop-place-preserved : goal.loop-place-preserved
loop-place-preserved c =
    let t = c.args.topo in
    let n = 14 + 3 * c.args.packets in
    let cs = generated c.args.seed c.args.packets in
    let i = c.loop-place.place in
    let d = c.in-Ok.command in
    let is : d ≡ get_or cs i d = sym (get_or_from_slice_get cs i d d c.in-Ok.ensures) in
    let within : i < length cs = slice_get_within cs i d c.in-Ok.ensures in
    let steps_so_far = run_from t start (take i cs) in
    let (network, state, digest, counts, steps, few) = c.loop-place.invariant in (
      c.in_ok-counts.ensures.network ∙ network,
      c.in_ok-counts.ensures.state ∙ ((λ k. (next (network k) (state k) (is k)).state) ∙ sym (next_state [] (plainly n) t cs i d within)),
      c.in_ok-counts.ensures.digest steps_so_far
          ∙ ((λ k. record (digest k) { message = (digest k).message ++ step_text (plainly n) (network k) steps_so_far (done_by (network k) (state k) (is k)) })
          ∙ ap (λ m. record { key = generator_key; message = m }) (sym (next_text (plainly n) t cs i d within))),
      c.in_ok-counts.ensures.counts
          ∙ ((λ k. count_all (counts k) (verdicts_in (next (network k) (state k) (is k)).answer))
          ∙ (count_all-counts 0 (all_verdicts (run_from t start (take i cs))) (verdicts_in (next t (state_after t start (take i cs)) (get_or cs i d)).answer) ∙ ap (counts_of 0) (sym (next_verdicts [] (plainly n) t cs i d within)))),
      ap (λ (s : _). s.steps) c.in_ok-counts.ensures.state ∙ (next_counts c.loop-place.world.network c.loop-place.world.state d ∙ ap (λ n. n + 1) steps),
      omega (arith, c.in_ok-counts.ensures.total, few),
    )

pub loop-place-init : goal.loop-place-init
unfolding state_after run_from all_verdicts steps_text
loop-place-init c = (
  c.new-world.ensures.network,
  c.new-world.ensures.state,
  c.generator_tag-digest.ensures,
  search rules,
  ap (λ (s : _). s.steps) c.new-world.ensures.state,
  search rules,
)

pub digest_step-requires-clause-possible : goal.digest_step-requires-clause-possible
digest_step-requires-clause-possible c =
    possible_at c.args.seed c.args.packets c.loop-place.place c.in-Ok.command c.requires c.in-Ok.ensures

pub returns-clause-text : goal.returns-clause-text
returns-clause-text c =
    let n = 14 + 3 * c.args.packets in
    let past : n ≤ c.loop-place.place = omega arith in
    let (network, state, digest, counts, steps, few) = c.loop-place.invariant in
    c.in_ok-text.ensures
    ∙ gen_whole c.args.topo (generated c.args.seed c.args.packets) c.loop-place.place n c.loop-place.counts c.loop-place.digest.message
    (length-generated c.args.seed c.args.packets) past counts (ap (λ (f : _). f.message) digest)

pub returns-clause-alarm : goal.returns-clause-alarm
returns-clause-alarm c =
    let n = 14 + 3 * c.args.packets in
    let past : n ≤ c.loop-place.place = omega arith in
    let (network, state, digest, counts, steps, few) = c.loop-place.invariant in
    c.tells_alarm.ensures
    ∙ gen_alarm c.args.topo (generated c.args.seed c.args.packets) c.loop-place.place n c.loop-place.counts
    (length-generated c.args.seed c.args.packets) past counts
