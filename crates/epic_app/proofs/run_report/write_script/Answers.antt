use Rattle.std.proofs.Common.{rules, ◌≡◌, ◌+◌, ◌<◌, ◌≤◌, ◌||◌, List, [], ◌∷◌, ◌++◌, length, take, get_or, refl, ap, sym, subst, ◌∙◌, take_all, arith}
use Rattle.std.specs.List.{list_any}
use Rattle.epic_num.specs.declared.command.Command.{Command}
use Rattle.epic_topo.specs.Network.{Network}
use Rattle.epic_text.specs.Counts.{counts_of}
use Rattle.epic_model.specs.State.{start}
use Rattle.epic_model.specs.Steps.{next}
use Rattle.epic_world.specs.Run.{Done, done_by, run, run_from, state_after}
use Rattle.epic_world.proofs.Counted.{next_counts}
use Rattle.epic_app.specs.Acts.{world}
use Rattle.epic_app.specs.Keeping.{kept_in}
use Rattle.epic_app.specs.Noting.{offers_of, shows_alarm}
use Rattle.epic_app.specs.Policed.{ArePoliced}
use Rattle.epic_app.specs.RunReport.{all_verdicts, verdicts_in}
use Rattle.epic_app.specs.StepLines.{count_all}
use Rattle.epic_app.proofs.Acting.{performs_err, stays_both}
use Rattle.epic_app.proofs.RunLemmas.{next_alarm, next_state, next_steps, next_verdicts, count_all-counts}
use Rattle.epic_app.proofs.RunWriting.{all_done, next_done, opening_stopped, step_stopped}
use Rattle.epic_app.proofs.StepWriting.{nothing_done, stays_same}
use Rattle.epic_app.proofs.run_report.write_script.Goals as goal

pub loop-command-init : goal.loop-command-init
unfolding state_after run_from all_verdicts offers_of
loop-command-init g c =
    (refl, c.requires.new, nothing_done _, stays_same _ _, search rules, ap (λ (s : _). s.steps) c.requires.new, search rules, refl, rw c.requires.new c.requires.unused)

pub loop-command-preserved : goal.loop-command-preserved
loop-command-preserved g c =
    let kept = kept_in c.args.keep.now in
    let t = c.args.world.now.network in
    let show = c.args.show.now in
    let cs = c.args.commands.now in
    let i = c.loop-command.command-index in
    let d = c.command-item.result in
    let within : i < length cs = omega arith in
    let (network, state, done, stays, counts, steps, few, alarm, police) = c.loop-command.invariant in
    let is = c.command-item.is in
    let steps_so_far = run_from t start (take i cs) in
    let moment = c.loop-command.world.state.moment in
    let policed : ArePoliced c.loop-command.world.network show.police c.loop-command.police (offers_of steps_so_far) moment
    = subst (λ (n : Network). ArePoliced n show.police c.loop-command.police (offers_of steps_so_far) moment) (sym network) police in
    let done_now = done_by c.loop-command.world.network c.loop-command.world.state d in
    let then = c.write_step.new.world.state.moment in
    let last : steps_so_far ++ done_now ∷ [] ≡ run_from t start (take (i + 1) cs)
    = (λ k. steps_so_far ++ done_by (network k) (state k) (is k) ∷ []) ∙ sym (next_steps kept show t cs i d within) in
    let next_policed : ArePoliced t show.police c.write_step.new.police (offers_of (run_from t start (take (i + 1) cs))) then
    = subst (λ (ds : List Done). ArePoliced t show.police c.write_step.new.police (offers_of ds) then) last
    (subst (λ (n : Network). ArePoliced n show.police c.write_step.new.police (offers_of (steps_so_far ++ done_now ∷ [])) then) network
    (c.in_ok-tally.ensures.police steps_so_far policed)) in
    let v = world (g.S.Store.contents c.open_kept.new.store) (g.S.Store.reads c.open_kept.new.store) (g.S.Store.writes c.open_kept.new.store) (g.O.Sink.written c.args.out.now) (g.O.Sink.faults c.args.out.now) in
    let w = world (g.S.Store.contents c.loop-command.store) (g.S.Store.reads c.loop-command.store) (g.S.Store.writes c.loop-command.store) (g.O.Sink.written c.loop-command.out) (g.O.Sink.faults c.loop-command.out) in
    let x = world (g.S.Store.contents c.write_step.new.store) (g.S.Store.reads c.write_step.new.store) (g.S.Store.writes c.write_step.new.store) (g.O.Sink.written c.write_step.new.out) (g.O.Sink.faults c.write_step.new.out) in (
      c.in_ok-tally.ensures.network ∙ network,
      c.in_ok-tally.ensures.state ∙ ((λ k. (next (network k) (state k) (is k)).state) ∙ sym (next_state kept show t cs i d within)),
      next_done kept show t cs i c.loop-command.world.network c.loop-command.world.state d d v w x within network state is done (c.in_ok-tally.ensures.performs steps_so_far policed),
      stays_both kept v w x stays c.write_step.ensures.stays,
      c.in_ok-tally.ensures.counts
          ∙ ((λ k. count_all (counts k) (verdicts_in (next (network k) (state k) (is k)).answer))
          ∙ (count_all-counts 0 (all_verdicts (run_from t start (take i cs))) (verdicts_in (next t (state_after t start (take i cs)) (get_or cs i d)).answer) ∙ ap (counts_of 0) (sym (next_verdicts kept show t cs i d within)))),
      ap (λ (s : _). s.steps) c.in_ok-tally.ensures.state ∙ (next_counts c.loop-command.world.network c.loop-command.world.state d ∙ ap (λ n. n + 1) steps),
      omega (arith, c.in_ok-tally.ensures.total, few),
      c.in_ok-tally.ensures.alarm
          ∙ ((λ k. alarm k || shows_alarm show (network k) (done_by (network k) (state k) (is k)))
          ∙ sym (next_alarm kept show t cs i d within)),
      next_policed,
    )

pub returns-in_err-open_kept-clause-performs : goal.returns-in_err-open_kept-clause-performs
returns-in_err-open_kept-clause-performs g c =
    let e = c.in_err-open_kept.field-0.0 in
    performs_err _ _ _ _ _ e (search rules)
    (opening_stopped (kept_in c.args.keep.now) c.args.show.now c.args.world.now.network c.args.commands.now _ _ e
    ((c.in_err-open_kept.ensures (g.O.Sink.written c.args.out.now) (g.O.Sink.faults c.args.out.now)).0))

pub returns-in_err-open_kept-clause-stays : goal.returns-in_err-open_kept-clause-stays
returns-in_err-open_kept-clause-stays g c =
    (c.open_kept.ensures (g.O.Sink.written c.args.out.now) (g.O.Sink.faults c.args.out.now)).1

pub returns-in_err-tally-clause-performs : goal.returns-in_err-tally-clause-performs
returns-in_err-tally-clause-performs g c =
    let kept = kept_in c.args.keep.now in
    let t = c.args.world.now.network in
    let show = c.args.show.now in
    let cs = c.args.commands.now in
    let i = c.loop-command.command-index in
    let d = c.command-item.result in
    let within : i < length cs = omega arith in
    let (network, state, done, stays, counts, steps, few, alarm, police) = c.loop-command.invariant in
    let steps_so_far = run_from t start (take i cs) in
    let policed : ArePoliced c.loop-command.world.network show.police c.loop-command.police (offers_of steps_so_far) c.loop-command.world.state.moment
    = subst (λ (n : Network). ArePoliced n show.police c.loop-command.police (offers_of steps_so_far) c.loop-command.world.state.moment) (sym network) police in
    let u = world (g.S.Store.contents c.args.store.now) (g.S.Store.reads c.args.store.now) (g.S.Store.writes c.args.store.now) (g.O.Sink.written c.args.out.now) (g.O.Sink.faults c.args.out.now) in
    let v = world (g.S.Store.contents c.open_kept.new.store) (g.S.Store.reads c.open_kept.new.store) (g.S.Store.writes c.open_kept.new.store) (g.O.Sink.written c.args.out.now) (g.O.Sink.faults c.args.out.now) in
    let w = world (g.S.Store.contents c.loop-command.store) (g.S.Store.reads c.loop-command.store) (g.S.Store.writes c.loop-command.store) (g.O.Sink.written c.loop-command.out) (g.O.Sink.faults c.loop-command.out) in
    let x = world (g.S.Store.contents c.write_step.new.store) (g.S.Store.reads c.write_step.new.store) (g.S.Store.writes c.write_step.new.store) (g.O.Sink.written c.write_step.new.out) (g.O.Sink.faults c.write_step.new.out) in
    let opened = (c.in_ok-open_kept.ensures (g.O.Sink.written c.args.out.now) (g.O.Sink.faults c.args.out.now)).0 in
    let first = (c.open_kept.ensures (g.O.Sink.written c.args.out.now) (g.O.Sink.faults c.args.out.now)).1 in
    let e = c.in_err-tally.field-0.0 in
    performs_err _ _ _ _ _ e (search (rules, c.from_residual-in_err-tally, c.in_err-tally))
    (step_stopped kept show t cs i u v w x opened first done stays c.loop-command.world.network c.loop-command.world.state d d e within network state c.command-item.is (c.in_err-tally.ensures.performs steps_so_far policed))

pub returns-in_err-tally-clause-stays : goal.returns-in_err-tally-clause-stays
returns-in_err-tally-clause-stays g c =
    let kept = kept_in c.args.keep.now in
    let (network, state, done, stays, counts, steps, few, alarm, police) = c.loop-command.invariant in
    let first = (c.open_kept.ensures (g.O.Sink.written c.args.out.now) (g.O.Sink.faults c.args.out.now)).1 in
    stays_both kept _ _ _ (stays_both kept _ _ _ first stays) c.write_step.ensures.stays

pub returns-clause-performs : goal.returns-clause-performs
returns-clause-performs g c =
    let kept = kept_in c.args.keep.now in
    let cs = c.args.commands.now in
    let i = c.loop-command.command-index in
    let past : length cs ≤ i = omega arith in
    let (network, state, done, stays, counts, steps, few, alarm, police) = c.loop-command.invariant in
    let u = world (g.S.Store.contents c.args.store.now) (g.S.Store.reads c.args.store.now) (g.S.Store.writes c.args.store.now) (g.O.Sink.written c.args.out.now) (g.O.Sink.faults c.args.out.now) in
    let v = world (g.S.Store.contents c.open_kept.new.store) (g.S.Store.reads c.open_kept.new.store) (g.S.Store.writes c.open_kept.new.store) (g.O.Sink.written c.args.out.now) (g.O.Sink.faults c.args.out.now) in
    let w = world (g.S.Store.contents c.loop-command.store) (g.S.Store.reads c.loop-command.store) (g.S.Store.writes c.loop-command.store) (g.O.Sink.written c.loop-command.out) (g.O.Sink.faults c.loop-command.out) in
    let opened = (c.in_ok-open_kept.ensures (g.O.Sink.written c.args.out.now) (g.O.Sink.faults c.args.out.now)).0 in
    let first = (c.open_kept.ensures (g.O.Sink.written c.args.out.now) (g.O.Sink.faults c.args.out.now)).1 in
    all_done kept c.args.show.now c.args.world.now.network cs i u v w w opened first done stays past

pub returns-clause-state : goal.returns-clause-state
returns-clause-state g c =
    let cs = c.args.commands.now in
    let past : length cs ≤ c.loop-command.command-index = omega arith in
    let (network, state, done, stays, counts, steps, few, alarm, police) = c.loop-command.invariant in
    state ∙ ap (state_after c.args.world.now.network start) (take_all c.loop-command.command-index cs past)

pub returns-clause-counts : goal.returns-clause-counts
unfolding run
returns-clause-counts g c =
    let cs = c.args.commands.now in
    let past : length cs ≤ c.loop-command.command-index = omega arith in
    let (network, state, done, stays, counts, steps, few, alarm, police) = c.loop-command.invariant in
    counts ∙ ap (λ xs. counts_of 0 (all_verdicts (run_from c.args.world.now.network start xs))) (take_all c.loop-command.command-index cs past)

pub returns-clause-stays : goal.returns-clause-stays
returns-clause-stays g c =
    let kept = kept_in c.args.keep.now in
    let (network, state, done, stays, counts, steps, few, alarm, police) = c.loop-command.invariant in
    let first = (c.open_kept.ensures (g.O.Sink.written c.args.out.now) (g.O.Sink.faults c.args.out.now)).1 in
    stays_both kept _ _ _ first stays

pub returns-clause-alarm : goal.returns-clause-alarm
unfolding run
returns-clause-alarm g c =
    let cs = c.args.commands.now in
    let past : length cs ≤ c.loop-command.command-index = omega arith in
    let (network, state, done, stays, counts, steps, few, alarm, police) = c.loop-command.invariant in
    alarm ∙ ap (λ xs. list_any (shows_alarm c.args.show.now c.args.world.now.network) (run_from c.args.world.now.network start xs)) (take_all c.loop-command.command-index cs past)

pub returns-clause-police : goal.returns-clause-police
unfolding run
returns-clause-police g c =
    let cs = c.args.commands.now in
    let past : length cs ≤ c.loop-command.command-index = omega arith in
    let (network, state, done, stays, counts, steps, few, alarm, police) = c.loop-command.invariant in
    subst (λ (xs : List Command). ArePoliced c.args.world.now.network c.args.show.now.police c.loop-command.police
    (offers_of (run_from c.args.world.now.network start xs)) c.loop-command.world.state.moment) (take_all c.loop-command.command-index cs past) police
