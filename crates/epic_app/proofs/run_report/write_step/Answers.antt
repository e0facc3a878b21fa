use Rattle.std.proofs.Common.{rules, ◌≡◌, ◌||◌, ℕ, length, Ok, Err, ap, subst, ◌∙◌, arith}
use Rattle.epic_num.specs.declared.answer.Answer.{Answer}
use Rattle.epic_topo.specs.Lawful.{IsTopology}
use Rattle.epic_topo.specs.Network.{Network}
use Rattle.epic_model.specs.Steps.{next}
use Rattle.epic_world.specs.Run.{done_by}
use Rattle.epic_app.specs.Captures.{shown}
use Rattle.epic_app.specs.Keeping.{kept_in}
use Rattle.epic_app.specs.Noting.{notes_after, offers_of, shows_alarm}
use Rattle.epic_app.specs.Policed.{ArePoliced}
use Rattle.epic_app.specs.Telling.{mark_of}
use Rattle.epic_app.specs.RunReport.{answered_text, verdicts_in}
use Rattle.epic_app.proofs.Adding.{step_adds}
use Rattle.epic_app.proofs.Passages.{are_within}
use Rattle.epic_app.proofs.Acting.{performs_err, stays_both}
use Rattle.epic_app.proofs.EmissionsGrow.{emissions_grow, moments_rise}
use Rattle.epic_app.proofs.PolicedLaws.{offers_last, police_later}
use Rattle.epic_app.proofs.StepWriting.{lines_are, lines_stopped, stays_written, step_performed, stopped_same}
use Rattle.epic_app.proofs.Told.{answers_are_few, answers_are_notable, answers_are_told, verdicts_can_be_told}
use Rattle.epic_app.proofs.run_report.write_step.Goals as goal

pub returns-in-Err-clause-performs : goal.returns-in-Err-clause-performs
returns-in-Err-clause-performs g c = λ before policed. stopped_same _ _

pub step_lines-requires : goal.step_lines-requires
step_lines-requires g c =
    let t = c.args.world.now.network in
    let s = c.args.world.now.state in
    let topology = subst (λ (n : Network). IsTopology n) c.topology.ensures c.profile-profile.ensures.lawful in
    rw (c.in-Ok.ensures.network, c.in-Ok.ensures.step.1, c.in-Ok.ensures.step.0)
    (record {
      told = answers_are_told t s c.args.command.now topology c.fits.ensures c.ledger.ensures.world;
      notable = answers_are_notable t s c.args.command.now topology c.fits.ensures c.ledger.ensures.world;
    })

pub returns-in-Err-step_lines-clause-performs : goal.returns-in-Err-step_lines-clause-performs
returns-in-Err-step_lines-clause-performs g c = λ before policed. stopped_same _ _

pub step_files-requires : goal.step_files-requires
step_files-requires g c =
    let t = c.args.world.now.network in
    let s = c.args.world.now.state in
    let topology = subst (λ (n : Network). IsTopology n) c.topology.ensures c.profile-profile.ensures.lawful in
    let marked : c.held-before.result ≡ mark_of s.history = c.held-before.ensures ∙ ap mark_of c.ledger.ensures.history in
    rw (c.in-Ok.ensures.network, c.in-Ok.ensures.step.1, c.in-Ok.ensures.step.0, marked)
    (record {
      before = emissions_grow t s c.args.command.now;
      within = are_within t s c.args.command.now;
      told = verdicts_can_be_told t s c.args.command.now topology c.fits.ensures c.ledger.ensures.world;
    })

pub returns-in-Err-step_files-clause-performs : goal.returns-in-Err-step_files-clause-performs
returns-in-Err-step_files-clause-performs g c = λ before policed. stopped_same _ _

pub returns-in_err-write_text-clause-performs : goal.returns-in_err-write_text-clause-performs
returns-in_err-write_text-clause-performs g c = λ before policed.
    let t = c.args.world.now.network in
    let s = c.args.world.now.state in
    let n = next t s c.args.command.now in
    let number = shown c.args.show.now.script n.state.steps in
    let later : ArePoliced t c.args.show.now.police c.args.police.now (offers_of before) n.state.moment
    = police_later t c.args.show.now.police c.args.police.now (offers_of before) s.moment n.state.moment (moments_rise t s c.args.command.now) policed in
    let text : c.deref.result.now ≡ answered_text number t c.args.command.now n.answer
    (notes_after c.args.show.now t number (offers_of before) c.args.command.now n.answer n.state) n.state =
    c.deref.ensures.value
    ∙ ((rw (c.in-Ok.ensures.network, c.in-Ok.ensures.step.1, c.in-Ok.ensures.step.0) at c.in-Ok-step_lines.ensures.text) (offers_of before) later) in
    let e = c.in_err-write_text.field-0.0 in
    performs_err _ _ _ _ _ e (search rules)
    (lines_stopped (kept_in c.args.keep.now) c.args.show.now t before s c.args.command.now
    (g.S.Store.contents c.args.store.now) (g.S.Store.reads c.args.store.now) (g.S.Store.writes c.args.store.now)
    (g.O.Sink.written c.args.out.now) (g.O.Sink.written c.write_text.new.out)
    (g.O.Sink.faults c.args.out.now) (g.O.Sink.faults c.write_text.new.out)
    c.deref.result.now (lines_are t s c.args.command.now c.args.show.now before _ text) e c.in_err-write_text.ensures.text)

pub returns-in_err-add_kept-clause-performs : goal.returns-in_err-add_kept-clause-performs
returns-in_err-add_kept-clause-performs g c = λ before policed.
    let t = c.args.world.now.network in
    let s = c.args.world.now.state in
    let n = next t s c.args.command.now in
    let number = shown c.args.show.now.script n.state.steps in
    let later : ArePoliced t c.args.show.now.police c.args.police.now (offers_of before) n.state.moment
    = police_later t c.args.show.now.police c.args.police.now (offers_of before) s.moment n.state.moment (moments_rise t s c.args.command.now) policed in
    let text : c.deref.result.now ≡ answered_text number t c.args.command.now n.answer
    (notes_after c.args.show.now t number (offers_of before) c.args.command.now n.answer n.state) n.state =
    c.deref.ensures.value
    ∙ ((rw (c.in-Ok.ensures.network, c.in-Ok.ensures.step.1, c.in-Ok.ensures.step.0) at c.in-Ok-step_lines.ensures.text) (offers_of before) later) in
    let written = g.O.Sink.written c.write_text.new.out in
    let faults = g.O.Sink.faults c.write_text.new.out in
    let acts = step_adds c.args.keep.now t s c.args.command.now c.in-Ok-step_files.added.saved.items c.in-Ok-step_files.added.ledger.items c.in-Ok-step_files.added.verdicts.items
    c.held-before.result (c.held-before.ensures ∙ ap mark_of c.ledger.ensures.history)
    (rw c.in-Ok.ensures.step.1 at c.in-Ok-step_files.ensures.saved)
    (rw (c.in-Ok.ensures.step.1, c.in-Ok.ensures.step.0) at c.in-Ok-step_files.ensures.ledger)
    (rw (c.in-Ok.ensures.network, c.in-Ok.ensures.step.1, c.in-Ok.ensures.step.0) at c.in-Ok-step_files.ensures.verdicts) in
    let e = c.in_err-add_kept.field-0.0 in
    performs_err _ _ _ _ _ e (search rules)
    (step_performed (kept_in c.args.keep.now) c.args.show.now t before s c.args.command.now
    (g.S.Store.contents c.args.store.now) (g.S.Store.reads c.args.store.now) (g.S.Store.writes c.args.store.now)
    (g.O.Sink.written c.args.out.now) written (g.O.Sink.faults c.args.out.now) faults
    c.deref.result.now (lines_are t s c.args.command.now c.args.show.now before _ text)
    {X = ℕ} _ (Err e) c.in_ok-write_text.ensures.text c.write_text.ensures.later
    (rw acts at (c.in_err-add_kept.ensures written faults).0))

pub returns-in_err-add_kept-clause-stays : goal.returns-in_err-add_kept-clause-stays
returns-in_err-add_kept-clause-stays g c =
    stays_both (kept_in c.args.keep.now) _ _ _
    (stays_written _ (g.S.Store.contents c.args.store.now) (g.S.Store.reads c.args.store.now) (g.S.Store.writes c.args.store.now)
    (g.O.Sink.written c.args.out.now) (g.O.Sink.written c.write_text.new.out) _ _ c.write_text.ensures.later)
    (c.add_kept.ensures (g.O.Sink.written c.write_text.new.out) (g.O.Sink.faults c.write_text.new.out)).1

pub count-requires : goal.count-requires
count-requires g c =
    let t = c.args.world.now.network in
    let s = c.args.world.now.state in
    let topology = subst (λ (n : Network). IsTopology n) c.topology.ensures c.profile-profile.ensures.lawful in
    let few = ap (λ (a : Answer). length (verdicts_in a)) c.in-Ok.ensures.step.0 in
    record { few = omega (arith, few, c.requires.room, answers_are_few t s c.args.command.now topology c.fits.ensures c.ledger.ensures.world) }

pub returns-clause-total : goal.returns-clause-total
returns-clause-total g c =
    let t = c.args.world.now.network in
    let s = c.args.world.now.state in
    let topology = subst (λ (n : Network). IsTopology n) c.topology.ensures c.profile-profile.ensures.lawful in
    let few = ap (λ (a : Answer). length (verdicts_in a)) c.in-Ok.ensures.step.0 in
    omega (arith, few, c.count.ensures.total, answers_are_few t s c.args.command.now topology c.fits.ensures c.ledger.ensures.world)

pub returns-clause-performs : goal.returns-clause-performs
returns-clause-performs g c = λ before policed.
    let t = c.args.world.now.network in
    let s = c.args.world.now.state in
    let n = next t s c.args.command.now in
    let number = shown c.args.show.now.script n.state.steps in
    let later : ArePoliced t c.args.show.now.police c.args.police.now (offers_of before) n.state.moment
    = police_later t c.args.show.now.police c.args.police.now (offers_of before) s.moment n.state.moment (moments_rise t s c.args.command.now) policed in
    let text : c.deref.result.now ≡ answered_text number t c.args.command.now n.answer
    (notes_after c.args.show.now t number (offers_of before) c.args.command.now n.answer n.state) n.state =
    c.deref.ensures.value
    ∙ ((rw (c.in-Ok.ensures.network, c.in-Ok.ensures.step.1, c.in-Ok.ensures.step.0) at c.in-Ok-step_lines.ensures.text) (offers_of before) later) in
    let written = g.O.Sink.written c.write_text.new.out in
    let faults = g.O.Sink.faults c.write_text.new.out in
    let acts = step_adds c.args.keep.now t s c.args.command.now c.in-Ok-step_files.added.saved.items c.in-Ok-step_files.added.ledger.items c.in-Ok-step_files.added.verdicts.items
    c.held-before.result (c.held-before.ensures ∙ ap mark_of c.ledger.ensures.history)
    (rw c.in-Ok.ensures.step.1 at c.in-Ok-step_files.ensures.saved)
    (rw (c.in-Ok.ensures.step.1, c.in-Ok.ensures.step.0) at c.in-Ok-step_files.ensures.ledger)
    (rw (c.in-Ok.ensures.network, c.in-Ok.ensures.step.1, c.in-Ok.ensures.step.0) at c.in-Ok-step_files.ensures.verdicts) in
    step_performed (kept_in c.args.keep.now) c.args.show.now t before s c.args.command.now
    (g.S.Store.contents c.args.store.now) (g.S.Store.reads c.args.store.now) (g.S.Store.writes c.args.store.now)
    (g.O.Sink.written c.args.out.now) written (g.O.Sink.faults c.args.out.now) faults
    c.deref.result.now (lines_are t s c.args.command.now c.args.show.now before _ text)
    {X = ℕ} _ (Ok 0) c.in_ok-write_text.ensures.text c.write_text.ensures.later
    (rw acts at (c.in_ok-add_kept.ensures written faults).0)

pub returns-clause-stays : goal.returns-clause-stays
returns-clause-stays g c =
    stays_both (kept_in c.args.keep.now) _ _ _
    (stays_written _ (g.S.Store.contents c.args.store.now) (g.S.Store.reads c.args.store.now) (g.S.Store.writes c.args.store.now)
    (g.O.Sink.written c.args.out.now) (g.O.Sink.written c.write_text.new.out) _ _ c.write_text.ensures.later)
    (c.add_kept.ensures (g.O.Sink.written c.write_text.new.out) (g.O.Sink.faults c.write_text.new.out)).1

pub returns-clause-police : goal.returns-clause-police
unfolding done_by
returns-clause-police g c = λ before policed.
    let t = c.args.world.now.network in
    let s = c.args.world.now.state in
    let n = next t s c.args.command.now in
    let later : ArePoliced t c.args.show.now.police c.args.police.now (offers_of before) n.state.moment
    = police_later t c.args.show.now.police c.args.police.now (offers_of before) s.moment n.state.moment (moments_rise t s c.args.command.now) policed in
    rw (offers_last before (done_by t s c.args.command.now), c.in-Ok.ensures.step.1)
    ((rw (c.in-Ok.ensures.network, c.in-Ok.ensures.step.1, c.in-Ok.ensures.step.0) at c.in-Ok-step_lines.ensures.police) (offers_of before) later)

pub returns-clause-alarm : goal.returns-clause-alarm
unfolding shows_alarm done_by
returns-clause-alarm g c =
    ap (λ b. c.args.tally.alarm || b) (rw (c.in-Ok.ensures.network, c.in-Ok.ensures.step.1, c.in-Ok.ensures.step.0) at c.in-Ok-step_lines.ensures.alarm)
