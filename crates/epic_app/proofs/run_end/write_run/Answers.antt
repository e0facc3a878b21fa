use Rattle.std.proofs.Common.{ℕ, List, ◌∷◌, Option, Contains, length, None, refl, subst, sym, ◌∙◌, arith}
use Rattle.std.specs.Borrow.{Bor}
use Rattle.std.specs.Option.{option_map, option_to_list}
use Rattle.epic_app.specs.declared.taking.Records.{Records}
use Rattle.epic_ports.specs.declared.error.PortError.TheVariants.{OutOfMemory}
use Rattle.epic_topo.specs.Network.{Network}
use Rattle.epic_words.specs.Answers.{names_in}
use Rattle.epic_world.specs.Run.{run}
use Rattle.epic_app.specs.Acts.{World, world}
use Rattle.epic_app.specs.Doing.{showing, steps_acts}
use Rattle.epic_app.specs.Keeping.{kept_by}
use Rattle.epic_app.specs.Noting.{offers_of}
use Rattle.epic_app.specs.Policed.{ArePoliced}
use Rattle.epic_app.specs.End.{end_after}
use Rattle.epic_app.specs.RunEnding.{IsBehind, RunEnds}
use Rattle.epic_app.specs.Showing.{Showing}
use Rattle.epic_app.proofs.Apart.{spared}
use Rattle.epic_app.proofs.RanLaws.{took_none, works_of, works_read}
use Rattle.epic_app.proofs.RunEndLaws.{run_alone, run_stopped}
use Rattle.epic_app.proofs.StepWriting.{keeps_all, stopped_same}
use Rattle.epic_app.proofs.run_end.write_run.Goals as goal

pub returns-in-Err : goal.returns-in-Err
returns-in-Err g c =
    let kept = kept_by (names_in c.args.words.now) in
    let capture = option_map (λ (name : _). name.now) c.args.words.now.capture in
    let old : World = world (g.S.Store.contents c.args.store.now) (g.S.Store.reads c.args.store.now) (g.S.Store.writes c.args.store.now) (g.O.Sink.written c.args.out.now) (g.O.Sink.faults c.args.out.now) in
    let new : World = world (g.S.Store.contents c.write_script.new.store) (g.S.Store.reads c.write_script.new.store) (g.S.Store.writes c.write_script.new.store) (g.O.Sink.written c.write_script.new.out) (g.O.Sink.faults c.write_script.new.out) in
    rw c.ended.ensures
    (run_stopped capture kept (showing (names_in c.args.words.now) (length c.args.commands.now)) c.args.topo c.args.commands.now old new c.in-Err.error
    (rw (c.new-world.ensures.network, c.new-show.ensures) at c.in-Err.ensures.performs)
    c.write_script.ensures.stays.reads (works_of kept old new c.write_script.ensures.stays))

pub returns : goal.returns
returns g c =
    let t = c.args.topo in
    let cs = c.args.commands.now in
    let kept = kept_by (names_in c.args.words.now) in
    let x : Records = record {
      alloc = c.args.alloc;
      world = c.write_script.new.world;
      police = c.write_script.new.police;
      tally = c.in-Ok-write_script.tally;
      show = c.new-show.result;
      keep = record { save = c.args.words.now.save; ledger = c.args.words.now.ledger; verdicts = c.args.words.now.verdicts };
    } in
    let u : World = world (g.S.Store.contents c.args.store.now) (g.S.Store.reads c.args.store.now) (g.S.Store.writes c.args.store.now) (g.O.Sink.written c.args.out.now) (g.O.Sink.faults c.args.out.now) in
    let old : World = world (g.S.Store.contents c.write_script.new.store) (g.S.Store.reads c.write_script.new.store) (g.S.Store.writes c.write_script.new.store) (g.O.Sink.written c.write_script.new.out) (g.O.Sink.faults c.write_script.new.out) in
    let new : World = world (g.S.Store.contents c.write_script.new.store) (g.S.Store.reads c.write_script.new.store) (g.S.Store.writes c.write_script.new.store) (g.O.Sink.written c.write_last.new.out) (g.O.Sink.faults c.write_last.new.out) in
    let behind : IsBehind x t cs u old = record {
      network = c.write_script.ensures.network ∙ c.new-world.ensures.network;
      state = rw c.new-world.ensures.network at c.in-Ok-write_script.ensures.state;
      steps = c.in-Ok-write_script.ensures.steps;
      counts = rw c.new-world.ensures.network at c.in-Ok-write_script.ensures.counts;
      few = c.requires.few;
      total = c.in-Ok-write_script.ensures.total;
      alarm = rw c.new-world.ensures.network at c.in-Ok-write_script.ensures.alarm;
      police =
          let raw : ArePoliced t c.new-show.result.police c.write_script.new.police (offers_of (run t cs)) c.write_script.new.world.state.moment
          = rw c.new-world.ensures.network at c.in-Ok-write_script.ensures.police in
          subst (λ (n : Network). ArePoliced n c.new-show.result.police c.write_script.new.police (offers_of (run t cs)) c.write_script.new.world.state.moment)
          (sym (c.write_script.ensures.network ∙ c.new-world.ensures.network)) raw;
      done = rw c.new-world.ensures.network at c.in-Ok-write_script.ensures.performs;
      works = works_of kept u old c.write_script.ensures.stays;
      reads = c.write_script.ensures.stays.reads;
    } in
    let ended : RunEnds None kept (showing (names_in c.args.words.now) (length cs)) t cs u new (end_after c.write_last.result) =
    subst (λ (show : Showing). RunEnds None kept show t cs u new (end_after c.write_last.result)) c.new-show.ensures
    (run_alone x t cs u old new c.write_last.result behind (took_none x old) (keeps_all (g.S.Store.contents c.write_script.new.store))
    c.write_last.ensures.text c.write_last.ensures.forged refl
    (works_read kept old new (keeps_all (g.S.Store.contents c.write_script.new.store)) c.write_last.ensures.later refl)) in
    rw (c.ended-in-None.ensures, c.in-None.is) ended

pub returns-in_default : goal.returns-in_default
returns-in_default g c =
    let kept = kept_by (names_in c.args.words.now) in
    let capture = option_map (λ (name : _). name.now) c.args.words.now.capture in
    let t = c.args.topo in
    let cs = c.args.commands.now in
    let show = showing (names_in c.args.words.now) (length cs) in
    let w : World = world (g.S.Store.contents c.args.store.now) (g.S.Store.reads c.args.store.now) (g.S.Store.writes c.args.store.now) (g.O.Sink.written c.args.out.now) (g.O.Sink.faults c.args.out.now) in
    run_stopped capture kept show t cs w w OutOfMemory (stopped_same (steps_acts kept show t (run t cs)) w) refl
    (works_read kept w w (keeps_all w.contents) (omega arith) refl)

pub write_capture-requires-clause-spares : goal.write_capture-requires-clause-spares
write_capture-requires-clause-spares g c =
    let r = names_in c.args.words.now in
    let there = subst (λ (o : Option (Bor (List ℕ))). Contains (r.topology ∷ r.script ∷ option_to_list (option_map (λ (name : Bor (List ℕ)). name.now) o)) c.in-Some.name.now)
    (sym c.in-Some.is) (2, omega arith, refl) in
    spared r c.in-Some.name.now c.requires.unshared there
