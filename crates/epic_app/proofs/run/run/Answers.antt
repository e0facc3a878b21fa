use Rattle.std.proofs.Common.{arith}
use Rattle.epic_ports.proofs.Appended.{Appends-none}
use Rattle.epic_text.proofs.Spelled.{commands_spelled}
use Rattle.epic_words.specs.Answers.{names_in}
use Rattle.epic_app.specs.Acts.{World, world}
use Rattle.epic_app.proofs.CommandEnds.{run_answered, run_refused_first, run_refused_second}
use Rattle.epic_app.proofs.Possible.{script_possible}
use Rattle.epic_app.proofs.run.run.Goals as goal

pub returns-in-Err : goal.returns-in-Err
returns-in-Err g c =
    let old : World = world (g.S.Store.contents c.args.store.now) (g.S.Store.reads c.args.store.now) (g.S.Store.writes c.args.store.now) (g.O.Sink.written c.args.out.now) (g.O.Sink.faults c.args.out.now) in
    let mid : World = world (g.S.Store.contents c.topology_in.new.store) (g.S.Store.reads c.topology_in.new.store) (g.S.Store.writes c.topology_in.new.store) (g.O.Sink.written c.args.out.now) (g.O.Sink.faults c.args.out.now) in
    run_refused_first (names_in c.args.words.now) old mid c.in-Err.end
    c.topology_in.ensures.contents c.topology_in.ensures.reads c.topology_in.ensures.writes c.in-Err.ensures.leads (Appends-none _)

pub returns-in-Err-commands_in : goal.returns-in-Err-commands_in
returns-in-Err-commands_in g c =
    let old : World = world (g.S.Store.contents c.args.store.now) (g.S.Store.reads c.args.store.now) (g.S.Store.writes c.args.store.now) (g.O.Sink.written c.args.out.now) (g.O.Sink.faults c.args.out.now) in
    let mid : World = world (g.S.Store.contents c.topology_in.new.store) (g.S.Store.reads c.topology_in.new.store) (g.S.Store.writes c.topology_in.new.store) (g.O.Sink.written c.args.out.now) (g.O.Sink.faults c.args.out.now) in
    let late : World = world (g.S.Store.contents c.commands_in.new.store) (g.S.Store.reads c.commands_in.new.store) (g.S.Store.writes c.commands_in.new.store) (g.O.Sink.written c.args.out.now) (g.O.Sink.faults c.args.out.now) in
    run_refused_second (names_in c.args.words.now) old mid late
    c.topology_in.ensures.contents c.commands_in.ensures.contents c.topology_in.ensures.reads c.commands_in.ensures.reads c.topology_in.ensures.writes c.commands_in.ensures.writes
    c.in-Ok.topo c.in-Ok.ensures.leads c.in-Err-commands_in.end c.in-Err-commands_in.ensures.leads (Appends-none _)

pub write_run-requires-clause-possible : goal.write_run-requires-clause-possible
write_run-requires-clause-possible g c =
    let (text, are) = c.in-Ok-commands_in.ensures.spelled in
    rw c.deref.ensures.value (script_possible commands_spelled text c.in-Ok-commands_in.commands.items are)

pub write_run-requires-clause-few : goal.write_run-requires-clause-few
write_run-requires-clause-few g c = rw c.deref.ensures.value c.in-Ok-commands_in.ensures.few

pub returns : goal.returns
returns g c =
    let old : World = world (g.S.Store.contents c.args.store.now) (g.S.Store.reads c.args.store.now) (g.S.Store.writes c.args.store.now) (g.O.Sink.written c.args.out.now) (g.O.Sink.faults c.args.out.now) in
    let mid : World = world (g.S.Store.contents c.topology_in.new.store) (g.S.Store.reads c.topology_in.new.store) (g.S.Store.writes c.topology_in.new.store) (g.O.Sink.written c.args.out.now) (g.O.Sink.faults c.args.out.now) in
    let late : World = world (g.S.Store.contents c.commands_in.new.store) (g.S.Store.reads c.commands_in.new.store) (g.S.Store.writes c.commands_in.new.store) (g.O.Sink.written c.args.out.now) (g.O.Sink.faults c.args.out.now) in
    let new : World = world (g.S.Store.contents c.write_run.new.store) (g.S.Store.reads c.write_run.new.store) (g.S.Store.writes c.write_run.new.store) (g.O.Sink.written c.write_run.new.out) (g.O.Sink.faults c.write_run.new.out) in
    run_answered (names_in c.args.words.now) old mid late
    c.topology_in.ensures.contents c.commands_in.ensures.contents c.topology_in.ensures.reads c.commands_in.ensures.reads c.topology_in.ensures.writes c.commands_in.ensures.writes
    c.in-Ok.topo c.in-Ok.ensures.leads new c.in-Ok-commands_in.commands c.write_run.result c.in-Ok-commands_in.ensures.leads (Appends-none _) (omega arith)
    (rw c.deref.ensures.value at c.write_run.ensures)
