use Rattle.std.proofs.Common.{Ok, Err}
use Rattle.epic_ports.proofs.Appended.{Appends-none}
use Rattle.epic_app.specs.Acts.{World, world}
use Rattle.epic_app.proofs.JudgeEnds.{among_first, among_second, among_third, has_read, judge_first, judge_said, judge_second, judge_third, judge_unsaid, judges_same}
use Rattle.epic_app.proofs.judge.judge.Goals as goal

pub returns-in-Err : goal.returns-in-Err
returns-in-Err g c =
    let m = c.args.words.now.topology.now in
    let n = c.args.words.now.ledger.now in
    let o = c.args.words.now.verdicts.now in
    let old : World = world (g.S.Store.contents c.args.store.now) (g.S.Store.reads c.args.store.now) (g.S.Store.writes c.args.store.now) (g.O.Sink.written c.args.out.now) (g.O.Sink.faults c.args.out.now) in
    let a : World = world (g.S.Store.contents c.topology_in.new.store) (g.S.Store.reads c.topology_in.new.store) (g.S.Store.writes c.topology_in.new.store) (g.O.Sink.written c.args.out.now) (g.O.Sink.faults c.args.out.now) in
    judge_first m n o old a
    (has_read _ m old a (among_first m n o) c.topology_in.ensures.contents c.topology_in.ensures.reads c.topology_in.ensures.writes)
    c.in-Err.end c.in-Err.ensures.leads (Appends-none _)

pub returns-in-Err-judged_in : goal.returns-in-Err-judged_in
returns-in-Err-judged_in g c =
    let m = c.args.words.now.topology.now in
    let n = c.args.words.now.ledger.now in
    let o = c.args.words.now.verdicts.now in
    let old : World = world (g.S.Store.contents c.args.store.now) (g.S.Store.reads c.args.store.now) (g.S.Store.writes c.args.store.now) (g.O.Sink.written c.args.out.now) (g.O.Sink.faults c.args.out.now) in
    let a : World = world (g.S.Store.contents c.topology_in.new.store) (g.S.Store.reads c.topology_in.new.store) (g.S.Store.writes c.topology_in.new.store) (g.O.Sink.written c.args.out.now) (g.O.Sink.faults c.args.out.now) in
    let b : World = world (g.S.Store.contents c.judged_in.new.store) (g.S.Store.reads c.judged_in.new.store) (g.S.Store.writes c.judged_in.new.store) (g.O.Sink.written c.args.out.now) (g.O.Sink.faults c.args.out.now) in
    judge_second m n o old a b
    (has_read _ m old a (among_first m n o) c.topology_in.ensures.contents c.topology_in.ensures.reads c.topology_in.ensures.writes)
    (has_read _ n a b (among_second m n o) c.judged_in.ensures.contents c.judged_in.ensures.reads c.judged_in.ensures.writes)
    c.in-Ok.topo c.in-Ok.ensures.leads c.in-Err-judged_in.end c.in-Err-judged_in.ensures.leads (Appends-none _)

pub returns-in-Err-judged_in-2 : goal.returns-in-Err-judged_in-2
returns-in-Err-judged_in-2 g c =
    let m = c.args.words.now.topology.now in
    let n = c.args.words.now.ledger.now in
    let o = c.args.words.now.verdicts.now in
    let old : World = world (g.S.Store.contents c.args.store.now) (g.S.Store.reads c.args.store.now) (g.S.Store.writes c.args.store.now) (g.O.Sink.written c.args.out.now) (g.O.Sink.faults c.args.out.now) in
    let a : World = world (g.S.Store.contents c.topology_in.new.store) (g.S.Store.reads c.topology_in.new.store) (g.S.Store.writes c.topology_in.new.store) (g.O.Sink.written c.args.out.now) (g.O.Sink.faults c.args.out.now) in
    let b : World = world (g.S.Store.contents c.judged_in.new.store) (g.S.Store.reads c.judged_in.new.store) (g.S.Store.writes c.judged_in.new.store) (g.O.Sink.written c.args.out.now) (g.O.Sink.faults c.args.out.now) in
    let new : World = world (g.S.Store.contents c.judged_in-2.new.store) (g.S.Store.reads c.judged_in-2.new.store) (g.S.Store.writes c.judged_in-2.new.store) (g.O.Sink.written c.args.out.now) (g.O.Sink.faults c.args.out.now) in
    judge_third m n o old a b
    (has_read _ m old a (among_first m n o) c.topology_in.ensures.contents c.topology_in.ensures.reads c.topology_in.ensures.writes)
    (has_read _ n a b (among_second m n o) c.judged_in.ensures.contents c.judged_in.ensures.reads c.judged_in.ensures.writes)
    c.in-Ok.topo c.in-Ok.ensures.leads new
    (has_read _ o b new (among_third m n o) c.judged_in-2.ensures.contents c.judged_in-2.ensures.reads c.judged_in-2.ensures.writes)
    c.in-Ok-judged_in.ledger c.in-Ok-judged_in.ensures.leads c.in-Err-judged_in-2.end c.in-Err-judged_in-2.ensures.leads (Appends-none _)

pub returns-in-Err-judged : goal.returns-in-Err-judged
returns-in-Err-judged g c =
    let m = c.args.words.now.topology.now in
    let n = c.args.words.now.ledger.now in
    let o = c.args.words.now.verdicts.now in
    let old : World = world (g.S.Store.contents c.args.store.now) (g.S.Store.reads c.args.store.now) (g.S.Store.writes c.args.store.now) (g.O.Sink.written c.args.out.now) (g.O.Sink.faults c.args.out.now) in
    let a : World = world (g.S.Store.contents c.topology_in.new.store) (g.S.Store.reads c.topology_in.new.store) (g.S.Store.writes c.topology_in.new.store) (g.O.Sink.written c.args.out.now) (g.O.Sink.faults c.args.out.now) in
    let b : World = world (g.S.Store.contents c.judged_in.new.store) (g.S.Store.reads c.judged_in.new.store) (g.S.Store.writes c.judged_in.new.store) (g.O.Sink.written c.args.out.now) (g.O.Sink.faults c.args.out.now) in
    let new : World = world (g.S.Store.contents c.judged_in-2.new.store) (g.S.Store.reads c.judged_in-2.new.store) (g.S.Store.writes c.judged_in-2.new.store) (g.O.Sink.written c.args.out.now) (g.O.Sink.faults c.args.out.now) in
    judge_unsaid m n o old a b
    (has_read _ m old a (among_first m n o) c.topology_in.ensures.contents c.topology_in.ensures.reads c.topology_in.ensures.writes)
    (has_read _ n a b (among_second m n o) c.judged_in.ensures.contents c.judged_in.ensures.reads c.judged_in.ensures.writes)
    c.in-Ok.topo c.in-Ok.ensures.leads new
    (has_read _ o b new (among_third m n o) c.judged_in-2.ensures.contents c.judged_in-2.ensures.reads c.judged_in-2.ensures.writes)
    c.in-Ok-judged_in.ledger c.in-Ok-judged_in.ensures.leads c.in-Ok-judged_in-2.verdicts c.in-Ok-judged_in-2.ensures.leads
    c.in-Err-judged.end
    (judges_same c.in-Ok.topo _ _ _ _ (Err c.in-Err-judged.end) c.deref.ensures.value c.deref-2.ensures.value c.in-Err-judged.ensures) (Appends-none _)

pub returns : goal.returns
returns g c =
    let m = c.args.words.now.topology.now in
    let n = c.args.words.now.ledger.now in
    let o = c.args.words.now.verdicts.now in
    let old : World = world (g.S.Store.contents c.args.store.now) (g.S.Store.reads c.args.store.now) (g.S.Store.writes c.args.store.now) (g.O.Sink.written c.args.out.now) (g.O.Sink.faults c.args.out.now) in
    let a : World = world (g.S.Store.contents c.topology_in.new.store) (g.S.Store.reads c.topology_in.new.store) (g.S.Store.writes c.topology_in.new.store) (g.O.Sink.written c.args.out.now) (g.O.Sink.faults c.args.out.now) in
    let b : World = world (g.S.Store.contents c.judged_in.new.store) (g.S.Store.reads c.judged_in.new.store) (g.S.Store.writes c.judged_in.new.store) (g.O.Sink.written c.args.out.now) (g.O.Sink.faults c.args.out.now) in
    let new : World = world (g.S.Store.contents c.judged_in-2.new.store) (g.S.Store.reads c.judged_in-2.new.store) (g.S.Store.writes c.judged_in-2.new.store) (g.O.Sink.written c.write_judged.new.out) (g.O.Sink.faults c.write_judged.new.out) in
    rw c.ended.ensures
    (judge_said m n o old a b
    (has_read _ m old a (among_first m n o) c.topology_in.ensures.contents c.topology_in.ensures.reads c.topology_in.ensures.writes)
    (has_read _ n a b (among_second m n o) c.judged_in.ensures.contents c.judged_in.ensures.reads c.judged_in.ensures.writes)
    c.in-Ok.topo c.in-Ok.ensures.leads new
    (has_read _ o b new (among_third m n o) c.judged_in-2.ensures.contents c.judged_in-2.ensures.reads c.judged_in-2.ensures.writes)
    c.in-Ok-judged_in.ledger c.in-Ok-judged_in.ensures.leads c.in-Ok-judged_in-2.verdicts c.in-Ok-judged_in-2.ensures.leads
    c.in-Ok-judged.said c.write_judged.result
    (judges_same c.in-Ok.topo _ _ _ _ (Ok c.in-Ok-judged.said) c.deref.ensures.value c.deref-2.ensures.value c.in-Ok-judged.ensures)
    c.write_judged.ensures.text c.write_judged.ensures.no)
