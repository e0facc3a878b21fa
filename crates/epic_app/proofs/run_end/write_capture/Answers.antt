use Rattle.std.proofs.Common.{refl, arith}
use Rattle.epic_app.specs.Acts.{World, world}
use Rattle.epic_app.specs.Keeping.{kept_in}
use Rattle.epic_app.proofs.RanLaws.{took_none, took_read, works_read}
use Rattle.epic_app.proofs.RunEndLaws.{few_verdicts, run_cut_short, run_damaged, run_failed, run_finished, run_memory}
use Rattle.epic_app.proofs.StepWriting.{keeps_all}
use Rattle.epic_app.proofs.run_end.write_capture.Goals as goal

pub feed-requires-clause-room : goal.feed-requires-clause-room
feed-requires-clause-room g c = grind (arith, c.requires.steps, c.requires.total)

pub feed-requires-clause-none : goal.feed-requires-clause-none
feed-requires-clause-none g c = λ x s o. took_none x _

pub feed-requires-clause-read : goal.feed-requires-clause-read
feed-requires-clause-read g c = λ x s o xs y t p u took keeps same. took_read x y xs _ _ _ _ _ _ _ _ _ took keeps same

pub write_last-requires : goal.write_last-requires
write_last-requires g c = few_verdicts _ _ _ _ _ _ c.requires.total c.in-Ok.ensures.feeds

pub returns-in-Ok : goal.returns-in-Ok
returns-in-Ok g c = λ t commands u behind.
    let old : World = world (g.S.Store.contents c.args.store.now) (g.S.Store.reads c.args.store.now) (g.S.Store.writes c.args.store.now) (g.O.Sink.written c.args.out.now) (g.O.Sink.faults c.args.out.now) in
    let new : World = world (g.S.Store.contents c.feed.new.store) (g.S.Store.reads c.feed.new.store) (g.S.Store.writes c.feed.new.store) (g.O.Sink.written c.feed.new.out) (g.O.Sink.faults c.feed.new.out) in
    let last : World = world (g.S.Store.contents c.feed.new.store) (g.S.Store.reads c.feed.new.store) (g.S.Store.writes c.feed.new.store) (g.O.Sink.written c.write_last.new.out) (g.O.Sink.faults c.write_last.new.out) in
    rw c.ended.ensures
    (run_finished c.args.run.now t commands u old behind c.args.name.now c.requires.spares new c.feed.ensures.reads c.feed.new.taker last c.write_last.result c.in-Ok.ensures.feeds
    (keeps_all (g.S.Store.contents c.feed.new.store)) refl
    (works_read (kept_in c.args.run.now.keep) new last (keeps_all (g.S.Store.contents c.feed.new.store)) c.write_last.ensures.later refl)
    c.write_last.ensures.text c.write_last.ensures.forged)

pub returns-in-Err-Damaged : goal.returns-in-Err-Damaged
returns-in-Err-Damaged g c = λ t commands u behind.
    run_damaged c.args.run.now t commands u _ behind c.args.name.now c.requires.spares _ c.feed.ensures.reads c.feed.new.taker _
    (rw c.in-Err-Damaged.field-0-is at c.in-Err-Damaged.ensures.feeds)

pub returns-in-Err-Failed : goal.returns-in-Err-Failed
returns-in-Err-Failed g c = λ t commands u behind.
    run_failed c.args.run.now t commands u _ behind c.args.name.now c.requires.spares _ c.feed.ensures.reads c.feed.new.taker _ refl
    (rw c.in-Err-Failed.field-0-is at c.in-Err-Failed.ensures.feeds)

pub returns-in-Err-Stopped : goal.returns-in-Err-Stopped
returns-in-Err-Stopped g c = λ t commands u behind.
    rw c.ended-in-Err-Stopped.ensures
    (run_cut_short c.args.run.now t commands u _ behind c.args.name.now c.requires.spares _ c.feed.ensures.reads _
    (rw c.in-Err-Stopped.field-0-is at c.in-Err-Stopped.ensures.feeds))

pub returns-in-Err-OutOfMemory : goal.returns-in-Err-OutOfMemory
returns-in-Err-OutOfMemory g c = λ t commands u behind.
    run_memory c.args.run.now t commands u _ behind c.args.name.now c.requires.spares _ c.feed.ensures.reads c.feed.new.taker
    (rw c.in-Err-OutOfMemory.field-0-is at c.in-Err-OutOfMemory.ensures.feeds)
