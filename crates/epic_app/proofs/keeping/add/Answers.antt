use Rattle.std.proofs.Common.{arith, refl}
use Rattle.epic_ports.proofs.Appended.{Appends-none}
use Rattle.epic_app.specs.Acts.{World, world}
use Rattle.epic_app.proofs.ActFiles.{does_nothing}
use Rattle.epic_app.proofs.Acting.{grows_performed, grows_stays, stays_kept}
use Rattle.epic_app.proofs.FileLaws.{keeps_itself}
use Rattle.epic_app.proofs.keeping.add.Goals as goal

pub returns-in-Some : goal.returns-in-Some
returns-in-Some g c = rw c.in-Some.is (λ kept among written faults.
    let name = c.in-Some.name.now in
    let text = c.args.text.now in
    let old : World = world (g.S.Store.contents c.args.store.now) (g.S.Store.reads c.args.store.now) (g.S.Store.writes c.args.store.now) written faults in
    let new : World = world (g.S.Store.contents c.append_all.new.store) (g.S.Store.reads c.append_all.new.store) (g.S.Store.writes c.append_all.new.store) written faults in (
      grows_performed kept name among text old new c.append_all.result c.append_all.ensures.ok c.append_all.ensures.err c.append_all.ensures.cause (Appends-none written),
      grows_stays kept name among text old new c.append_all.result c.append_all.ensures.ok c.append_all.ensures.err (omega arith) c.append_all.ensures.reads c.append_all.ensures.writes,
    ))

pub returns-in-None : goal.returns-in-None
returns-in-None g c = rw c.in-None.is (λ kept among written faults. (
  does_nothing _ _ (keeps_itself _) (Appends-none _),
  stays_kept kept _ _ (keeps_itself _) (omega arith) refl refl,
))
