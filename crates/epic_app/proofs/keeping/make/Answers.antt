use Rattle.std.proofs.Common.{arith, refl}
use Rattle.epic_ports.proofs.Appended.{Appends-none}
use Rattle.epic_app.specs.Acts.{World, world}
use Rattle.epic_app.proofs.ActFiles.{does_nothing}
use Rattle.epic_app.proofs.Acting.{create_performed, create_stays, stays_kept}
use Rattle.epic_app.proofs.FileLaws.{keeps_itself}
use Rattle.epic_app.proofs.keeping.make.Goals as goal

pub returns-in-Some : goal.returns-in-Some
returns-in-Some g c = rw c.in-Some.is (λ kept among written faults.
    let name = c.in-Some.name.now in
    let old : World = world (g.S.Store.contents c.args.store.now) (g.S.Store.reads c.args.store.now) (g.S.Store.writes c.args.store.now) written faults in
    let new : World = world (g.S.Store.contents c.create.new.self) (g.S.Store.reads c.create.new.self) (g.S.Store.writes c.create.new.self) written faults in (
      create_performed kept name among old new c.create.result c.create.ensures.empty c.create.ensures.err c.create.ensures.cause (Appends-none written),
      create_stays kept name among old new c.create.result c.create.ensures.empty c.create.ensures.err (omega arith) c.create.ensures.reads c.create.ensures.writes,
    ))

pub returns-in-None : goal.returns-in-None
returns-in-None g c = rw c.in-None.is (λ kept among written faults. (
  does_nothing _ _ (keeps_itself _) (Appends-none _),
  stays_kept kept _ _ (keeps_itself _) (omega arith) refl refl,
))
