use Rattle.std.proofs.Common.{◌∙◌, sym, subst, arith}
use Rattle.epic_policer.specs.Offers.{Same}
use Rattle.epic_policer.specs.Queue.{AllLive, entries_of}
use Rattle.epic_policer.proofs.Keeping.{kept_taken}
use Rattle.epic_policer.proofs.Orders.{all_live}
use Rattle.epic_policer.proofs.Sums.{Same-dead, Same-trans}
use Rattle.epic_policer.proofs.sweep.sweep.Goals as goal

pub loop-packet-preserved : goal.loop-packet-preserved
loop-packet-preserved c =
    let i = c.loop-packet.invariant in
    let e = c.in-Some.ensures in (
      kept_taken _ _ _ _ _ _ c.in-Some.packet i.0 e.taken e.queue e.lists c.release.ensures.used c.release.ensures.lists,
      Same-trans c.args.span_us c.args.now (entries_of c.take_dead.new.pool) (entries_of c.loop-packet.pool) (entries_of c.args.pool.now)
          (subst (λ ps. Same c.args.span_us c.args.now (entries_of c.take_dead.new.pool) ps) (sym e.taken)
          (Same-dead c.args.span_us c.args.now c.in-Some.packet (entries_of c.take_dead.new.pool) e.dead))
          i.1,
      c.release.ensures.keys ∙ i.2,
      λ s. c.release.ensures.lists s ∙ i.3 s,
      let spare = e.spare in omega (arith, i.4, spare),
    )

pub returns-clause-live : goal.returns-clause-live
returns-clause-live c =
    let first = c.in_default.ensures.first in
    subst (λ q. AllLive c.args.span_us c.args.now (entries_of q)) (sym c.in_default.ensures.unchanged)
    (all_live 0 c.args.now c.args.span_us c.args.now (entries_of c.loop-packet.pool) c.loop-packet.invariant.0.in_order first)
