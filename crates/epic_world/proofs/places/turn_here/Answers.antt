use Rattle.std.proofs.Common.{sym, subst}
use Rattle.epic_actors.specs.Routers.{RoutersStandFor}
use Rattle.epic_world.proofs.places.turn_here.Goals as goal

pub returns-in_err-ready-clause-stand : goal.returns-in_err-ready-clause-stand
returns-in_err-ready-clause-stand c = c.ready.ensures.stand c.args.now c.args.ledger.now.history c.requires.stand

pub returns-in_err-reserve-clause-stand : goal.returns-in_err-reserve-clause-stand
returns-in_err-reserve-clause-stand c =
    subst (RoutersStandFor c.args.topo.now c.args.now c.ready.new.self) (sym c.reserve.ensures.history)
    (c.ready.ensures.stand c.args.now c.args.ledger.now.history c.requires.stand)

pub returns-in_default-clause-stand : goal.returns-in_default-clause-stand
returns-in_default-clause-stand c =
    subst (RoutersStandFor c.args.topo.now c.args.now c.ready.new.self) (sym c.reserve.ensures.history)
    (c.ready.ensures.stand c.args.now c.args.ledger.now.history c.requires.stand)

pub turn_at-requires-clause-stand : goal.turn_at-requires-clause-stand
turn_at-requires-clause-stand c =
    subst (RoutersStandFor c.args.topo.now c.args.now c.ready.new.self) (sym c.reserve.ensures.history)
    (c.ready.ensures.stand c.args.now c.args.ledger.now.history c.requires.stand)
