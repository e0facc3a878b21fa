use Rattle.std.proofs.Common.{◌≡◌, [], sym, subst, arith}
use Rattle.epic_ledger.specs.History.{History}
use Rattle.epic_model.specs.Sound.{IsSound}
use Rattle.epic_model.proofs.InvKept.{inv_start, inv_later}
use Rattle.epic_actors.specs.Routers.{RoutersStandFor}
use Rattle.epic_actors.proofs.Lasting.{none_stand}
use Rattle.epic_actors.proofs.tests.turned.Goals as goal

abbrev nothing : History
nothing = record { events = []; emissions = [] }

pub turn_at-passed-requires-clause-sound : goal.turn_at-passed-requires-clause-sound
turn_at-passed-requires-clause-sound g c =
    let t = c.in_ok-topo.topo in
    let is : c.in_ok-ledger.ledger.history ≡ nothing = λ i. record { events = c.in_ok-ledger.ensures.events i; emissions = c.in_ok-ledger.ensures.emissions i } in
    subst (λ h. IsSound t h 1) (sym is) (inv_later t nothing 0 0 0 1 (omega arith) (omega arith) (inv_start t)).sound

pub turn_at-passed-requires-clause-stand : goal.turn_at-passed-requires-clause-stand
turn_at-passed-requires-clause-stand g c =
    let t = c.in_ok-topo.topo in
    let is : c.in_ok-ledger.ledger.history ≡ nothing = λ i. record { events = c.in_ok-ledger.ensures.events i; emissions = c.in_ok-ledger.ensures.emissions i } in
    c.ready.ensures.stand 1700000000000000 c.in_ok-ledger.ledger.history
    (subst (RoutersStandFor t 1700000000000000 c.new-routers.result) (sym is) ((none_stand t 1700000000000000).0 c.new-routers.result c.new-routers.ensures))
