use Rattle.std.proofs.Common.{subst, arith}
use Rattle.epic_beacon.specs.Chained.{AreChained}
use Rattle.epic_beacon.specs.Store.{Held}
use Rattle.epic_beacon.proofs.Issued.{parent_known, parent_linked, position_few}
use Rattle.epic_beacon.proofs.beacons.Beacons.extended_from.Goals as goal

pub next_name-name-requires-clause-known : goal.next_name-name-requires-clause-known
next_name-name-requires-clause-known c =
    parent_known c.args.topo.now c.args.self.now.beacons c.args.parent c.args.from.now c.requires.kept c.requires.there

pub next_name-name-requires-clause-linked : goal.next_name-name-requires-clause-linked
next_name-name-requires-clause-linked c =
    parent_linked c.args.topo.now c.args.self.now.beacons c.args.parent c.args.from.now c.requires.kept c.requires.there c.if-from-eq0.false

pub next_name-name-requires-clause-room : goal.next_name-name-requires-clause-room
next_name-name-requires-clause-room c =
    let chained = subst (λ (s : Held). AreChained s.beacons) c.self.view_is c.self.invariant.chained in
    let few = position_few c.args.self.now.beacons c.args.parent c.args.from.now chained c.requires.there in
    omega arith
