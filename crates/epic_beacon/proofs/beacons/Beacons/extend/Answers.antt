use Rattle.std.proofs.Common.{sym}
use Rattle.epic_fields.specs.Issues.{IssuesKept}
use Rattle.epic_beacon.specs.Kinds.{KindsKept}
use Rattle.epic_beacon.specs.Store.{issues_of, store_of}
use Rattle.epic_beacon.proofs.Keeping.{extended_chained, extended_keeps, extended_kinds, issued_either}
use Rattle.epic_beacon.proofs.beacons.Beacons.extend.Goals as goal

pub add-requires-clause-chained : goal.add-requires-clause-chained
add-requires-clause-chained c =
    extended_chained c.args.topo.now (store_of c.args.self.now) c.args.parent c.args.out c.args.exp c.args.now c.in_ok-beacon.beacon
    c.in_ok-beacon.ensures.chains (sym c.in_ok-beacon.ensures.value)

pub returns-clause-kept : goal.returns-clause-kept
returns-clause-kept c =
    issued_either (λ s. IssuesKept c.args.topo.now (issues_of s.beacons)) (store_of c.args.self.now) (store_of c.add.new.self) c.in_ok-beacon.beacon c.add.result c.add.ensures
    c.requires.kept
    (extended_keeps c.args.topo.now (store_of c.args.self.now) c.args.parent c.args.out c.args.exp c.args.now c.in_ok-beacon.beacon c.requires.kept
    c.in_ok-beacon.ensures.known (sym c.in_ok-beacon.ensures.value))

pub returns-clause-kinds : goal.returns-clause-kinds
returns-clause-kinds c =
    issued_either (λ s. KindsKept c.args.topo.now s.beacons) (store_of c.args.self.now) (store_of c.add.new.self) c.in_ok-beacon.beacon c.add.result c.add.ensures
    c.requires.kinds
    (extended_kinds c.args.topo.now (store_of c.args.self.now) c.args.parent c.args.out c.args.exp c.args.now c.in_ok-beacon.beacon
    c.in_ok-beacon.ensures.chains c.requires.kinds (sym c.in_ok-beacon.ensures.value))
