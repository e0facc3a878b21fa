use Rattle.std.proofs.Common.{sym}
use Rattle.epic_fields.specs.Issues.{IssuesKept}
use Rattle.epic_beacon.specs.Kinds.{KindsKept}
use Rattle.epic_beacon.specs.Store.{issues_of, store_of}
use Rattle.epic_beacon.proofs.Keeping.{originated_chained, originated_kept, originated_kinds, issued_either}
use Rattle.epic_beacon.proofs.beacons.Beacons.originate.Goals as goal

pub add-requires-clause-chained : goal.add-requires-clause-chained
add-requires-clause-chained c =
    originated_chained c.args.topo.now (store_of c.args.self.now) c.args.a c.args.out c.args.exp c.args.now _ c.in_ok-beacon.beacon
    (sym c.in_ok-beacon.ensures.value) c.in_ok-beacon.ensures.leads_on

pub returns-clause-kept : goal.returns-clause-kept
returns-clause-kept c =
    issued_either (λ s. IssuesKept c.args.topo.now (issues_of s.beacons)) (store_of c.args.self.now) (store_of c.add.new.self) c.in_ok-beacon.beacon c.add.result c.add.ensures
    c.requires.kept
    (originated_kept c.args.topo.now (store_of c.args.self.now) c.args.a c.args.out c.args.exp c.args.now c.in_ok-beacon.beacon c.requires.kept
    c.requires.known (sym c.in_ok-beacon.ensures.value))

pub returns-clause-kinds : goal.returns-clause-kinds
returns-clause-kinds c =
    issued_either (λ s. KindsKept c.args.topo.now s.beacons) (store_of c.args.self.now) (store_of c.add.new.self) c.in_ok-beacon.beacon c.add.result c.add.ensures
    c.requires.kinds
    (originated_kinds c.args.topo.now (store_of c.args.self.now) c.args.a c.args.out c.args.exp c.args.now c.in_ok-beacon.beacon
    c.in_ok-beacon.ensures.chains c.requires.kinds (sym c.in_ok-beacon.ensures.value))
