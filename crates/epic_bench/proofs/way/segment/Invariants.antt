use Rattle.epic_fields.specs.Issues.{IssuesKept}
use Rattle.epic_beacon.specs.Kinds.{KindsKept}
use Rattle.epic_beacon.specs.Store.{issues_of}
use Rattle.epic_bench.proofs.way.segment.Given as goal

abbrev pub invariant-loop-i : goal.invariant-loop-i
invariant-loop-i l = IssuesKept l.topo (issues_of l.store.beacons) × KindsKept l.topo l.store.beacons
