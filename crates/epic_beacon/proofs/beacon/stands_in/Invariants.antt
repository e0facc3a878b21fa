use Rattle.std.proofs.Common.{◌≡◌, ◌-◌}
use Rattle.epic_num.specs.Chains.{last_names}
use Rattle.epic_beacon.specs.Issuing.{stands_in}
use Rattle.epic_beacon.specs.Store.{issues_of}
use Rattle.epic_beacon.proofs.beacon.stands_in.Given as goal

abbrev pub invariant-loop-i : goal.invariant-loop-i
invariant-loop-i l =
    stands_in l.a (last_names (issues_of l.beacons) l.most l.number)
    ≡ stands_in l.a (last_names (issues_of l.beacons) (l.most - l.i) l.place)
