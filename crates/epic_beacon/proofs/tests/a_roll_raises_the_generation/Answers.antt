use Rattle.epic_num.specs.declared.name.AsId.{AsId}
use Rattle.epic_beacon.specs.Store.{store_of}
use Rattle.epic_beacon.proofs.Keeping.{kept_with}
use Rattle.epic_beacon.proofs.Rolled.{beacons_stay}
use Rattle.epic_beacon.proofs.tests.a_roll_raises_the_generation.Goals as goal

pub originate-requires-clause-kept : goal.originate-requires-clause-kept
originate-requires-clause-kept g c = c.new-store.ensures.kept _

pub extend-requires-clause-kept : goal.extend-requires-clause-kept
extend-requires-clause-kept g c =
    let first : AsId = record { 0 = 0x1_ff00_0000_0111 } in
    let old = c.originate.new.self in
    let new = c.roll.new.self in
    kept_with c.in_ok-topo.topo old.beacons new.beacons
    (beacons_stay (store_of old) (store_of new) first c.roll.result c.roll.ensures) c.originate.ensures.kept
