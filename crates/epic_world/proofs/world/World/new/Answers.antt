use Rattle.epic_beacon.specs.Store.{store_of}
use Rattle.epic_world.proofs.Refined.{begun}
use Rattle.epic_world.proofs.world.World.new.Goals as goal

pub invariant_of-result : goal.invariant_of-result
invariant_of-result c =
    begun c.args.topo (store_of c.new.result) c.new-2.result c.new-4.result c.new-5.result c.new-6.result c.new-3.result.history
    c.worlds_go_on.ensures.start c.actors_stand.ensures.none c.senders_stand.ensures.none
    c.new.ensures.empty (c.new.ensures.kinds c.args.topo) c.new-2.ensures c.new-4.ensures c.new-5.ensures c.new-6.ensures
    c.new-3.ensures.events c.new-3.ensures.emissions
