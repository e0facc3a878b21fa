use Rattle.epic_index.proofs.Keeping.{index_among}
use Rattle.epic_index.proofs.SentOrder.{sent_among}
use Rattle.epic_index.proofs.index.Index.add_emission.Goals as goal

pub invariant_of-self-2 : goal.invariant_of-self-2
invariant_of-self-2 c = record {
  index = index_among
      _
      _
      _
      _
      _
      _
      c.self.invariant.index
      (rw c.in_ok-make_room.ensures.history at c.events-events.ensures.lawful)
      (rw c.in_ok-make_room.ensures.history at c.emit.ensures.events)
      (rw c.in_ok-make_room.ensures.history at c.emit.ensures.emissions);
  sent_is = rw (c.emit.ensures.events, c.emit.ensures.emissions, c.in_ok-make_room.ensures.history)
      (sent_among _ _ _ _ (rw c.in_ok-make_room.ensures.history at c.events-events.ensures.lawful) c.self.invariant.sent_is);
}
