use Rattle.epic_ledger.proofs.KindLaws.{index_kept}
use Rattle.epic_ledger.specs.Facts.{facts_of}
use Rattle.epic_index.specs.SentAs.{sent_kind}
use Rattle.epic_index.proofs.Happening.{there_of}
use Rattle.epic_index.proofs.Keeping.{index_more}
use Rattle.epic_index.proofs.Steps.{fits_at_step, index_fits, history_more}
use Rattle.epic_index.proofs.index.Index.add_event.Goals as goal

pub push-requires-clause-fits : goal.push-requires-clause-fits
push-requires-clause-fits c =
    index_fits _ _ _ c.args.event _ c.self.invariant.index.apart c.make_room.ensures.history c.at_start-event.ensures (rw (← c.self.view_is) at c.requires.fits)

pub returns-clause-history : goal.returns-clause-history
returns-clause-history c =
    rw (← c.self.view_is, c.push_reserved.ensures.items, c.reserve.ensures.items, c.step_of.ensures)
    (history_more
    _
    _
    _
    c.args.event
    c.self.invariant.index.apart
    (rw (c.at_start-event.ensures, c.make_room.ensures.history) at c.push.ensures.events)
    (rw c.make_room.ensures.history at c.push.ensures.emissions))

pub invariant_of-self-2 : goal.invariant_of-self-2
invariant_of-self-2 c =
    rw (c.push_reserved.ensures.items, c.reserve.ensures.items, c.step_of.ensures)
    (record {
      index = index_more
          _
          _
          _
          _
          c.args.event
          _
          _
          _
          c.self.invariant.index
          (rw c.make_room.ensures.history at c.next_number-number.ensures.lawful)
          (rw (← c.self.view_is) at c.requires.fits)
          (rw (← c.self.view_is) at c.requires.known)
          (rw (c.at_start-event.ensures, c.make_room.ensures.history) at c.push.ensures.events)
          (rw c.make_room.ensures.history at c.push.ensures.emissions)
          (rw c.make_room.ensures.history at c.next_number-number.ensures.value)
          (rw (c.make_room.ensures.history, c.reserve-2.ensures.held) at c.add.ensures);
      sent_is = rw (c.push.ensures.events, c.push.ensures.emissions) c.add_sent.ensures;
    })

pub add_sent-requires-clause-index : goal.add_sent-requires-clause-index
add_sent-requires-clause-index c =
    rw (c.make_room.ensures.history, c.reserve-3.ensures.at)
    (index_kept (sent_kind _) _ _ _ _ c.self.invariant.sent_is c.reserve-3.ensures.places c.reserve-3.ensures.tags)

pub add_sent-requires-clause-there : goal.add_sent-requires-clause-there
add_sent-requires-clause-there c =
    rw (c.at_start-event.ensures, c.make_room.ensures.history)
    (there_of _ _ _ (fits_at_step _ _ 0 c.args.event (rw (← c.self.view_is) at c.requires.fits)))

pub next_number-number-requires : goal.next_number-number-requires
next_number-number-requires c = rw c.make_room.ensures.history c.in_ok-make_room.ensures.few

pub add-requires-clause-issuers : goal.add-requires-clause-issuers
unfolding facts_of
add-requires-clause-issuers c = rw c.make_room.ensures.history c.self.invariant.index.held_is.known
