use Rattle.epic_tree.proofs.Indexing.{tagged_cut}
use Rattle.epic_ledger.proofs.KindLaws.{lawful_place}
use Rattle.epic_index.specs.SentAs.{content_cmp, content_tag, no_contents, sent_kind}
use Rattle.epic_index.proofs.SentOrder.{found_sent, none_sent}
use Rattle.epic_index.proofs.sent_as.first_sent_as.Goals as goal

pub find-requires : goal.find-requires
find-requires c = record {
  cut = tagged_cut content_cmp content_tag no_contents _ _ c.requires.keyed c.args.packet.now;
  known = λ p low. rw c.as_slice.ensures.value (lawful_place (sent_kind c.args.ledger.now.history.emissions) _ _ _ _ p c.events-events.ensures.lawful c.requires low);
}

pub returns-in-Some : goal.returns-in-Some
returns-in-Some c = rw c.number_at.ensures (found_sent c.args.ledger.now.history _ _ c.args.packet.now c.requires c.in-Some.place c.in-Some.ensures)

pub returns-in-None : goal.returns-in-None
returns-in-None c = none_sent c.args.ledger.now.history _ _ c.args.packet.now c.requires c.in-None.ensures
