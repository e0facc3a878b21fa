use Rattle.std.proofs.Common.{sym, ◌∙◌}
use Rattle.epic_tree.proofs.Indexing.{tagged_cut}
use Rattle.epic_ledger.proofs.KindLaws.{lawful_place}
use Rattle.epic_index.specs.SentAs.{content_cmp, content_tag, no_contents, sent_kind}
use Rattle.epic_index.proofs.SentOrder.{sent_more, sent_other}
use Rattle.epic_index.proofs.sent_as.add_sent.Goals as goal

pub add-requires-clause-cut : goal.add-requires-clause-cut
add-requires-clause-cut c = tagged_cut content_cmp content_tag no_contents _ _ c.requires.index.keyed c.in-Some.packet

pub add-requires-clause-known : goal.add-requires-clause-known
add-requires-clause-known c =
    λ p low. rw c.as_slice.ensures.value (lawful_place (sent_kind c.args.ledger.now.history.emissions) _ _ _ _ p c.events-events.ensures.lawful c.requires.index low)

pub returns-in-Some : goal.returns-in-Some
returns-in-Some c =
    rw c.push_reserved.ensures.items
    (sent_more c.args.ledger.now.history _ _ c.add.new.self c.args.event.now (c.in-Some.field-0-0, c.in-Some.packet) _ c.requires.index
    (sym c.in-Some.is ∙ c.sent_by.ensures) c.add.ensures.places c.add.ensures.tags c.requires.next)

pub returns-in-None : goal.returns-in-None
returns-in-None c = sent_other c.args.ledger.now.history _ _ c.args.event.now c.requires.index (sym c.in-None.is ∙ c.sent_by.ensures)
