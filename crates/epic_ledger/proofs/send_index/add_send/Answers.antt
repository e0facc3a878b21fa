use Rattle.std.proofs.Common.{sym}
use Rattle.epic_tree.proofs.Indexing.{tagged_cut}
use Rattle.epic_ledger.specs.Indexes.{origin_cmp, origin_tag, no_origin, send_kind}
use Rattle.epic_ledger.specs.Walks.{sent_with}
use Rattle.epic_ledger.proofs.KindLaws.{lawful_place, index_more, index_other}
use Rattle.epic_ledger.proofs.SendLaws.{send_fits, origin_total}
use Rattle.epic_ledger.proofs.send_index.add_send.Goals as goal

pub origin_of-requires : goal.origin_of-requires
unfolding sent_with
origin_of-requires c =
    let ems = c.args.emissions.now.emissions in
    send_fits ems _ c.args.event.now (sent_with ems c.in-Some.sending) c.requires.fits (sym (c.in-Some.ensures ems))

pub add-requires-clause-cut : goal.add-requires-clause-cut
add-requires-clause-cut c = tagged_cut origin_cmp origin_tag no_origin _ _ c.requires.index.keyed c.origin_of.result

pub add-requires-clause-known : goal.add-requires-clause-known
add-requires-clause-known c =
    λ p low. rw c.as_slice.ensures.value (lawful_place (send_kind c.args.emissions.now.emissions) _ _ _ _ p c.requires.lawful c.requires.index low)

pub returns-in-Some-clause-index : goal.returns-in-Some-clause-index
returns-in-Some-clause-index c =
    let ems = c.args.emissions.now.emissions in
    let placed = rw c.origin_of.ensures at c.add.ensures.places in
    let tags = rw c.origin_of.ensures at c.add.ensures.tags in
    rw c.push_reserved.ensures.items
    (index_more (send_kind ems) c.args.events.now _ _ c.add.new.self c.args.event.now (sent_with ems c.in-Some.sending) origin_total c.requires.index (sym (c.in-Some.ensures ems)) placed tags)

pub returns-in_default-clause-index : goal.returns-in_default-clause-index
returns-in_default-clause-index c =
    let ems = c.args.emissions.now.emissions in
    index_other (send_kind ems) _ _ _ c.args.event.now c.requires.index (sym (c.in_default.ensures ems))
