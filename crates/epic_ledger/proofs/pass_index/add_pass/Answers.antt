use Rattle.std.proofs.Common.{sym}
use Rattle.epic_tree.proofs.Indexing.{tagged_cut}
use Rattle.epic_ledger.specs.Indexes.{sought_cmp, sought_tag, no_sought, pass_kind}
use Rattle.epic_ledger.specs.Walks.{pass_with}
use Rattle.epic_ledger.proofs.KindLaws.{lawful_place, index_more, index_other}
use Rattle.epic_ledger.proofs.PassLaws.{pass_fits, sought_total}
use Rattle.epic_ledger.proofs.pass_index.add_pass.Goals as goal

pub key_of-requires : goal.key_of-requires
unfolding pass_with
key_of-requires c =
    let ems = c.args.emissions.now.emissions in
    pass_fits ems _ c.args.event.now (pass_with ems c.in-Some.pass) c.requires.fits (sym (c.in-Some.ensures ems))

pub add-requires-clause-cut : goal.add-requires-clause-cut
add-requires-clause-cut c = tagged_cut sought_cmp sought_tag no_sought _ _ c.requires.index.keyed c.key_of.result

pub add-requires-clause-known : goal.add-requires-clause-known
add-requires-clause-known c =
    λ p low. rw c.as_slice.ensures.value (lawful_place (pass_kind c.args.emissions.now.emissions) _ _ _ _ p c.requires.lawful c.requires.index low)

pub returns-in-Some-clause-index : goal.returns-in-Some-clause-index
returns-in-Some-clause-index c =
    let ems = c.args.emissions.now.emissions in
    let placed = rw c.key_of.ensures at c.add.ensures.places in
    let tags = rw c.key_of.ensures at c.add.ensures.tags in
    rw c.push_reserved.ensures.items
    (index_more (pass_kind ems) c.args.events.now _ _ c.add.new.self c.args.event.now (pass_with ems c.in-Some.pass) sought_total c.requires.index (sym (c.in-Some.ensures ems)) placed tags)

pub returns-in_default-clause-index : goal.returns-in_default-clause-index
returns-in_default-clause-index c =
    let ems = c.args.emissions.now.emissions in
    index_other (pass_kind ems) _ _ _ c.args.event.now c.requires.index (sym (c.in_default.ensures ems))
