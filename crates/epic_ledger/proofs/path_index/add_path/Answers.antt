use Rattle.std.proofs.Common.{sym}
use Rattle.epic_tree.proofs.Indexing.{tagged_cut}
use Rattle.epic_ledger.specs.Indexes.{sought_hop, path_cmp, path_tag, path_key, no_path, path_kind}
use Rattle.epic_ledger.specs.Walks.{pass_with}
use Rattle.epic_ledger.proofs.KindLaws.{lawful_place, index_more, index_other}
use Rattle.epic_ledger.proofs.PassLaws.{pass_fits}
use Rattle.epic_ledger.proofs.PathLaws.{path_total}
use Rattle.epic_ledger.proofs.path_index.add_path.Goals as goal

pub packet_of-packet-requires : goal.packet_of-packet-requires
unfolding pass_with
packet_of-packet-requires c =
    let ems = c.args.emissions.now.emissions in
    (pass_fits ems _ c.args.event.now (pass_with ems c.in-Some.pass) c.requires.fits (sym (c.in-Some.ensures ems))).there

pub add-requires-clause-cut : goal.add-requires-clause-cut
add-requires-clause-cut c =
    tagged_cut path_cmp (λ x. path_tag x.path) no_path _ _ c.requires.index.keyed (sought_hop c.packet_of-packet.result.route c.in-Some.pass.hop)

pub add-requires-clause-known : goal.add-requires-clause-known
add-requires-clause-known c =
    λ p low. rw c.as_slice.ensures.value (lawful_place (path_kind c.args.emissions.now.emissions) _ _ _ _ p c.requires.lawful c.requires.index low)

pub returns-in-Some-clause-index : goal.returns-in-Some-clause-index
unfolding path_key pass_with
returns-in-Some-clause-index c =
    let ems = c.args.emissions.now.emissions in
    let placed = rw c.packet_of-packet.ensures at c.add.ensures.places in
    let tags = rw c.packet_of-packet.ensures at c.add.ensures.tags in
    rw c.push_reserved.ensures.items
    (index_more (path_kind ems) c.args.events.now _ _ c.add.new.self c.args.event.now (pass_with ems c.in-Some.pass) path_total c.requires.index (sym (c.in-Some.ensures ems)) placed tags)

pub returns-in_default-clause-index : goal.returns-in_default-clause-index
returns-in_default-clause-index c =
    let ems = c.args.emissions.now.emissions in
    index_other (path_kind ems) _ _ _ c.args.event.now c.requires.index (sym (c.in_default.ensures ems))
