use Rattle.std.proofs.Common.{sym}
use Rattle.epic_tree.proofs.Indexing.{tagged_cut}
use Rattle.epic_ledger.specs.Indexes.{reveal_kind}
use Rattle.epic_ledger.specs.Ranks.{holder_cmp, holder_tag}
use Rattle.epic_ledger.specs.Walks.{reveal_in}
use Rattle.epic_ledger.proofs.KindLaws.{index_place, index_more, index_other}
use Rattle.epic_ledger.proofs.RankLaws.{holder_total}
use Rattle.epic_ledger.proofs.reveal_index.add_reveal.Goals as goal

pub add-requires-clause-cut : goal.add-requires-clause-cut
add-requires-clause-cut c = tagged_cut holder_cmp holder_tag reveal_kind.none _ _ c.requires.index.keyed c.in-Some.revealing.holder

pub add-requires-clause-known : goal.add-requires-clause-known
add-requires-clause-known c = λ p low. rw c.as_slice.ensures.value (index_place reveal_kind _ _ _ p c.requires.index low)

pub returns-in-Some-clause-index : goal.returns-in-Some-clause-index
unfolding reveal_in
returns-in-Some-clause-index c =
    rw c.push_reserved.ensures.items
    (index_more reveal_kind c.args.events.now _ _ c.add.new.self c.args.event.now (reveal_in c.in-Some.revealing) holder_total c.requires.index (sym c.in-Some.ensures) c.add.ensures.places c.add.ensures.tags)

pub returns-in_default-clause-index : goal.returns-in_default-clause-index
returns-in_default-clause-index c = index_other reveal_kind _ _ _ c.args.event.now c.requires.index (sym c.in_default.ensures)
