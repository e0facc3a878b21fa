use Rattle.std.proofs.Common.{◌≡◌, None, sym, ap, ◌∙◌, arith}
use Rattle.std.specs.Prelude.{slice_index, slice_index_or}
use Rattle.std.proofs.lemmas.List.{get_or_read}
use Rattle.epic_num.specs.Same.{same_holder}
use Rattle.epic_tree.proofs.Indexing.{tagged_cut}
use Rattle.epic_ledger.specs.Facts.{as_reveal, reveals_in}
use Rattle.epic_ledger.specs.Indexes.{reveal_kind}
use Rattle.epic_ledger.specs.Queries.{reveal_of}
use Rattle.epic_ledger.specs.Ranks.{holder_cmp, holder_tag}
use Rattle.epic_ledger.specs.declared.event.Event.TheVariants as event
use Rattle.epic_ledger.proofs.KindLaws.{index_place, stands_there, first_none}
use Rattle.epic_ledger.proofs.RevealLaws.{holder_place, holder_within, holder_answer}
use Rattle.epic_ledger.proofs.reveal_index.first_reveal.Goals as goal

pub find-requires : goal.find-requires
find-requires c = record {
  cut = tagged_cut holder_cmp holder_tag reveal_kind.none _ _ c.requires.keyed c.args.holder;
  known = λ p low. rw c.as_slice.ensures.value (index_place reveal_kind _ _ _ p c.requires low);
}

pub index-number-requires : goal.index-number-requires
index-number-requires c = omega (arith, holder_within _ _ _ c.args.holder c.in-Some.place c.requires c.in-Some.ensures, c.args.index.now.at.ok.0)

pub bounds-events-number : goal.bounds-events-number
bounds-events-number c =
    let low = holder_within _ _ _ c.args.holder c.in-Some.place c.requires c.in-Some.ensures in
    let number : c.index-number.result.now ≡ slice_index c.args.index.now.at.items c.in-Some.place = get_or_read c.args.index.now.at.items _ _ low c.index-number.ensures 0 in
    let t = stands_there reveal_kind c.args.events.now _ c.in-Some.place (event.Roll 0 (record { 0 = 0 }) 0) low c.requires.numbers in
    omega (arith, number, t.within)

pub returns-in-Some : goal.returns-in-Some
returns-in-Some c =
    let low = holder_within _ _ _ c.args.holder c.in-Some.place c.requires c.in-Some.ensures in
    let number : c.index-number.result.now ≡ slice_index c.args.index.now.at.items c.in-Some.place = get_or_read c.args.index.now.at.items _ _ low c.index-number.ensures 0 in
    c.revealing_of.ensures ∙ ap as_reveal c.index-events-number.is ∙ ap (λ n. as_reveal (slice_index_or c.args.events.now n c.index-events-number.result)) number
    ∙ holder_answer _ _ _ c.args.holder c.in-Some.place c.index-events-number.result c.requires c.in-Some.ensures

pub returns-in-None : goal.returns-in-None
unfolding reveal_of
returns-in-None c =
    sym (first_none (λ r. same_holder r.holder c.args.holder) (reveals_in c.args.events.now) (holder_place _ _ _ c.args.holder None c.requires c.in-None.ensures))
