use Rattle.std.proofs.Common.{◌≡◌, None, sym, ap, ◌∙◌, arith}
use Rattle.std.specs.Prelude.{slice_index, slice_index_or, filter_map}
use Rattle.std.proofs.lemmas.List.{get_or_read}
use Rattle.epic_tree.proofs.Indexing.{tagged_cut}
use Rattle.epic_ledger.specs.Facts.{as_pass}
use Rattle.epic_ledger.specs.Indexes.{sought_hop, path_cmp, path_tag, no_path, path_kind}
use Rattle.epic_ledger.specs.Queries.{is_on_path, chain_pass}
use Rattle.epic_ledger.specs.declared.event.Event.TheVariants as event
use Rattle.epic_ledger.proofs.KindLaws.{lawful_place, stands_there, first_none}
use Rattle.epic_ledger.proofs.PathLaws.{path_place, path_within, path_answer}
use Rattle.epic_ledger.proofs.path_index.first_on_path.Goals as goal

pub find-requires : goal.find-requires
find-requires c = record {
  cut = tagged_cut path_cmp (λ x. path_tag x.path) no_path _ _ c.requires.index.keyed (sought_hop c.args.packet.now.route c.args.hop);
  known = λ p low. rw c.as_slice.ensures.value (lawful_place (path_kind c.args.emissions.now.emissions) _ _ _ _ p c.requires.lawful c.requires.index low);
}

pub index-number-requires : goal.index-number-requires
index-number-requires c =
    omega (arith, path_within _ _ _ _ c.args.packet.now.route c.args.hop c.in-Some.place c.requires.index c.in-Some.ensures, c.args.index.now.at.ok.0)

pub bounds-events-number : goal.bounds-events-number
bounds-events-number c =
    let low = path_within _ _ _ _ c.args.packet.now.route c.args.hop c.in-Some.place c.requires.index c.in-Some.ensures in
    let number : c.index-number.result.now ≡ slice_index c.args.index.now.at.items c.in-Some.place = get_or_read c.args.index.now.at.items _ _ low c.index-number.ensures 0 in
    let t = stands_there (path_kind c.args.emissions.now.emissions) c.args.events.now _ c.in-Some.place (event.Roll 0 (record { 0 = 0 }) 0) low c.requires.index.numbers in
    omega (arith, number, t.within)

pub returns-in-Some : goal.returns-in-Some
returns-in-Some c =
    let ems = c.args.emissions.now.emissions in
    let low = path_within _ _ _ _ c.args.packet.now.route c.args.hop c.in-Some.place c.requires.index c.in-Some.ensures in
    let number : c.index-number.result.now ≡ slice_index c.args.index.now.at.items c.in-Some.place = get_or_read c.args.index.now.at.items _ _ low c.index-number.ensures 0 in
    c.passing_of.ensures ems ∙ ap (as_pass ems) c.index-events-number.is ∙ ap (λ n. as_pass ems (slice_index_or c.args.events.now n c.index-events-number.result)) number
    ∙ path_answer _ _ _ _ c.args.packet.now.route c.args.hop c.in-Some.place c.index-events-number.result c.requires.index c.in-Some.ensures

pub returns-in-None : goal.returns-in-None
unfolding chain_pass
returns-in-None c =
    sym (first_none (is_on_path c.args.packet.now.route c.args.hop) (filter_map (as_pass c.args.emissions.now.emissions) c.args.events.now)
    (path_place _ _ _ _ c.args.packet.now.route c.args.hop None c.requires.index c.in-None.ensures))
