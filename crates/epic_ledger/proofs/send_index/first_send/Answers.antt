use Rattle.std.proofs.Common.{◌≡◌, None, sym, ap, ◌∙◌, arith}
use Rattle.std.specs.Prelude.{slice_index, slice_index_or, filter_map}
use Rattle.std.proofs.lemmas.List.{get_or_read}
use Rattle.epic_tree.proofs.Indexing.{tagged_cut}
use Rattle.epic_ledger.specs.Facts.{as_send}
use Rattle.epic_ledger.specs.Indexes.{origin_cmp, origin_tag, no_origin, send_kind}
use Rattle.epic_ledger.specs.Queries.{is_send_of, send_of}
use Rattle.epic_ledger.proofs.KindLaws.{lawful_place, stands_there, first_none}
use Rattle.epic_ledger.proofs.SendLaws.{origin_place, origin_within, send_answer, sending_there}
use Rattle.epic_ledger.specs.declared.event.Event.TheVariants as event
use Rattle.epic_ledger.proofs.send_index.first_send.Goals as goal
use Rattle.epic_ledger.proofs.send_index.first_send.Goals.{In-Some}

pub find-requires : goal.find-requires
find-requires c = record {
  cut = tagged_cut origin_cmp origin_tag no_origin _ _ c.requires.index.keyed c.args.origin;
  known = λ p low. rw c.as_slice.ensures.value (lawful_place (send_kind c.args.emissions.now.emissions) _ _ _ _ p c.requires.lawful c.requires.index low);
}

pub index-number-requires : goal.index-number-requires
index-number-requires c =
    omega (arith, origin_within _ _ _ _ c.args.origin c.in-Some.place c.requires.index c.in-Some.ensures, c.args.index.now.at.ok.0)

pub bounds-events-number : goal.bounds-events-number
bounds-events-number c =
    let low = origin_within _ _ _ _ c.args.origin c.in-Some.place c.requires.index c.in-Some.ensures in
    let number : c.index-number.result.now ≡ slice_index c.args.index.now.at.items c.in-Some.place = get_or_read c.args.index.now.at.items _ _ low c.index-number.ensures 0 in
    let t = stands_there (send_kind c.args.emissions.now.emissions) c.args.events.now _ c.in-Some.place (event.Roll 0 (record { 0 = 0 }) 0) low c.requires.index.numbers in
    omega (arith, number, t.within)

pub returns-in-Some-clause-there : goal.returns-in-Some-clause-there
returns-in-Some-clause-there c =
    let ems = c.args.emissions.now.emissions in
    let low = origin_within _ _ _ _ c.args.origin c.in-Some.place c.requires.index c.in-Some.ensures in
    let number : c.index-number.result.now ≡ slice_index c.args.index.now.at.items c.in-Some.place = get_or_read c.args.index.now.at.items _ _ low c.index-number.ensures 0 in
    let t = stands_there (send_kind ems) c.args.events.now _ c.in-Some.place (event.Roll 0 (record { 0 = 0 }) 0) low c.requires.index.numbers in
    sending_there c.args.events.now ems c.index-number.result.now c.index-events-number.result c.sending_of.result c.requires.lawful
    (omega (arith, number, t.within)) c.index-events-number.is (c.sending_of.ensures ems)

pub returns-in-Some-clause-value : goal.returns-in-Some-clause-value
returns-in-Some-clause-value c =
    let ems = c.args.emissions.now.emissions in
    let low = origin_within _ _ _ _ c.args.origin c.in-Some.place c.requires.index c.in-Some.ensures in
    let number : c.index-number.result.now ≡ slice_index c.args.index.now.at.items c.in-Some.place = get_or_read c.args.index.now.at.items _ _ low c.index-number.ensures 0 in
    c.sending_of.ensures ems ∙ ap (as_send ems) c.index-events-number.is ∙ ap (λ n. as_send ems (slice_index_or c.args.events.now n c.index-events-number.result)) number
    ∙ send_answer _ _ _ _ c.args.origin c.in-Some.place c.index-events-number.result c.requires.index c.in-Some.ensures

pub returns-in-None-clause-value : goal.returns-in-None-clause-value
unfolding send_of
returns-in-None-clause-value c =
    sym (first_none (is_send_of c.args.origin.src c.args.origin.ts) (filter_map (as_send c.args.emissions.now.emissions) c.args.events.now)
    (origin_place _ _ _ _ c.args.origin None c.requires.index c.in-None.ensures))
