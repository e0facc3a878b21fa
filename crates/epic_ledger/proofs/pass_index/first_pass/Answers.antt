use Rattle.std.proofs.Common.{Some, None, ap, ◌∙◌, arith}
use Rattle.std.proofs.lemmas.List.{get_or_read}
use Rattle.epic_tree.proofs.Indexing.{tagged_cut}
use Rattle.epic_ledger.specs.Indexes.{sought_cmp, sought_tag, no_sought, pass_kind}
use Rattle.epic_ledger.proofs.KindLaws.{lawful_place}
use Rattle.epic_ledger.proofs.PassLaws.{pass_of_is, sought_within}
use Rattle.epic_ledger.proofs.pass_index.first_pass.Goals as goal

pub find-requires : goal.find-requires
find-requires c = record {
  cut = tagged_cut sought_cmp sought_tag no_sought _ _ c.requires.index.keyed c.args.sought;
  known = λ p low. rw c.as_slice.ensures.value (lawful_place (pass_kind c.args.emissions.now.emissions) _ _ _ _ p c.requires.lawful c.requires.index low);
}

pub index-requires : goal.index-requires
index-requires c =
    omega (arith, sought_within _ _ _ _ c.args.sought c.in-Some.place c.requires.index c.in-Some.ensures, c.args.index.now.at.ok.0)

pub returns-in-Some : goal.returns-in-Some
returns-in-Some c =
    let there = sought_within _ _ _ _ c.args.sought c.in-Some.place c.requires.index c.in-Some.ensures in
    ap Some (get_or_read c.args.index.now.at.items _ _ there c.index.ensures 0)
    ∙ pass_of_is _ _ _ _ c.args.sought (Some c.in-Some.place) c.requires.index c.in-Some.ensures

pub returns-in-None : goal.returns-in-None
returns-in-None c = pass_of_is _ _ _ _ c.args.sought None c.requires.index c.in-None.ensures
