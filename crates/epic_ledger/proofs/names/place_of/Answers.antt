use Rattle.std.proofs.Common.{◌∙◌}
use Rattle.epic_num.specs.Chains.{no_name}
use Rattle.epic_tree.proofs.Indexing.{tagged_cut, tagged_find}
use Rattle.epic_ledger.specs.Ranks.{name_cmp, name_tag}
use Rattle.epic_ledger.proofs.RankLaws.{name_tagged, names_position, position_within}
use Rattle.epic_ledger.proofs.names.place_of.Goals as goal

pub find-requires-clause-cut : goal.find-requires-clause-cut
find-requires-clause-cut c = tagged_cut name_cmp name_tag no_name _ _ c.requires c.args.name.now

pub returns-clause-value : goal.returns-clause-value
returns-clause-value c =
    c.find.ensures ∙ tagged_find name_cmp name_tag no_name _ _ name_tagged c.requires c.args.name.now
    ∙ names_position c.args.issues.now c.args.name.now

pub returns-clause-within : goal.returns-clause-within
returns-clause-within c =
    position_within c.args.issues.now _ c.find.result
    (c.find.ensures ∙ tagged_find name_cmp name_tag no_name _ _ name_tagged c.requires c.args.name.now
    ∙ names_position c.args.issues.now c.args.name.now)
