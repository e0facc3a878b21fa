use Rattle.epic_num.specs.Chains.{no_name}
use Rattle.epic_tree.proofs.Indexing.{tagged_cut, tagged_push}
use Rattle.std.proofs.lemmas.List.{map-append}
use Rattle.epic_ledger.specs.Ranks.{name_cmp, name_tag}
use Rattle.epic_ledger.specs.declared.log.Issued.{Issued}
use Rattle.epic_ledger.proofs.RankLaws.{name_total}
use Rattle.epic_ledger.proofs.log.add_issue.Goals as goal

pub add-requires-clause-cut : goal.add-requires-clause-cut
add-requires-clause-cut c = rw c.as_slice.ensures.value (tagged_cut name_cmp name_tag no_name _ _ c.requires.named c.in-Some.issue.name)

pub returns-in-Some-clause-named : goal.returns-in-Some-clause-named
returns-in-Some-clause-named c =
    let placed = rw c.as_slice.ensures.value at c.add.ensures.places in
    rw (c.push_reserved.ensures.items, map-append (λ (i : Issued). i.name))
    (tagged_push name_cmp name_tag no_name _ _ c.add.new.self c.in-Some.issue.name name_total c.requires.named placed c.add.ensures.tags)
