use Rattle.std.proofs.Common.{◌≡◌, [], rules}
use Rattle.epic_ledger.proofs.KindLaws.{index_none as tree_none}
use Rattle.epic_index.specs.SentAs.{sent_kind}
use Rattle.epic_index.proofs.Keeping.{index_none}
use Rattle.epic_index.proofs.index.Index.new.Goals as goal

pub invariant_of-result : goal.invariant_of-result
invariant_of-result c =
    let steps : c.new-2.result.items ≡ [] = search rules in
    let rows = c.new-3.ensures in
    record {
      index = index_none _ _ _ _ c.new.ensures.events steps rows.reveals rows.twins rows.children rows.sources rows.likes rows.passes rows.fields rows.updates rows.origins rows.again;
      sent_is = rw (c.new.ensures.events, c.new.ensures.emissions, c.new-4.ensures.at)
          (tree_none (sent_kind []) c.new-4.result.keys c.new-4.ensures.places c.new-4.ensures.tags);
    }
