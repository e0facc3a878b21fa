use Rattle.epic_ledger.specs.Indexes.{send_kind, pass_kind, path_kind, reveal_kind}
use Rattle.epic_ledger.proofs.Growing.{lawful_none}
use Rattle.epic_ledger.proofs.KindLaws.{index_none}
use Rattle.epic_ledger.proofs.ledger.Ledger.new.Goals as goal

pub invariant_of-result : goal.invariant_of-result
invariant_of-result c =
    let es = c.new-2.result.emissions in
    record {
      lawful = rw (c.new.ensures, c.new-2.ensures) lawful_none;
      sends = rw (c.new.ensures, c.new-3.ensures.at) (index_none (send_kind es) c.new-3.result.keys c.new-3.ensures.places c.new-3.ensures.tags);
      passes = rw (c.new.ensures, c.new-4.ensures.at) (index_none (pass_kind es) c.new-4.result.keys c.new-4.ensures.places c.new-4.ensures.tags);
      on_paths = rw (c.new.ensures, c.new-5.ensures.at) (index_none (path_kind es) c.new-5.result.keys c.new-5.ensures.places c.new-5.ensures.tags);
      reveals = rw (c.new.ensures, c.new-6.ensures.at) (index_none reveal_kind c.new-6.result.keys c.new-6.ensures.places c.new-6.ensures.tags);
    }
