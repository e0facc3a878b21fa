use Rattle.std.proofs.Common.{sym, ◌∙◌}
use Rattle.epic_ledger.specs.Facts.{facts_of}
use Rattle.epic_holders.proofs.Chained.{in_chain, in_no_chain}
use Rattle.epic_holders.proofs.chains.is_in_chain.Goals as goal

pub returns-in-Some : goal.returns-in-Some
returns-in-Some c =
    c.is_in_last.ensures
    ∙ in_chain (facts_of c.args.ledger.now.history).issues c.args.x.now c.args.number (c.in-Some.name, c.in-Some.field-0-1) (sym c.in-Some.is ∙ c.issue.ensures)

pub returns-in-None : goal.returns-in-None
returns-in-None c =
    in_no_chain (facts_of c.args.ledger.now.history).issues c.args.x.now c.args.number (sym c.in-None.is ∙ c.issue.ensures)
