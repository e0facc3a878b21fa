use Rattle.std.proofs.Common.{sym, ◌∙◌}
use Rattle.epic_ledger.specs.Facts.{facts_of}
use Rattle.epic_audit.proofs.Walked.{next_issue, some_issue}
use Rattle.epic_holders.proofs.chains.issue_at.Goals as goal

pub unreachable-requires : goal.unreachable-requires
unreachable-requires c =
    some_issue (facts_of c.args.ledger.now.history).issues c.args.index c.requires.there (sym c.in-None.is ∙ c.issue.ensures)

pub returns : goal.returns
returns c = next_issue (facts_of c.args.ledger.now.history).issues c.args.index c.in-Some.issue (sym c.in-Some.is ∙ c.issue.ensures)
