use Rattle.std.proofs.Common.{sym, ◌∙◌}
use Rattle.epic_ledger.specs.Facts.{facts_of}
use Rattle.epic_judge.proofs.HopLines.{other_false, other_true, issue_of, issue_owner, issue_told}
use Rattle.epic_judge.proofs.hop_line.issue_line.Goals as goal

pub returns-then-not-issue_forged : goal.returns-then-not-issue_forged
returns-then-not-issue_forged c = other_false _ _ (sym c.issue_forged.ensures ∙ c.if-not-issue_forged.true)

pub tells_issue_forged-requires-clause-owner : goal.tells_issue_forged-requires-clause-owner
tells_issue_forged-requires-clause-owner c =
    issue_owner _ c.args.index.now.network (facts_of c.args.index.now.history) c.args.x.now c.args.packet.now c.args.hop (issue_of c.args.hop c.args.key.now c.args.x.now.generation) c.topology.ensures c.requires.known (sym c.issue_forged.ensures ∙ c.if-not-issue_forged.false)

pub returns : goal.returns
returns c =
    other_true _ _ c.tells_issue_forged.result
    (issue_told c.topology.result.now c.args.index.now.network c.args.packet.now c.args.hop c.args.key.now c.args.x.now.generation c.args.what.now c.args.message.now c.args.tag.now _ c.topology.ensures c.tells_issue_forged.ensures)
    (sym c.issue_forged.ensures ∙ c.if-not-issue_forged.false)
