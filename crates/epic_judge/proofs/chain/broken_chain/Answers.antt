use Rattle.std.proofs.Common.{sym, ◌∙◌}
use Rattle.epic_ledger.specs.Facts.{facts_of}
use Rattle.epic_judge.proofs.Breaking.{broken_is}
use Rattle.epic_judge.proofs.chain.broken_chain.Goals as goal

pub returns-in-Some : goal.returns-in-Some
returns-in-Some c =
    c.broken_at.ensures
    ∙ broken_is (facts_of c.args.index.now.history) c.args.x.now c.args.packet.now c.args.hop _ (sym c.in-Some.is ∙ c.passed_before.ensures)

pub returns-in-None : goal.returns-in-None
returns-in-None c =
    broken_is (facts_of c.args.index.now.history) c.args.x.now c.args.packet.now c.args.hop _ (sym c.in-None.is ∙ c.passed_before.ensures)
