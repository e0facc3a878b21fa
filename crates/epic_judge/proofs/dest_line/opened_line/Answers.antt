use Rattle.epic_ledger.specs.Facts.{facts_of}
use Rattle.epic_judge.proofs.DestLines.{dest_opened_told}
use Rattle.epic_judge.proofs.dest_line.opened_line.Goals as goal

pub returns : goal.returns
returns c = dest_opened_told c.args.index.now.network (facts_of c.args.index.now.history) c.args.packet.now c.args.step _ c.dest_opened.ensures
