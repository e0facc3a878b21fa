use Rattle.std.proofs.Common.{sym, subst}
use Rattle.epic_ledger.specs.Facts.{facts_of}
use Rattle.epic_record.specs.declared.told.Told.{Told}
use Rattle.epic_judge.specs.Lines.{IsHopLine}
use Rattle.epic_judge.proofs.HopLines.{opened_told}
use Rattle.epic_judge.proofs.hop_line.line_of_hop.Goals as goal

pub returns-in-Opened : goal.returns-in-Opened
returns-in-Opened c =
    let t = c.args.index.now.network in
    let f = facts_of c.args.index.now.history in
    subst (λ (l : Told). IsHopLine t f c.args.x.now c.args.packet.now c.args.hop l c.hop_opened.result) (sym c.in-Opened.is)
    (opened_told t f c.args.x.now c.args.packet.now c.args.hop c.in-Opened.step c.hop_opened.result c.hop_opened.ensures)
