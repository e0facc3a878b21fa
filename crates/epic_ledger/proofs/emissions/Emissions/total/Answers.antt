use Rattle.std.proofs.Common.{arith}
use Rattle.epic_ledger.proofs.InRow.{emitted_whole}
use Rattle.epic_ledger.proofs.emissions.Emissions.total.Goals as goal

pub returns : goal.returns
returns c =
    let whole = emitted_whole c.self.inside.row.items c.self.inside.spans.items c.self.invariant in
    rw (← c.self.view_is) (omega (arith, whole, c.self.inside.row.ok.0))
