use Rattle.std.proofs.Common.{◌<◌, ◌+◌, ◌^◌, sym, subst, arith}
use Rattle.epic_ledger.specs.History.{emitted}
use Rattle.epic_ledger.specs.Parts.{Row}
use Rattle.epic_ledger.proofs.InRow.{emitted_whole}
use Rattle.epic_ledger.proofs.emissions.Emissions.reserve.Goals as goal

pub returns-clause-byte_spare : goal.returns-clause-byte_spare
returns-clause-byte_spare c =
    let whole = emitted_whole c.self.inside.row.items c.self.inside.spans.items c.self.invariant in
    let few = subst (λ (r : Row). emitted r.emissions + c.args.bytes < 2 ^ 30) (sym c.self.view_is) c.requires.few_bytes in
    rw c.in_ok-reserve-2.ensures.items (omega (arith, whole, few, c.in_ok-reserve-2.ensures.ok, c.self.inside.row.ok.0))
