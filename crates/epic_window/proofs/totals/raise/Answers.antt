use Rattle.std.proofs.Common.{rules}
use Rattle.epic_window.proofs.TotalLaws.{same_total}
use Rattle.epic_window.proofs.totals.raise.Goals as goal

pub returns-else-total-limit-clause-totals : goal.returns-else-total-limit-clause-totals
returns-else-total-limit-clause-totals c a =
    same_total c.args.totals.now.entries _ c.args.asn a c.in-Some.total.now c.in-Some.ensures.value
    (((c.get_mut.follows.holds c.in-Some.total.now).3 (search rules)).0 a)
