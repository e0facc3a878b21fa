use Rattle.epic_policer.proofs.Tables.{first_took}
use Rattle.epic_policer.proofs.table.offer_first.Goals as goal

pub returns : goal.returns
returns c =
    let e = c.in_ok-policer.ensures in
    first_took _ c.args.packet c.in_ok-policer.policer _ _ e.sources e.budget e.span e.passed c.in_ok-given.ensures
