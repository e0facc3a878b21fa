use Rattle.std.proofs.Common.{◌∙◌, sym}
use Rattle.epic_num.proofs.MomentLaws.{fresh}
use Rattle.epic_window.proofs.tests.offer.Goals as goal

pub offer-requires-clause-fresh : goal.offer-requires-clause-fresh
offer-requires-clause-fresh g c =
    rw (c.reserve.ensures.profile, c.requires)
    (fresh _ _ _ (sym c.is_early.ensures ∙ c.if-is_early.false) (sym c.is_stale.ensures ∙ c.if-is_stale.false))
