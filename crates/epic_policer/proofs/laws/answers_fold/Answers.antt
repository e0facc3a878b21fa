use Rattle.std.proofs.Common.{[], subst}
use Rattle.epic_policer.specs.Offers.{Same}
use Rattle.epic_policer.proofs.Folds.{folds}
use Rattle.epic_policer.proofs.Sums.{Same-refl}
use Rattle.epic_policer.proofs.laws.answers_fold.Goals as goal

pub returns : goal.returns
returns c old ts none run =
    folds ts old [] (subst (λ ps. Same old.policy.span_us old.latest old.passed ps) none (Same-refl old.policy.span_us old.latest old.passed)) run
