use Rattle.std.proofs.Common.{◌∙◌, ap}
use Rattle.epic_policer.specs.Offers.{is_among}
use Rattle.epic_bench.specs.Policing.{policy}
use Rattle.epic_bench.proofs.policing.open.Goals as goal

pub returns-in-Ok-clause-sources : goal.returns-in-Ok-clause-sources
unfolding policy
returns-in-Ok-clause-sources c = λ s. c.in-Ok.ensures.sources s ∙ ap (λ l. is_among l s) c.fill.ensures
