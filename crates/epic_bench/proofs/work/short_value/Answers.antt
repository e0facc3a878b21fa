use Rattle.std.proofs.Common.{◌∙◌}
use Rattle.std.specs.Fn.{iterate}
use Rattle.epic_cmac.specs.Cmac.{cmac}
use Rattle.epic_bench.specs.declared.work.TheConstants.{KEY}
use Rattle.epic_bench.specs.Works.{tagged}
use Rattle.epic_bench.proofs.work.short_value.Goals as goal

pub returns : goal.returns
unfolding tagged
returns c = c.tag_rounds.ensures ∙ (λ i. iterate (λ x. cmac x (c.fill.ensures i)) c.args.rounds KEY)
