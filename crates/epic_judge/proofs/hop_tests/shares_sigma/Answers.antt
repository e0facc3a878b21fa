use Rattle.std.proofs.Common.{sym, ◌∙◌}
use Rattle.epic_judge.proofs.Known.{named_known}
use Rattle.epic_judge.proofs.hop_tests.shares_sigma.Goals as goal

pub one_sigma-requires : goal.one_sigma-requires
one_sigma-requires c = named_known _ _ c.args.x.now (sym c.same_name.ensures ∙ c.if-not-same_name.false) c.requires
