use Rattle.std.proofs.Common.{arith}
use Rattle.std.proofs.lemmas.Grind.{common_steps}
use Rattle.epic_num.specs.Same.{same_as}
use Rattle.epic_path.specs.Search.{links_at}
use Rattle.epic_path.proofs.links.Links.add.Goals as goal

pub returns : goal.returns
unfolding links_at same_as
returns c = λ at. grind (arith, common_steps)
