use Rattle.std.proofs.Common.{arith}
use Rattle.epic_cmac.proofs.HeldLemmas.{held_put}
use Rattle.epic_cmac.proofs.pieces.feed.Goals as goal

pub returns : goal.returns
returns c = λ message held. held_put _ _ _ _ message _ _ held (omega arith) c.put.ensures
