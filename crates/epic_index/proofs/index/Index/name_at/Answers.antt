use Rattle.std.proofs.Common.{arith}
use Rattle.epic_index.proofs.Answering.{no_name_at, name_there}
use Rattle.epic_index.proofs.index.Index.name_at.Goals as goal

pub returns-then-row-issues : goal.returns-then-row-issues
returns-then-row-issues c = rw (← c.self.view_is) (no_name_at _ _ c.args.row c.self.invariant.index.apart (omega (arith, c.issues.ensures)))

pub returns-in-Some : goal.returns-in-Some
returns-in-Some c = rw (← c.self.view_is) (name_there _ _ c.args.row _ _ c.self.invariant.index.apart c.issue.ensures c.in-Some.is)

pub returns-in-None : goal.returns-in-None
returns-in-None c = rw (← c.self.view_is) (name_there _ _ c.args.row _ _ c.self.invariant.index.apart c.issue.ensures c.in-None.is)
