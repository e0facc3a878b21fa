use Rattle.epic_policer.proofs.AccountLaws.{IsOpened}
use Rattle.epic_policer.proofs.accounts.open.Given as goal

abbrev pub invariant-loop-list : goal.invariant-loop-list
invariant-loop-list l = IsOpened l.sources l.list l.accounts.entries
