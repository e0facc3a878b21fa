use Rattle.std.proofs.Common.{refl, rules}
use Rattle.epic_policer.proofs.AccountLaws.{opened_all, opened_more, opened_none}
use Rattle.epic_policer.proofs.accounts.open.Goals as goal

pub loop-list-init : goal.loop-list-init
loop-list-init c = opened_none c.args.sources.now _ c.new-accounts.ensures.empty

pub loop-list-preserved : goal.loop-list-preserved
loop-list-preserved c =
    opened_more c.args.sources.now _ _ c.loop-list.list _ _ refl c.loop-list-test.true c.loop-list.invariant c.in_ok-add.ensures.used c.in_ok-add.ensures.lists

pub returns-clause-known : goal.returns-clause-known
returns-clause-known c = opened_all c.args.sources.now _ c.loop-list.list c.loop-list.invariant (search rules)

pub returns-clause-used : goal.returns-clause-used
returns-clause-used c = c.loop-list.invariant.1

pub returns-clause-lists : goal.returns-clause-lists
returns-clause-lists c = c.loop-list.invariant.2
