use Rattle.std.proofs.Common.{refl, rules}
use Rattle.epic_policer.specs.Accounts.{list_in}
use Rattle.epic_policer.specs.declared.accounts.Account.{Account}
use Rattle.epic_policer.proofs.AccountLaws.{same_read}
use Rattle.epic_policer.proofs.accounts.release.Goals as goal

pub returns-in-Some-clause-lists : goal.returns-in-Some-clause-lists
unfolding list_in
returns-in-Some-clause-lists c s =
    let after : Account = record { list = c.in-Some.account.now.list; used = c.saturating_sub-account.result } in
    same_read (λ a. a.list) c.args.accounts.now.entries _ c.args.source s c.in-Some.account.now after c.in-Some.ensures.value
    (((c.get_mut.follows.holds after).3 (search rules)).0 s) refl
