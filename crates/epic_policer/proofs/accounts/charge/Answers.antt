use Rattle.std.proofs.Common.{◌≡◌, ◌+◌, refl, sym, ap, rules, arith}
use Rattle.std.specs.Prelude.{is_some, option_map, unwrap_or}
use Rattle.epic_policer.specs.Accounts.{list_in, used_in}
use Rattle.epic_policer.specs.declared.accounts.Account.{Account}
use Rattle.epic_policer.proofs.AccountLaws.{same_read}
use Rattle.epic_policer.proofs.accounts.charge.Goals as goal

pub returns-then-bytes-budget-clause-charges : goal.returns-then-bytes-budget-clause-charges
unfolding list_in used_in
returns-then-bytes-budget-clause-charges c =
    let used : c.in-Some.account.now.used ≡ used_in c.args.accounts.now.entries c.args.source =
    ap (λ o. unwrap_or (option_map (λ (a : Account). a.used) o) 0) c.in-Some.ensures.value in (
      sym (ap (λ o. is_some (option_map (λ (a : Account). a.list) o)) c.in-Some.ensures.value),
      used,
      omega (arith, used, c.requires.within, c.if-bytes-budget.true, c.from-bytes.ensures),
      λ s.
          ap (λ o. unwrap_or o 0)
          (same_read (λ a. a.used) c.args.accounts.now.entries _ c.args.source s c.in-Some.account.now c.in-Some.account.now c.in-Some.ensures.value
          (((c.get_mut.follows.holds c.in-Some.account.now).3 (search rules)).0 s) refl),
    )

pub returns-then-bytes-budget-clause-lists : goal.returns-then-bytes-budget-clause-lists
unfolding list_in
returns-then-bytes-budget-clause-lists c s =
    same_read (λ a. a.list) c.args.accounts.now.entries _ c.args.source s c.in-Some.account.now c.in-Some.account.now c.in-Some.ensures.value
    (((c.get_mut.follows.holds c.in-Some.account.now).3 (search rules)).0 s) refl

pub returns-else-bytes-budget-clause-lists : goal.returns-else-bytes-budget-clause-lists
unfolding list_in
returns-else-bytes-budget-clause-lists c s =
    let after : Account = record { list = c.in-Some.account.now.list; used = c.in-Some.account.now.used + c.from-bytes.result } in
    same_read (λ a. a.list) c.args.accounts.now.entries _ c.args.source s c.in-Some.account.now after c.in-Some.ensures.value
    (((c.get_mut.follows.holds after).3 (search rules)).0 s) refl
