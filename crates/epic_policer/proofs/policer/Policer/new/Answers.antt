use Rattle.std.proofs.Common.{◌∙◌, arith}
use Rattle.epic_policer.proofs.AccountLaws.{known_by}
use Rattle.epic_policer.proofs.Keeping.{kept_new, size_of}
use Rattle.epic_policer.proofs.Nodes.{no_entries, no_queue}
use Rattle.epic_policer.proofs.policer.Policer.new.Goals as goal

pub invariant_of-result : goal.invariant_of-result
invariant_of-result c =
    kept_new _ _ _ (no_queue _ c.in_ok-pool.ensures.b) (no_entries _ c.in_ok-pool.ensures.b) c.in_ok-accounts.ensures.used
    (λ s l e. let lt = c.in_ok-accounts.ensures.lists s l e in let size = size_of c.in_ok-pool.pool _ c.in_ok-pool.ensures.a in omega (arith, lt, size))

pub returns-clause-sources : goal.returns-clause-sources
returns-clause-sources c s = known_by _ s ∙ c.in_ok-accounts.ensures.known s

pub returns-clause-passed : goal.returns-clause-passed
returns-clause-passed c = no_entries _ c.in_ok-pool.ensures.b
