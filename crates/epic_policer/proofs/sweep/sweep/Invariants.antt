use Rattle.std.proofs.Common.{◌≡◌, ◌≤◌, length}
use Rattle.std.specs.HashMap.{keys}
use Rattle.epic_num.specs.declared.name.AsId.{AsId}
use Rattle.epic_policer.specs.Accounts.{list_in}
use Rattle.epic_policer.specs.Kept.{IsKept}
use Rattle.epic_policer.specs.Offers.{Same}
use Rattle.epic_policer.specs.Queue.{entries_of}
use Rattle.epic_policer.proofs.sweep.sweep.Given as goal

abbrev pub invariant-loop-packet : goal.invariant-loop-packet
invariant-loop-packet l =
    IsKept l.budget l.now l.accounts.entries l.pool
    × Same l.span_us l.now (entries_of l.pool) (entries_of l.fn.pool)
    × (keys l.accounts ≡ keys l.fn.accounts)
    × ((s : AsId) → list_in l.accounts.entries s ≡ list_in l.fn.accounts.entries s)
    × (l.fn.pool.spare ≤ l.pool.spare)

abbrev pub decreases-loop-packet : goal.decreases-loop-packet
decreases-loop-packet l = length (entries_of l.pool)
