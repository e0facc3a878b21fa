-- Private: serves proofs of this crate alone; no public contract cites it.
-- The accounts of the sources: the list of each, and what it has used.
use Rattle.std.specs.Prelude.{◌≡◌, ℕ, ◌+◌, ◌<◌, ◌≤◌, ◌==◌, if◌then◌else◌, List, Option, Some, None, IsSome, option_map, unwrap_or}
use Rattle.std.specs.Map.{lookup}
use Rattle.epic_num.specs.declared.name.AsId.{AsId}
use Rattle.epic_policer.specs.declared.accounts.Account.{Account}
use Rattle.epic_policer.specs.declared.accounts.Charged.{Charged}
use Rattle.epic_policer.specs.declared.accounts.Charged.TheVariants.{Taken, Over, Unknown}

unfoldable pub list_in : List (AsId × Account) → AsId → Option ℕ
list_in accounts s = option_map (λ a. a.list) (lookup (λ t. s.0 == t.0) accounts)

-- a source without an account has used nothing
unfoldable pub used_in : List (AsId × Account) → AsId → ℕ
used_in accounts s = unwrap_or (option_map (λ a. a.used) (lookup (λ t. s.0 == t.0) accounts)) 0

-- the accounts after so many bytes were charged to a source, by what was answered
abbrev pub Charges : ℕ → AsId → ℕ → List (AsId × Account) → List (AsId × Account) → Charged → Type 0
Charges budget source bytes old new (Taken list total) =
    (list_in old source ≡ Some list) × (total ≡ used_in old source + bytes) × (total ≤ budget)
    × ((s : AsId) → used_in new s ≡ used_in old s + (if source.0 == s.0 then bytes else 0))
Charges budget source bytes old new (Over total) =
    IsSome (list_in old source) × (total ≡ used_in old source) × (budget < total + bytes) × ((s : AsId) → used_in new s ≡ used_in old s)
Charges budget source bytes old new Unknown = (list_in old source ≡ None) × ((s : AsId) → used_in new s ≡ used_in old s)
