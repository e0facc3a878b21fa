-- The state of a world: the present moment, how many steps there were, and the ledger. All else is read from the ledger.
use Rattle.std.specs.Prelude.{ℕ, Bool, List, [], filter_map, Option, None, Some}
use Rattle.std.specs.List.{list_any}
use Rattle.epic_keys.specs.Fetches.{Fetch, same_fetch}
use Rattle.epic_ledger.specs.History.{History}
use Rattle.epic_ledger.specs.declared.event.Event.{Event}
use Rattle.epic_ledger.specs.declared.event.Event.TheVariants as event

pub record State : Type 0 where
  pub moment : ℕ
  pub steps : ℕ
  pub history : History

-- the moment is 0, and nothing has happened
abbrev pub start : State
start = record { moment = 0; steps = 0; history = record { events = []; emissions = [] } }

-- ---- keys that were fetched

unfoldable pub as_fetch : Event → Option Fetch
as_fetch (event.Fetch step source owner epoch) = Some (record { source = source; owner = owner; epoch = epoch })
as_fetch (event.Issue step number name parent) = None
as_fetch (event.Send step emission segments) = None
as_fetch (event.Pass step a hop generation emission) = None
as_fetch (event.Arrive step host src ts hops checked) = None
as_fetch (event.Reveal step holder) = None
as_fetch (event.Roll step a generation) = None

-- whether keys were fetched
abbrev pub is_fetched_in : List Event → Fetch → Bool
is_fetched_in events f = list_any (same_fetch f) (filter_map as_fetch events)
