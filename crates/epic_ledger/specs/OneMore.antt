-- A ledger with one thing more.
use Rattle.std.specs.Prelude.{[], ◌∷◌, ◌++◌}
use Rattle.epic_ledger.specs.History.{History, Emission}
use Rattle.epic_ledger.specs.declared.event.Event.{Event}

-- with one more event, the last
abbrev pub with_event : History → Event → History
with_event h e = record h { events = h.events ++ e ∷ [] }

-- with one more emission, the last
abbrev pub with_emission : History → Emission → History
with_emission h x = record h { emissions = h.emissions ++ x ∷ [] }
