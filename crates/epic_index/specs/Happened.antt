-- Private: what has to be there for an event to be read.
use Rattle.std.specs.Prelude.{List, IsSome, ⊤}
use Rattle.epic_ledger.specs.History.{Emission, emission_at}
use Rattle.epic_ledger.specs.Lawful.{FitsPass}
use Rattle.epic_ledger.specs.declared.event.Event.{Event}
use Rattle.epic_ledger.specs.declared.event.Event.TheVariants as event

-- the packet of the event is there, and has the hop
abbrev pub IsThere : List Emission → Event → Type 0
IsThere emissions (event.Issue step number name parent) = ⊤
IsThere emissions (event.Fetch step source owner epoch) = ⊤
IsThere emissions (event.Send step emission segments) = IsSome (emission_at emissions emission)
IsThere emissions (event.Pass step a hop generation emission) = FitsPass emissions emission hop
IsThere emissions (event.Arrive step host src ts hops checked) = ⊤
IsThere emissions (event.Reveal step holder) = ⊤
IsThere emissions (event.Roll step a generation) = ⊤
