-- The events of a history apart from their steps.
use Rattle.std.specs.Prelude.{ℕ, List, [], ◌∷◌}
use Rattle.epic_ledger.specs.declared.event.Event.{Event}
use Rattle.epic_ledger.specs.declared.event.Event.TheVariants as event

-- the event at another step
unfoldable pub at_step : ℕ → Event → Event
at_step step (event.Issue old number name parent) = event.Issue step number name parent
at_step step (event.Fetch old source owner epoch) = event.Fetch step source owner epoch
at_step step (event.Send old emission segments) = event.Send step emission segments
at_step step (event.Pass old a hop generation emission) = event.Pass step a hop generation emission
at_step step (event.Arrive old host src ts hops checked) = event.Arrive step host src ts hops checked
at_step step (event.Reveal old holder) = event.Reveal step holder
at_step step (event.Roll old a generation) = event.Roll step a generation

-- each event at its step
abbrev pub stepped : List ℕ → List Event → List Event
stepped [] events = []
stepped (step ∷ steps) [] = []
stepped (step ∷ steps) (e ∷ events) = at_step step e ∷ stepped steps events
