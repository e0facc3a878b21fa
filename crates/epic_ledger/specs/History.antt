-- A ledger as a value: what happened, in order, and the packets that are under way.
use Rattle.std.specs.Prelude.{ℕ, ◌-◌, ◌==◌, if◌then◌else◌, List, length, Option, None, slice_get}
use Rattle.std.specs.List.{sum_by}
use Rattle.epic_num.specs.declared.passed.Place.{Place}
use Rattle.epic_ledger.specs.declared.event.Event.{Event}
use Rattle.epic_ledger.specs.declared.event.Event.TheVariants.{Issue, Fetch, Send, Pass, Arrive, Reveal, Roll}

-- a packet under way, and the place where it is due
pub record Emission : Type 0 where
  pub place : Place
  pub bytes : List ℕ

-- events are numbered from 0, emissions from 1
pub record History : Type 0 where
  pub events : List Event
  pub emissions : List Emission

-- the emission with a number
unfoldable pub emission_at : List Emission → ℕ → Option Emission
emission_at emissions number = if number == 0 then None else slice_get emissions (number - 1)

-- how many bytes all emissions have
unfoldable pub emitted : List Emission → ℕ
emitted emissions = sum_by (λ e. length e.bytes) emissions

-- the step that an event is of
unfoldable pub step_of : Event → ℕ
step_of (Issue step number name parent) = step
step_of (Fetch step source owner epoch) = step
step_of (Send step emission segments) = step
step_of (Pass step a hop generation emission) = step
step_of (Arrive step host src ts hops checked) = step
step_of (Reveal step holder) = step
step_of (Roll step a generation) = step
