-- Rows of events: the keys that each event has, with the event's number.
use Rattle.std.specs.Prelude.{◌≡◌, ℕ, ◌+◌, Bool, List, [], ◌∷◌, ◌++◌, map, position, slice_get, Option, option_and_then}
use Rattle.epic_ledger.specs.declared.event.Event.{Event}

-- the rows' keys in order, and the number of the event that each is of, from 0
pub record Numbered (K : Type 0) : Type 0 where
  pub keys : List K
  pub numbers : List ℕ

-- the same, and for how many more rows there is room
pub record Roomy (K : Type 0) : Type 0 where
  pub rows : Numbered K
  pub spare : ℕ

-- with these keys of the event of a number
abbrev pub with_keys : {K : Type 0} → Numbered K → ℕ → List K → Numbered K
with_keys {K} rows n keys = record { keys = rows.keys ++ keys; numbers = rows.numbers ++ map (λ (k : K). n) keys }

-- a key with the number of its event
abbrev pub row : {K : Type 0} → ℕ → K → K × ℕ
row n k = (k, n)

-- the rows of events that are numbered from n on
abbrev pub rows_from : {K : Type 0} → (Event → List K) → ℕ → List Event → List (K × ℕ)
rows_from f n [] = []
rows_from f n (e ∷ events) = map (row n) (f e) ++ rows_from f (n + 1) events

-- these are the rows of the events
pub record AreRows {K : Type 0} (f : Event → List K) (events : List Event) (rows : Numbered K) : Type 0 where
  pub keys : rows.keys ≡ map (λ r. r.0) (rows_from f 0 events)
  pub numbers : rows.numbers ≡ map (λ r. r.1) (rows_from f 0 events)

-- the number of the event of the first row of a key
abbrev pub first_of : {K : Type 0} → (K → K → Bool) → K → Numbered K → Option ℕ
first_of eq key rows = option_and_then (slice_get rows.numbers) (position (λ k. eq key k) rows.keys)
