-- How many events and emissions a ledger has, and what passages add.
use Rattle.std.proofs.Common.{◌≡◌, ◌≢◌, ℕ, ◌+◌, ◌*◌, ◌<◌, ◌≤◌, ◌^◌, List, [], ◌∷◌, length, None, refl, arith}
use Rattle.std.specs.List.{All}
use Rattle.std.proofs.lemmas.List.Elements.{All-head, All-tail}
use Rattle.std.proofs.lemmas.List.Sums.{sum_by-cons}
use Rattle.epic_num.specs.declared.arrival.Arrival.{Arrival}
use Rattle.epic_num.specs.declared.arrival.Arrival.TheVariants as arrival
use Rattle.epic_num.specs.declared.name.HostId.{HostId}
use Rattle.epic_num.specs.declared.passed.Place.{Place}
use Rattle.epic_num.specs.declared.passed.Place.TheVariants.{Host, Router}
use Rattle.epic_num.specs.Levels.{is_first_byte}
use Rattle.epic_layout.specs.Layout.{fault}
use Rattle.epic_layout.specs.Reading.{IsRead}
use Rattle.epic_layout.proofs.Soundness.{sound}
use Rattle.epic_topo.specs.Network.{Network}
use Rattle.epic_ledger.specs.History.{Emission, History, emitted}
use Rattle.epic_ledger.specs.Lawful.{IsEmission, IsLawful}
use Rattle.epic_model.specs.Passing.{Happened, arrival_at, arrived_at, arrived_by, arrives, most_emitted, pass_at}
use Rattle.epic_world.proofs.Grown.{Grows, arrived_grows, turned_grows}

-- at most so many events more than two an emission, and no more bytes of emissions than may be
pub record Counted (n : ℕ) (h : History) : Type 0 where
  pub events : length h.events ≤ n + 2 * length h.emissions
  pub bytes : emitted h.emissions ≤ most_emitted

long_enough : (b : List ℕ) → fault is_first_byte b ≡ None → 40 ≤ length b
long_enough b e = (let s = sound b e in omega (arith, s.some_segment, s.segments_there))

all_long : (emissions : List Emission) → All IsEmission emissions → 40 * length emissions ≤ emitted emissions
unfolding emitted
all_long [] h = omega arith
all_long (x ∷ emissions) h =
    let rest = all_long emissions (All-tail IsEmission x emissions h) in
    let here = long_enough x.bytes (All-head IsEmission x emissions h).faultless in
    omega (arith, rest, here, sum_by-cons (λ (e : Emission). length e.bytes) x emissions)

pub few_packets : (n : ℕ) (h : History) → IsLawful h → Counted n h → length h.emissions ≤ 6710886
few_packets n h lawful c =
    let long = all_long h.emissions lawful.packets in
    let bytes = c.bytes in
    omega (arith, long, bytes)

pub few_events : (n : ℕ) (h : History) → IsLawful h → Counted n h → n < 2 ^ 30 → length h.events < 2 ^ 31
few_events n h lawful c small =
    let few = few_packets n h lawful c in
    let events = c.events in
    omega (arith, few, events, small)

pub later : (n : ℕ) (h : History) → Counted n h → Counted (n + 1) h
later n h c = record { events = (let events = c.events in omega (arith, events)); bytes = c.bytes }

-- ---- passages

no_emission : (t : Network) (step now : ℕ) (h : History) (d : HostId) (bytes : List ℕ) → (arrived_at t step now h d bytes).emission ≡ 0
unfolding arrived_at arrived_by arrives
no_emission t step now h d bytes = by (arrival_at t now h d bytes)
  where
    by : (answer : Arrival) → (arrived_by t step h d bytes answer).emission ≡ 0
    by arrival.Accepted = refl
    by arrival.Unchecked = refl
    by (arrival.Refused check) = refl

-- a passage adds an event more at most, and none where it emits
pub record Adds (n : ℕ) (d : Happened) : Type 0 where
  pub more : Counted (n + 1) d.history
  pub onward : d.emission ≢ 0 → Counted n d.history

grown : (t : Network) (n more : ℕ) (h g : History) → Grows t more h g → Counted n h → Counted (n + more) g
grown t n more h g grows c =
    record { events = (let few = c.events in let events = grows.events in omega (arith, few, events)); bytes = grows.bytes c.bytes }

same_number : (n : ℕ) (h : History) → Counted (n + 0) h → Counted n h
same_number n h c = record { events = (let events = c.events in omega (arith, events)); bytes = c.bytes }

pub passage_adds : (t : Network) (step now n : ℕ) (h : History) (place : Place) (bytes : List ℕ) → IsRead bytes → Counted n h
    → Adds n (pass_at t step now h place bytes)
unfolding pass_at
passage_adds t step now n h (Router a iface) bytes read c =
    let g = grown t n 0 h _ (turned_grows t step now h a iface bytes read) c in
    record { more = later n _ (same_number n _ g); onward = λ _. same_number n _ g }
passage_adds t step now n h (Host d) bytes read c =
    record {
      more = grown t n 1 h _ (arrived_grows t step now h d bytes) c;
      onward = λ some. absurd (some (no_emission t step now h d bytes));
    }
