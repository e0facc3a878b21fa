-- How much a ledger grows by a turn or an arrival, and what it goes on to tell.
use Rattle.std.proofs.Common.{◌≡◌, ℕ, suc, ◌+◌, ◌*◌, ◌≤◌, Bool, false, cond, List, [], ◌∷◌, ◌++◌, length, take, None, refl, ap, ◌∙◌, arith, add-zero}
use Rattle.std.specs.Prelude.{nat_lt}
use Rattle.std.proofs.lemmas.Bool.{cond_both, ltb-false}
use Rattle.std.proofs.lemmas.List.{length_push, length-append, length-take}
use Rattle.std.proofs.lemmas.List.Sums.{sum_by_push}
use Rattle.epic_num.specs.declared.arrival.Arrival.{Arrival}
use Rattle.epic_num.specs.declared.name.AsId.{AsId}
use Rattle.epic_num.specs.declared.name.HostId.{HostId}
use Rattle.epic_num.specs.declared.passed.Place.{Place}
use Rattle.epic_num.specs.declared.passed.PassResult.TheVariants.{Full}
use Rattle.epic_num.specs.declared.turn.Turn.{Turn}
use Rattle.epic_layout.specs.Contents.{Contents, IsPacket, hop_count, header_len, header_len_of}
use Rattle.epic_layout.specs.Layout.{fault, parse}
use Rattle.epic_layout.specs.Pieces.{number}
use Rattle.epic_layout.specs.Reading.{IsRead}
use Rattle.epic_layout.specs.declared.wire.TheConstants.{PAYLOAD_LEN_AT}
use Rattle.epic_num.specs.Levels.{is_first_byte}
use Rattle.std.specs.Int.{w16}
use Rattle.epic_layout.specs.Spelling.{spelling}
use Rattle.epic_layout.proofs.Faultless.{length-spelling, header_len_most}
use Rattle.epic_layout.proofs.Shapes.{header_len_parse, payload_parse}
use Rattle.epic_layout.proofs.Soundness.{sound}
use Rattle.epic_topo.specs.Network.{Network}
use Rattle.epic_beacon.specs.Told.{beacons_in}
use Rattle.epic_router.specs.Leaving.{packet_after}
use Rattle.epic_ledger.specs.History.{History, Emission, emitted}
use Rattle.epic_ledger.specs.Facts.{as_issue}
use Rattle.epic_ledger.specs.declared.event.Event.{Event}
use Rattle.epic_ledger.specs.declared.event.Event.TheVariants as event
use Rattle.epic_audit.proofs.Lists.{none_more}
use Rattle.epic_model.specs.Keeping.{store_in}
use Rattle.epic_model.specs.Passing.{most_emitted, rolls, is_roll, passes_from, left, nothing, answer_at, arrives, turned_at, turned_by, arrived_at}
use Rattle.epic_model.proofs.Longer.{same_rolls, same_issues, emitted_more}
use Rattle.epic_model.proofs.Once.{after_turn, after_arrival}
use Rattle.epic_actors.specs.Telling.{IsAcceptedAt}
use Rattle.epic_actors.proofs.Leaving.{hops_few}

-- the later ledger tells the same issues and generations, and has at most so many events more than two an emission that is new, each
-- of which has 40 bytes at least. All of them have no more bytes than may be.
pub record Grows (t : Network) (more : ℕ) (before after : History) : Type 0 where
  pub stored : store_in t after ≡ store_in t before
  pub events : length after.events + 2 * length before.emissions ≤ length before.events + more + 2 * length after.emissions
  pub emissions : 40 * length before.emissions ≤ emitted before.emissions → 40 * length after.emissions ≤ emitted after.emissions
  pub bytes : emitted before.emissions ≤ most_emitted → emitted after.emissions ≤ most_emitted

pub grows_none : (t : Network) (more : ℕ) (h : History) → Grows t more h h
grows_none t more h = record { stored = refl; events = omega arith; emissions = λ few. few; bytes = λ few. few }

-- ---- turns

passes_many : (step : ℕ) (a : AsId) (number j : ℕ) (gs : List ℕ) → length (passes_from step a number j gs) ≡ length gs
passes_many step a number j [] = refl
passes_many step a number j (g ∷ gs) = ap suc (passes_many step a number (j + 1) gs)

long_enough : (p : Contents) → IsPacket p → 40 ≤ length (spelling p)
unfolding header_len
long_enough p packet = omega (arith, length-spelling p packet)

header_as : (p q : Contents) → q.first ≡ p.first → q.route ≡ p.route → header_len q ≡ header_len p
unfolding header_len
header_as p q first route i = header_len_of (first i) (length (route i).segments) (length (route i).hops)

-- bytes without a fault are as many as those of the packet that they say
length_parse : (bytes : List ℕ) → fault is_first_byte bytes ≡ None → header_len (parse bytes) + length (parse bytes).payload ≡ length bytes
length_parse bytes faultless =
    let s = sound bytes faultless in
    omega (arith, header_len_parse bytes, payload_parse bytes (number w16 bytes PAYLOAD_LEN_AT) s.whole, s.whole)

-- a packet that leaves has as many bytes as it came in with
pub same_long : (t : Network) (now : ℕ) (h : History) (a : AsId) (iface : ℕ) (bytes : List ℕ) (turn : Turn) (hops : ℕ) (generations : List ℕ)
    → IsAcceptedAt t now h a iface bytes turn hops generations → length (spelling (packet_after t a turn (parse bytes))) ≡ length bytes
same_long t now h a iface bytes turn hops generations acc =
    let p = parse bytes in
    let q = packet_after t a turn p in
    length-spelling q acc.goes_on.packet
    ∙ (ap (λ xs. header_len q + length xs) acc.goes_on.payload
    ∙ (ap (λ n. n + length p.payload) (header_as p q acc.goes_on.first acc.goes_on.route) ∙ length_parse bytes acc.faultless))

-- the bytes of a packet are few
pub length_most : (bytes : List ℕ) → IsRead bytes → fault is_first_byte bytes ≡ None → length bytes ≤ 8896
length_most bytes read faultless =
    let packet = read faultless in
    omega (arith, length_parse bytes faultless, header_len_most (parse bytes) packet, packet.payload)

-- what holds of it besides the limit of bytes
record GrowsBy (t : Network) (bytes : List ℕ) (before after : History) : Type 0 where
  stored : store_in t after ≡ store_in t before
  events : length after.events + 2 * length before.emissions ≤ length before.events + 2 * length after.emissions
  emissions : 40 * length before.emissions ≤ emitted before.emissions → 40 * length after.emissions ≤ emitted after.emissions
  bytes_more : emitted after.emissions ≤ emitted before.emissions + length bytes

left_grows : (t : Network) (step now : ℕ) (h : History) (a : AsId) (iface : ℕ) (bytes : List ℕ) (turn : Turn) (due : Place) (hops : ℕ) (generations : List ℕ)
    → IsAcceptedAt t now h a iface bytes turn hops generations
    → GrowsBy t bytes h (left t step h a bytes turn due (take hops generations)).history
unfolding left store_in
left_grows t step now h a iface bytes turn due hops generations acc =
    let p = parse bytes in
    let number = length h.emissions + 1 in
    let gs = take hops generations in
    let x : Emission = record { place = due; bytes = spelling (packet_after t a turn p) } in
    let more = emitted_more h step a number p.current gs x in
    let few = hops_few t now h a iface bytes turn hops generations acc in
    let passes = length-append h.events (passes_from step a number p.current gs) in
    let many = passes_many step a number p.current gs in
    let taken : length gs ≤ hops = omega (arith, length-take hops generations) in
    let pushed = length_push h.emissions x in
    let long = long_enough (packet_after t a turn p) acc.goes_on.packet in
    let same = same_long t now h a iface bytes turn hops generations acc in
    record {
      stored = λ i. record {
        beacons = beacons_in t (same_issues h step a number p.current gs x i);
        generations = λ b. same_rolls h step a number p.current gs x b i;
      };
      events = omega (arith, few, passes, many, taken, pushed);
      emissions = λ before. omega (arith, before, more, pushed, long);
      bytes_more = omega (arith, more, same);
    }

turned_grows_by : (t : Network) (step now : ℕ) (h : History) (a : AsId) (iface : ℕ) (bytes : List ℕ) → IsRead bytes
    → GrowsBy t bytes h (turned_at t step now h a iface bytes).history
turned_grows_by t step now h a iface bytes all =
    after_turn t step now h a iface bytes (GrowsBy t bytes h) all
    (record { stored = refl; events = omega arith; emissions = λ few. few; bytes_more = omega arith })
    (λ turn due hops generations acc _. left_grows t step now h a iface bytes turn due hops generations acc)

limited : (t : Network) (step now : ℕ) (h : History) (a : AsId) (iface : ℕ) (bytes : List ℕ)
    → emitted (turned_at t step now h a iface bytes).history.emissions ≤ emitted h.emissions + length bytes
    → emitted h.emissions ≤ most_emitted → emitted (turned_at t step now h a iface bytes).history.emissions ≤ most_emitted
unfolding turned_at
limited t step now h a iface bytes =
    cond_both (nat_lt most_emitted (emitted h.emissions + length bytes)) (nothing h Full) (turned_by t step h a bytes (answer_at t now h a iface bytes))
    (λ d. emitted d.history.emissions ≤ emitted h.emissions + length bytes → emitted h.emissions ≤ most_emitted → emitted d.history.emissions ≤ most_emitted)
    (λ _ more few. few)
    (λ room more few. (let small = ltb-false _ _ room in omega (arith, small, more)))

pub turned_grows : (t : Network) (step now : ℕ) (h : History) (a : AsId) (iface : ℕ) (bytes : List ℕ) → IsRead bytes
    → Grows t 0 h (turned_at t step now h a iface bytes).history
turned_grows t step now h a iface bytes all =
    let by = turned_grows_by t step now h a iface bytes all in
    let events = by.events in
    record { stored = by.stored; events = omega (arith, events); emissions = by.emissions; bytes = limited t step now h a iface bytes by.bytes_more }

-- ---- arrivals

arrival_no_issue : (step : ℕ) (d src : HostId) (ts hops : ℕ) (checked : Bool) → as_issue (event.Arrive step d src ts hops checked) ≡ None
unfolding as_issue
arrival_no_issue step d src ts hops checked = refl

arrival_no_roll : (a : AsId) (step : ℕ) (d src : HostId) (ts hops : ℕ) (checked : Bool) → is_roll a (event.Arrive step d src ts hops checked) ≡ false
unfolding is_roll
arrival_no_roll a step d src ts hops checked = refl

-- of an event that is no roll of the AS
rolls_more : (events : List Event) (e : Event) (a : AsId) → is_roll a e ≡ false → rolls (events ++ e ∷ []) a ≡ rolls events a
rolls_more events e a other =
    sum_by_push (λ x. cond (is_roll a x) 1 0) events e ∙ (ap (λ b. rolls events a + cond b 1 0) other ∙ add-zero (rolls events a))

taken_grows : (t : Network) (step : ℕ) (h : History) (d : HostId) (p : Contents) (answer : Arrival) (checked : Bool)
    → Grows t 1 h (arrives t step h d p answer checked).history
unfolding arrives store_in
taken_grows t step h d p answer checked =
    let e = event.Arrive step d p.src p.ts (hop_count p) checked in
    let pushed = length_push h.events e in
    record {
      stored = λ i. record {
        beacons = beacons_in t (none_more as_issue h.events e (arrival_no_issue step d p.src p.ts (hop_count p) checked) i);
        generations = λ b. rolls_more h.events e b (arrival_no_roll b step d p.src p.ts (hop_count p) checked) i;
      };
      events = omega (arith, pushed);
      emissions = λ few. few;
      bytes = λ few. few;
    }

pub arrived_grows : (t : Network) (step now : ℕ) (h : History) (d : HostId) (bytes : List ℕ) → Grows t 1 h (arrived_at t step now h d bytes).history
arrived_grows t step now h d bytes =
    after_arrival t step now h d bytes (Grows t 1 h) (grows_none t 1 h) (λ answer checked _ _. taken_grows t step h d (parse bytes) answer checked)
