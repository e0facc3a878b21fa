-- No step takes an emission from the ledger, or goes back in time.
use Rattle.std.proofs.Common.{ℕ, zero, suc, ◌+◌, ◌≤◌, Bool, true, false, not, List, [], ◌∷◌, length, take, Option, None, Some, Ok, Err, arith, length-append}
use Rattle.std.specs.Prelude.{◌==◌, nat_lt, if◌then◌else◌, Result}
use Rattle.std.specs.Option.{option_map_or}
use Rattle.std.proofs.lemmas.Bool.{cond_both}
use Rattle.arrayvec.specs.ArrayVec.{ArrayVec}
use Rattle.epic_num.specs.declared.answer.Answer.TheVariants.{Fetched, Known, Paths, Revealed, Rolled, Sent as SentAnswer}
use Rattle.epic_num.specs.declared.answer.Refusal.TheVariants.{UnknownAs, TooManyPaths, Full as FullRefusal, UnknownEmission}
use Rattle.epic_num.specs.declared.arrival.Arrival.{Arrival}
use Rattle.epic_num.specs.declared.arrival.Arrival.TheVariants as arrival
use Rattle.epic_num.specs.declared.beacon_error.BeaconError.{BeaconError}
use Rattle.epic_num.specs.declared.command.Command.{Command}
use Rattle.epic_num.specs.declared.command.Command.TheVariants as command
use Rattle.epic_num.specs.declared.hop.Level.{Level}
use Rattle.epic_num.specs.declared.key_name.Holder.{Holder}
use Rattle.epic_num.specs.declared.name.AsId.{AsId}
use Rattle.epic_num.specs.declared.name.HostId.{HostId}
use Rattle.epic_num.specs.declared.passed.PassResult.TheVariants.{Full}
use Rattle.epic_num.specs.declared.passed.Place.{Place}
use Rattle.epic_num.specs.declared.passed.Place.TheVariants.{Router, Host}
use Rattle.epic_num.specs.declared.path_error.PathError.{PathError}
use Rattle.epic_num.specs.declared.path_ref.PathRef.{PathRef}
use Rattle.epic_num.specs.declared.segment.Leg.{Leg}
use Rattle.epic_num.specs.declared.segment.Segment.{Segment}
use Rattle.epic_num.specs.declared.send_error.SendError.{SendError}
use Rattle.epic_num.specs.declared.turn.Turn.{Turn}
use Rattle.epic_num.specs.declared.turn.Turn.TheVariants.{Forward, Deliver, Refused}
use Rattle.epic_layout.specs.Contents.{Contents}
use Rattle.epic_layout.specs.Layout.{parse}
use Rattle.epic_layout.specs.Spelling.{spelling}
use Rattle.epic_topo.specs.Network.{Network, has}
use Rattle.epic_keys.specs.Fetches.{is_known}
use Rattle.epic_beacon.specs.declared.beacon.Beacon.{Beacon}
use Rattle.epic_beacon.specs.Issuing.{originated, extended}
use Rattle.epic_beacon.specs.Segments.{segments}
use Rattle.epic_beacon.specs.Told.{beacons_in}
use Rattle.epic_path.specs.Joins.{joined}
use Rattle.epic_path.specs.Routes.{all_lawful}
use Rattle.epic_ends.specs.Sending.{sent_packet}
use Rattle.epic_router.specs.Leaving.{packet_after}
use Rattle.epic_ledger.specs.History.{Emission, History, emission_at, emitted}
use Rattle.epic_ledger.specs.Facts.{issues_in, reveals_in}
use Rattle.epic_ledger.specs.declared.event.Event.TheVariants as event
use Rattle.epic_audit.specs.Reveals.{is_revealed}
use Rattle.epic_model.specs.Keeping.{store_in, sent_at}
use Rattle.epic_model.specs.Passing.{most_emitted, rolls, left, nothing, due_behind, turned_by, answer_at, turned_at, arrives, arrived_by, arrival_at, arrived_at, pass_at, passed_on, carried, last_history}
use Rattle.epic_model.specs.State.{State, is_fetched_in}
use Rattle.epic_model.specs.Steps.{next, next_at, issued, next_originate, next_extend, next_fetch, most_paths, found, next_paths, segments_of, emitted_by, sent_by, admission, over_path, over_segments, next_send, passing, next_turn, next_arrive, next_pass, carrying, next_carry, as_of, next_reveal, next_roll}
use Rattle.epic_model.specs.Traces.{Stepped, answered, refused, recorded}

-- the second ledger has no fewer emissions
abbrev IsMore : History → History → Type 0
IsMore old new = length old.emissions ≤ length new.emissions

more_same : (h : History) → IsMore h h
more_same h = omega arith

more_both : (f g h : History) → IsMore f g → IsMore g h → IsMore f h
more_both f g h first next = omega (arith, first, next)

-- so the ledger after a step, which isn't earlier
abbrev Grows : State → Stepped → Type 0
Grows s n = IsMore s.history n.state.history × (s.moment ≤ n.state.moment)

same : (s : State) → IsMore s.history s.history × (s.moment ≤ s.moment)
same s = (more_same s.history, omega arith)

-- ---- time, beacons, keys and paths

at_grows : (s : State) (moment : ℕ) → Grows s (next_at s moment)
unfolding next_at
at_grows s moment = (more_same s.history, omega arith)

issued_grows : (s : State) (told : Result Beacon BeaconError) → Grows s (issued s told)
issued_grows s (Ok b) = same s
issued_grows s (Err e) = same s

originate_grows : (t : Network) (s : State) (a : AsId) (out exp : ℕ)
    → Grows s (next_originate t s a out exp)
unfolding next_originate
originate_grows t s a out exp =
    cond_both (not (has t a)) (refused s (UnknownAs a))
    (issued s (originated t (store_in t s.history) a out exp s.moment)) (Grows s)
    (λ _. same s)
    (λ _. issued_grows s (originated t (store_in t s.history) a out exp s.moment))

extend_grows : (t : Network) (s : State) (parent out exp : ℕ)
    → Grows s (next_extend t s parent out exp)
unfolding next_extend
extend_grows t s parent out exp =
    issued_grows s (extended t (store_in t s.history) parent out exp s.moment)

fetch_grows : (t : Network) (s : State) (source owner : AsId) (epoch : ℕ)
    → Grows s (next_fetch t s source owner epoch)
unfolding next_fetch
fetch_grows t s source owner epoch =
    by (has t source) (has t owner)
    (is_known (is_fetched_in s.history.events)
    (record { source = source; owner = owner; epoch = epoch }))
  where
    by : (a b c : Bool)
        → Grows s (if not a then refused s (UnknownAs source)
        else if not b then refused s (UnknownAs owner)
        else if c then answered s Known
        else recorded s (event.Fetch (s.steps + 1) source owner epoch) Fetched)
    by false b c = same s
    by true false c = same s
    by true true true = same s
    by true true false = same s

paths_grows : (t : Network) (s : State) (from to : AsId) → Grows s (next_paths t s from to)
unfolding next_paths
paths_grows t s from to = by (has t from) (has t to)
    (all_lawful (segments (beacons_in t (issues_in s.history.events))) from to)
  where
    by : (a b : Bool) (paths : List PathRef)
        → Grows s
        (if not a then refused s (UnknownAs from) else if not b then refused s
        (UnknownAs to) else found s paths)
    by false b paths = same s
    by true false paths = same s
    by true true paths =
        cond_both (nat_lt most_paths (length paths)) (refused s TooManyPaths)
        (answered s (Paths paths)) (Grows s)
        (λ _. same s) (λ _. same s)

-- ---- sends

sent_more : (s : State) (numbers : ArrayVec ℕ) (p : Contents)
    → IsMore s.history (sent_at (s.steps + 1) s.history numbers p)
unfolding sent_at
sent_more s numbers p =
    let x : Emission = record { place = Router p.src.asn 0; bytes = spelling p } in
    let longer = length-append s.history.emissions (x ∷ []) in omega (arith, longer)

emitted_grows : (s : State) (numbers : ArrayVec ℕ) (p : Contents)
    → Grows s (emitted_by s numbers p)
unfolding emitted_by
emitted_grows s numbers p = by (nat_lt most_emitted (emitted s.history.emissions + length (spelling p)))
  where
    by : (b : Bool)
        → Grows s (if b then refused s FullRefusal
        else record {
          answer = SentAnswer (length s.history.emissions + 1) p.ts;
          state = record s { steps = s.steps + 1; history = sent_at (s.steps + 1) s.history numbers p };
          passages = [];
        })
    by true = same s
    by false = (sent_more s numbers p, omega arith)

module _ (t : Network) (s : State) (version : ℕ) (level : Level) (src dst : HostId)
    (numbers : ArrayVec ℕ) (payload : List ℕ) where
  sent_grows : (legs : List Leg) (told : Result ℕ SendError)
      → Grows s (sent_by t s version level src dst numbers payload legs told)
  sent_grows legs (Ok ts) = emitted_grows s numbers
      (sent_packet t legs version level src dst ts payload)
  sent_grows legs (Err e) = same s

  path_grows : (told : Result (List Leg) PathError)
      → Grows s (over_path t s version level src dst numbers payload told)
  path_grows (Ok legs) = sent_grows legs (admission t s version level src dst payload legs)
  path_grows (Err e) = same s

  segments_grow : (told : Result (List Segment) ℕ)
      → Grows s (over_segments t s version level src dst numbers payload told)
  segments_grow (Ok all) = path_grows (joined src.asn all)
  segments_grow (Err n) = same s

  send_grows : Grows s (next_send t s version level src dst numbers payload)
  unfolding next_send
  send_grows = by (has t src.asn) (has t dst.asn)
    where
      by : (a b : Bool)
          → Grows s (if not a then refused s (UnknownAs src.asn)
          else if not b then refused s (UnknownAs dst.asn)
          else over_segments t s version level src dst numbers payload
          (segments_of (beacons_in t (issues_in s.history.events)) numbers.items))
      by false b = same s
      by true false = same s
      by true true = segments_grow
          (segments_of (beacons_in t (issues_in s.history.events)) numbers.items)

-- ---- packets at places

left_more : (t : Network) (step : ℕ) (h : History) (a : AsId) (bytes : List ℕ) (turn : Turn)
    (due : Place) (generations : List ℕ)
    → IsMore h (left t step h a bytes turn due generations).history
unfolding left
left_more t step h a bytes turn due generations =
    let x : Emission
    = record { place = due; bytes = spelling (packet_after t a turn (parse bytes)) } in
    let longer = length-append h.emissions (x ∷ []) in omega (arith, longer)

turn_more : (t : Network) (step : ℕ) (h : History) (a : AsId) (bytes : List ℕ) (turn : Turn)
    → IsMore h (turned_by t step h a bytes turn).history
unfolding turned_by
turn_more t step h a bytes (Forward out hops generations) =
    left_more t step h a bytes (Forward out hops generations) (due_behind t a out)
    (take hops generations)
turn_more t step h a bytes (Deliver host hops generations) =
    left_more t step h a bytes (Deliver host hops generations)
    (Host (record { asn = a; host = host })) (take hops generations)
turn_more t step h a bytes (Refused check hop) = more_same h

arrival_more : (t : Network) (step : ℕ) (h : History) (d : HostId) (bytes : List ℕ)
    (answer : Arrival)
    → IsMore h (arrived_by t step h d bytes answer).history
unfolding arrived_by arrives
arrival_more t step h d bytes arrival.Accepted = more_same h
arrival_more t step h d bytes arrival.Unchecked = more_same h
arrival_more t step h d bytes (arrival.Refused check) = more_same h

pass_more : (t : Network) (step now : ℕ) (h : History) (place : Place) (bytes : List ℕ)
    → IsMore h (pass_at t step now h place bytes).history
unfolding pass_at turned_at arrived_at
pass_more t step now h (Router a iface) bytes =
    cond_both (nat_lt most_emitted (emitted h.emissions + length bytes)) (nothing h Full)
    (turned_by t step h a bytes (answer_at t now h a iface bytes)) (λ d. IsMore h d.history)
    (λ _. more_same h)
    (λ _. turn_more t step h a bytes (answer_at t now h a iface bytes))
pass_more t step now h (Host d) bytes =
    arrival_more t step h d bytes (arrival_at t now h d bytes)

passing_grows : (t : Network) (s : State) (place : Place) (bytes : List ℕ)
    → Grows s (passing t s place bytes)
unfolding passing
passing_grows t s place bytes = (pass_more t (s.steps + 1) s.moment s.history place bytes, omega arith)

turn_grows : (t : Network) (s : State) (a : AsId) (iface : ℕ) (bytes : List ℕ)
    → Grows s (next_turn t s a iface bytes)
unfolding next_turn
turn_grows t s a iface bytes =
    cond_both (not (has t a)) (refused s (UnknownAs a)) (passing t s (Router a iface) bytes)
    (Grows s) (λ _. same s) (λ _. passing_grows t s (Router a iface) bytes)

arrive_grows : (t : Network) (s : State) (d : HostId) (bytes : List ℕ)
    → Grows s (next_arrive t s d bytes)
unfolding next_arrive
arrive_grows t s d bytes =
    cond_both (not (has t d.asn)) (refused s (UnknownAs d.asn)) (passing t s (Host d) bytes)
    (Grows s) (λ _. same s) (λ _. passing_grows t s (Host d) bytes)

pass_grows : (t : Network) (s : State) (number : ℕ) → Grows s (next_pass t s number)
unfolding next_pass
pass_grows t s number = by (emission_at s.history.emissions number)
  where
    by : (o : Option Emission)
        → Grows s
        (option_map_or (λ e. passing t s e.place e.bytes) o (refused s (UnknownEmission number)))
    by None = same s
    by (Some x) = passing_grows t s x.place x.bytes

passed_more : (t : Network) (step now : ℕ) (h : History) (number : ℕ)
    → IsMore h (passed_on t step now h number).history
unfolding passed_on
passed_more t step now h number = by (emission_at h.emissions number)
  where
    by : (o : Option Emission)
        → IsMore h
        (option_map_or (λ e. pass_at t step now h e.place e.bytes) o (nothing h Full)).history
    by None = more_same h
    by (Some x) = pass_more t step now h x.place x.bytes

carried_more : (t : Network) (step now most : ℕ) (h : History) (number : ℕ)
    → IsMore h (last_history h (carried t step now most h number))
unfolding carried
carried_more t step now zero h number = more_same h
carried_more t step now (suc most) h number =
    let d = passed_on t step now h number in
    more_both h d.history (last_history h (carried t step now (suc most) h number)) (passed_more t step now h number)
    (cond_both (d.emission == 0) [] (carried t step now most d.history d.emission)
    (λ ds. IsMore d.history (last_history d.history ds))
    (λ _. more_same d.history)
    (λ _. carried_more t step now most d.history d.emission))

carry_grows : (t : Network) (s : State) (number : ℕ) → Grows s (next_carry t s number)
unfolding next_carry carrying
carry_grows t s number = by (emission_at s.history.emissions number)
  where
    by : (o : Option Emission)
        → Grows s (option_map_or (λ e. carrying t s number) o (refused s (UnknownEmission number)))
    by None = same s
    by (Some x) = (carried_more t (s.steps + 1) s.moment 33 s.history number, omega arith)

-- ---- reveals and rolls

reveal_grows : (t : Network) (s : State) (holder : Holder) → Grows s (next_reveal t s holder)
unfolding next_reveal
reveal_grows t s holder = by (has t (as_of holder)) (is_revealed (reveals_in s.history.events) holder)
  where
    by : (a b : Bool)
        → Grows s (if not a then refused s (UnknownAs (as_of holder))
        else if b then answered s Known
        else recorded s (event.Reveal (s.steps + 1) holder) Revealed)
    by false b = same s
    by true true = same s
    by true false = same s

roll_grows : (t : Network) (s : State) (a : AsId) → Grows s (next_roll t s a)
unfolding next_roll
roll_grows t s a =
    let generation = rolls s.history.events a + 1 in
    cond_both (not (has t a)) (refused s (UnknownAs a))
    (recorded s (event.Roll (s.steps + 1) a generation) (Rolled generation)) (Grows s)
    (λ _. same s) (λ _. same s)

-- ---- all

steps_grow : (t : Network) (s : State) (c : Command) → Grows s (next t s c)
unfolding next
steps_grow t s (command.At moment) = at_grows s moment
steps_grow t s (command.Originate a out exp) = originate_grows t s a out exp
steps_grow t s (command.Extend parent out exp) = extend_grows t s parent out exp
steps_grow t s (command.Fetch source owner epoch) = fetch_grows t s source owner epoch
steps_grow t s (command.Paths from to) = paths_grows t s from to
steps_grow t s (command.Send version level src dst segments payload) =
    send_grows t s version level src dst segments payload
steps_grow t s (command.Turn a iface bytes) = turn_grows t s a iface bytes
steps_grow t s (command.Arrive host bytes) = arrive_grows t s host bytes
steps_grow t s (command.Pass emission) = pass_grows t s emission
steps_grow t s (command.Carry emission) = carry_grows t s emission
steps_grow t s (command.Reveal holder) = reveal_grows t s holder
steps_grow t s (command.Roll a) = roll_grows t s a

pub emissions_grow : (t : Network) (s : State) (c : Command)
    → length s.history.emissions ≤ length (next t s c).state.history.emissions
emissions_grow t s c = (steps_grow t s c).0

pub moments_rise : (t : Network) (s : State) (c : Command) → s.moment ≤ (next t s c).state.moment
moments_rise t s c = (steps_grow t s c).1
