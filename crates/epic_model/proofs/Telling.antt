-- The verdicts of every step are right, and its answer tells them all. An honest packet is carried by a step.
use Rattle.std.proofs.Common.{◌≡◌, ℕ, zero, suc, ◌+◌, ◌⊎◌, inl, inr, Bool, true, false, not, List, [], ◌∷◌, ◌++◌, length, map, Option, None, Some, Ok, Err, refl, ap, sym, subst, ⊎_elim}
use Rattle.std.specs.Prelude.{◌==◌, nat_lt, if◌then◌else◌, Result, slice_get, IsSome}
use Rattle.std.specs.Option.{option_map_or}
use Rattle.std.proofs.lemmas.Bool.{cond_both}
use Rattle.std.proofs.lemmas.List.Elements.{All-cons, All-nil}
use Rattle.arrayvec.specs.ArrayVec.{ArrayVec}
use Rattle.epic_num.specs.declared.answer.Answer.TheVariants.{Fetched, Known, Paths, Revealed, Rolled, Sent as SentAnswer}
use Rattle.epic_num.specs.declared.answer.Refusal.TheVariants.{UnknownAs, TooManyPaths, Full as FullRefusal, UnknownEmission}
use Rattle.epic_num.specs.declared.arrival.Arrival.{Arrival}
use Rattle.epic_num.specs.declared.arrival.Arrival.TheVariants as arrival
use Rattle.epic_num.specs.declared.beacon_error.BeaconError.{BeaconError}
use Rattle.epic_num.specs.declared.command.Command.TheVariants as command
use Rattle.epic_num.specs.declared.hop.Level.{Level}
use Rattle.epic_num.specs.declared.key_name.Holder.{Holder}
use Rattle.epic_num.specs.declared.name.AsId.{AsId}
use Rattle.epic_num.specs.declared.name.HostId.{HostId}
use Rattle.epic_num.specs.declared.passed.PassResult.TheVariants.{Full}
use Rattle.epic_num.specs.declared.passed.Place.{Place}
use Rattle.epic_num.specs.declared.passed.Place.TheVariants.{Router, Host}
use Rattle.epic_num.specs.declared.path_error.PathError.{PathError}
use Rattle.epic_num.specs.declared.path_ref.PathRef.{PathRef}
use Rattle.epic_num.specs.declared.segment.Leg.{Leg}
use Rattle.epic_num.specs.declared.segment.Segment.{Segment}
use Rattle.epic_num.specs.declared.send_error.SendError.{SendError}
use Rattle.epic_num.specs.declared.turn.Turn.{Turn}
use Rattle.epic_num.specs.declared.turn.Turn.TheVariants.{Forward, Deliver, Refused}
use Rattle.epic_layout.specs.Contents.{Contents, IsBytes}
use Rattle.epic_layout.specs.Layout.{parse}
use Rattle.epic_layout.specs.Reading.{IsRead}
use Rattle.epic_layout.specs.Spelling.{spelling}
use Rattle.epic_layout.proofs.OneSpelling.{bytes_are_read}
use Rattle.epic_topo.specs.Lawful.{IsTopology}
use Rattle.epic_topo.specs.Network.{Network, has}
use Rattle.epic_keys.specs.Fetches.{is_known}
use Rattle.epic_beacon.specs.declared.beacon.Beacon.{Beacon}
use Rattle.epic_beacon.specs.Issuing.{originated, extended}
use Rattle.epic_beacon.specs.Segments.{segments}
use Rattle.epic_beacon.specs.Told.{beacons_in}
use Rattle.epic_path.specs.Joins.{joined}
use Rattle.epic_path.specs.Routes.{all_lawful}
use Rattle.epic_router.specs.Leaving.{packet_after}
use Rattle.epic_ends.specs.Sending.{sent_packet}
use Rattle.epic_ledger.specs.History.{History, Emission, emission_at, emitted}
use Rattle.epic_ledger.specs.Facts.{Sent, issues_in, sends_in, reveals_in}
use Rattle.epic_ledger.specs.declared.event.Event.TheVariants as event
use Rattle.epic_audit.specs.Reveals.{is_revealed}
use Rattle.epic_model.specs.Carried.{IsCarried, IsProvedAllAlong}
use Rattle.epic_model.specs.Judged.{IsJudged, VerdictsHold}
use Rattle.epic_model.specs.Keeping.{store_in, sent_at}
use Rattle.epic_model.specs.Passing.{Happened, most_emitted, rolls, left, nothing, due_behind, turned_by, answer_at, turned_at, arrives, arrived_by, arrival_at, arrived_at, pass_at, passed_on, carried}
use Rattle.epic_model.specs.State.{State, is_fetched_in}
use Rattle.epic_model.specs.Steps.{next, next_at, issued, next_originate, next_extend, next_fetch, most_paths, found, next_paths, segments_of, emitted_by, sent_by, admission, over_path, over_segments, next_send, passing, next_turn, next_arrive, next_pass, passages_of, carrying, next_carry, as_of, next_reveal, next_roll}
use Rattle.epic_model.specs.Traces.{Passage, Stepped, answered, refused, recorded}
use Rattle.epic_model.specs.World.{IsWorld, VerdictsAreRight, HonestCarriesArrive, HonestCarriesAreProved}
use Rattle.epic_model.proofs.FromInv.{honest_sends_arrive, honest_sends_are_proved}
use Rattle.epic_model.proofs.Grown.{emission_next}
use Rattle.epic_model.proofs.InvKept.{there_fits}
use Rattle.epic_model.proofs.Judging.{passed_judged}
use Rattle.epic_model.proofs.Stepping.{all_carried, later}

-- a step whose verdicts are right
abbrev pub IsRight : Network → Stepped → Type 0
IsRight t n = VerdictsHold t n.answer n.passages

-- ---- steps without passages

at_right : (t : Network) (s : State) (moment : ℕ) → IsRight t (next_at s moment)
unfolding next_at
at_right t s moment = record { each = All-nil (IsJudged t); tells = refl }

issued_right : (t : Network) (s : State) (told : Result Beacon BeaconError) → IsRight t (issued s told)
issued_right t s (Ok b) = record { each = All-nil (IsJudged t); tells = refl }
issued_right t s (Err e) = record { each = All-nil (IsJudged t); tells = refl }

originate_right : (t : Network) (s : State) (a : AsId) (out exp : ℕ) → IsRight t (next_originate t s a out exp)
unfolding next_originate
originate_right t s a out exp =
    cond_both (not (has t a)) (refused s (UnknownAs a)) (issued s (originated t (store_in t s.history) a out exp s.moment)) (IsRight t)
    (λ _. record { each = All-nil (IsJudged t); tells = refl })
    (λ _. issued_right t s (originated t (store_in t s.history) a out exp s.moment))

extend_right : (t : Network) (s : State) (parent out exp : ℕ) → IsRight t (next_extend t s parent out exp)
unfolding next_extend
extend_right t s parent out exp = issued_right t s (extended t (store_in t s.history) parent out exp s.moment)

fetch_right : (t : Network) (s : State) (source owner : AsId) (epoch : ℕ) → IsRight t (next_fetch t s source owner epoch)
unfolding next_fetch
fetch_right t s source owner epoch =
    by (has t source) (has t owner) (is_known (is_fetched_in s.history.events) (record { source = source; owner = owner; epoch = epoch }))
  where
    by : (a b c : Bool)
        → IsRight t (if not a then refused s (UnknownAs source)
        else if not b then refused s (UnknownAs owner)
        else if c then answered s Known
        else recorded s (event.Fetch (s.steps + 1) source owner epoch) Fetched)
    by false b c = record { each = All-nil (IsJudged t); tells = refl }
    by true false c = record { each = All-nil (IsJudged t); tells = refl }
    by true true true = record { each = All-nil (IsJudged t); tells = refl }
    by true true false = record { each = All-nil (IsJudged t); tells = refl }

paths_right : (t : Network) (s : State) (from to : AsId) → IsRight t (next_paths t s from to)
unfolding next_paths
paths_right t s from to = by (has t from) (has t to) (all_lawful (segments (beacons_in t (issues_in s.history.events))) from to)
  where
    by : (a b : Bool) (paths : List PathRef)
        → IsRight t (if not a then refused s (UnknownAs from) else if not b then refused s (UnknownAs to) else found s paths)
    by false b paths = record { each = All-nil (IsJudged t); tells = refl }
    by true false paths = record { each = All-nil (IsJudged t); tells = refl }
    by true true paths =
        cond_both (nat_lt most_paths (length paths)) (refused s TooManyPaths) (answered s (Paths paths)) (IsRight t)
        (λ _. record { each = All-nil (IsJudged t); tells = refl }) (λ _. record { each = All-nil (IsJudged t); tells = refl })

reveal_right : (t : Network) (s : State) (holder : Holder) → IsRight t (next_reveal t s holder)
unfolding next_reveal
reveal_right t s holder = by (has t (as_of holder)) (is_revealed (reveals_in s.history.events) holder)
  where
    by : (a b : Bool)
        → IsRight t (if not a then refused s (UnknownAs (as_of holder))
        else if b then answered s Known
        else recorded s (event.Reveal (s.steps + 1) holder) Revealed)
    by false b = record { each = All-nil (IsJudged t); tells = refl }
    by true true = record { each = All-nil (IsJudged t); tells = refl }
    by true false = record { each = All-nil (IsJudged t); tells = refl }

roll_right : (t : Network) (s : State) (a : AsId) → IsRight t (next_roll t s a)
unfolding next_roll
roll_right t s a =
    let generation = rolls s.history.events a + 1 in
    cond_both (not (has t a)) (refused s (UnknownAs a)) (recorded s (event.Roll (s.steps + 1) a generation) (Rolled generation)) (IsRight t)
    (λ _. record { each = All-nil (IsJudged t); tells = refl }) (λ _. record { each = All-nil (IsJudged t); tells = refl })

-- ---- sends

emitted_right : (t : Network) (s : State) (numbers : ArrayVec ℕ) (p : Contents) → IsRight t (emitted_by s numbers p)
unfolding emitted_by
emitted_right t s numbers p =
    cond_both (nat_lt most_emitted (emitted s.history.emissions + length (spelling p))) (refused s FullRefusal)
    (record { answer = SentAnswer (length s.history.emissions + 1) p.ts; state = record s { steps = s.steps + 1; history = sent_at (s.steps + 1) s.history numbers p }; passages = [] })
    (IsRight t)
    (λ _. record { each = All-nil (IsJudged t); tells = refl }) (λ _. record { each = All-nil (IsJudged t); tells = refl })

module _ (t : Network) (s : State) (version : ℕ) (level : Level) (src dst : HostId) (numbers : ArrayVec ℕ) (payload : List ℕ) where
  sent_right : (legs : List Leg) (told : Result ℕ SendError) → IsRight t (sent_by t s version level src dst numbers payload legs told)
  sent_right legs (Ok ts) = emitted_right t s numbers (sent_packet t legs version level src dst ts payload)
  sent_right legs (Err e) = record { each = All-nil (IsJudged t); tells = refl }

  over_path_right : (told : Result (List Leg) PathError) → IsRight t (over_path t s version level src dst numbers payload told)
  over_path_right (Ok legs) = sent_right legs (admission t s version level src dst payload legs)
  over_path_right (Err e) = record { each = All-nil (IsJudged t); tells = refl }

  over_segments_right : (told : Result (List Segment) ℕ) → IsRight t (over_segments t s version level src dst numbers payload told)
  over_segments_right (Ok segments) = over_path_right (joined src.asn segments)
  over_segments_right (Err n) = record { each = All-nil (IsJudged t); tells = refl }

  send_right : IsRight t (next_send t s version level src dst numbers payload)
  unfolding next_send
  send_right = by (has t src.asn) (has t dst.asn)
    where
      by : (a b : Bool)
          → IsRight t (if not a then refused s (UnknownAs src.asn)
          else if not b then refused s (UnknownAs dst.asn)
          else over_segments t s version level src dst numbers payload (segments_of (beacons_in t (issues_in s.history.events)) numbers.items))
      by false b = record { each = All-nil (IsJudged t); tells = refl }
      by true false = record { each = All-nil (IsJudged t); tells = refl }
      by true true = over_segments_right (segments_of (beacons_in t (issues_in s.history.events)) numbers.items)

-- ---- passages

passing_right : (t : Network) (s : State) (place : Place) (bytes : List ℕ) → IsRead bytes → IsWorld t s → IsRight t (passing t s place bytes)
unfolding passing
passing_right t s place bytes read w =
    let d = pass_at t (s.steps + 1) s.moment s.history place bytes in
    let x : Passage = record { before = s.history; place = place; came = bytes; happened = d } in
    record {
      each = All-cons (IsJudged t) x [] (passed_judged t (s.steps + 1) s.moment s.history place bytes read (later t s w).sound) (All-nil (IsJudged t));
      tells = (x, (refl, refl));
    }

turn_right : (t : Network) (s : State) (a : AsId) (iface : ℕ) (bytes : List ℕ) → IsBytes bytes → IsWorld t s → IsRight t (next_turn t s a iface bytes)
unfolding next_turn
turn_right t s a iface bytes are w =
    cond_both (not (has t a)) (refused s (UnknownAs a)) (passing t s (Router a iface) bytes) (IsRight t)
    (λ _. record { each = All-nil (IsJudged t); tells = refl })
    (λ _. passing_right t s (Router a iface) bytes (bytes_are_read bytes are) w)

arrive_right : (t : Network) (s : State) (d : HostId) (bytes : List ℕ) → IsBytes bytes → IsWorld t s → IsRight t (next_arrive t s d bytes)
unfolding next_arrive
arrive_right t s d bytes are w =
    cond_both (not (has t d.asn)) (refused s (UnknownAs d.asn)) (passing t s (Host d) bytes) (IsRight t)
    (λ _. record { each = All-nil (IsJudged t); tells = refl })
    (λ _. passing_right t s (Host d) bytes (bytes_are_read bytes are) w)

pass_right : (t : Network) (s : State) (number : ℕ) → IsWorld t s → IsRight t (next_pass t s number)
unfolding next_pass
pass_right t s number w = by (emission_at s.history.emissions number) refl
  where
    by : (o : Option Emission) → emission_at s.history.emissions number ≡ o
        → IsRight t (option_map_or (λ e. passing t s e.place e.bytes) o (refused s (UnknownEmission number)))
    by None e = record { each = All-nil (IsJudged t); tells = refl }
    by (Some x) e = passing_right t s x.place x.bytes (there_fits t s.history number x w.inv.sound.lawful.packets w.inv.places e).1 w

carry_right : (t : Network) (s : State) (number : ℕ) → IsTopology t → IsWorld t s → IsRight t (next_carry t s number)
unfolding next_carry carrying
carry_right t s number topology w = by (emission_at s.history.emissions number)
  where
    by : (o : Option Emission) → IsRight t (option_map_or (λ e. carrying t s number) o (refused s (UnknownEmission number)))
    by None = record { each = All-nil (IsJudged t); tells = refl }
    by (Some x) = record { each = (all_carried t (s.steps + 1) s.moment 33 s.history number topology (later t s w)).judged; tells = refl }

-- ---- all

pub verdicts_are_right : VerdictsAreRight
unfolding next
verdicts_are_right t s (command.At moment) topology fits w = at_right t s moment
verdicts_are_right t s (command.Originate a out exp) topology fits w = originate_right t s a out exp
verdicts_are_right t s (command.Extend parent out exp) topology fits w = extend_right t s parent out exp
verdicts_are_right t s (command.Fetch source owner epoch) topology fits w = fetch_right t s source owner epoch
verdicts_are_right t s (command.Paths from to) topology fits w = paths_right t s from to
verdicts_are_right t s (command.Send version level src dst segments payload) topology fits w = send_right t s version level src dst segments payload
verdicts_are_right t s (command.Turn a iface bytes) topology fits w = turn_right t s a iface bytes fits w
verdicts_are_right t s (command.Arrive host bytes) topology fits w = arrive_right t s host bytes fits w
verdicts_are_right t s (command.Pass emission) topology fits w = pass_right t s emission w
verdicts_are_right t s (command.Carry emission) topology fits w = carry_right t s emission topology w
verdicts_are_right t s (command.Reveal holder) topology fits w = reveal_right t s holder
verdicts_are_right t s (command.Roll a) topology fits w = roll_right t s a

-- ---- carries as a step's passages

-- the emission that a passage made is there
abbrev MadeThere : Happened → Type 0
MadeThere d = d.emission ≡ 0 ⊎ IsSome (emission_at d.history.emissions d.emission)

left_there : (t : Network) (step : ℕ) (h : History) (a : AsId) (bytes : List ℕ) (turn : Turn) (due : Place) (generations : List ℕ)
    → MadeThere (left t step h a bytes turn due generations)
unfolding left
left_there t step h a bytes turn due generations =
    inr (subst (λ (o : Option Emission). IsSome o) (sym (emission_next h.emissions (record { place = due; bytes = spelling (packet_after t a turn (parse bytes)) }))) refl)

turned_there : (t : Network) (step : ℕ) (h : History) (a : AsId) (bytes : List ℕ) (turn : Turn) → MadeThere (turned_by t step h a bytes turn)
unfolding turned_by
turned_there t step h a bytes (Forward out hops generations) = left_there t step h a bytes (Forward out hops generations) (due_behind t a out) _
turned_there t step h a bytes (Deliver host hops generations) = left_there t step h a bytes (Deliver host hops generations) (Host (record { asn = a; host = host })) _
turned_there t step h a bytes (Refused check hop) = inl refl

arrived_there : (t : Network) (step : ℕ) (h : History) (d : HostId) (bytes : List ℕ) (answer : Arrival) → MadeThere (arrived_by t step h d bytes answer)
unfolding arrived_by arrives
arrived_there t step h d bytes arrival.Accepted = inl refl
arrived_there t step h d bytes arrival.Unchecked = inl refl
arrived_there t step h d bytes (arrival.Refused check) = inl refl

made_there : (t : Network) (step now : ℕ) (h : History) (place : Place) (bytes : List ℕ) → MadeThere (pass_at t step now h place bytes)
unfolding pass_at turned_at arrived_at
made_there t step now h (Router a iface) bytes =
    cond_both (nat_lt most_emitted (emitted h.emissions + length bytes)) (nothing h Full) (turned_by t step h a bytes (answer_at t now h a iface bytes)) MadeThere
    (λ _. inl refl) (λ _. turned_there t step h a bytes (answer_at t now h a iface bytes))
made_there t step now h (Host d) bytes = arrived_there t step h d bytes (arrival_at t now h d bytes)

happened_of : List Passage → List Happened
happened_of passages = map (λ y. y.happened) passages

-- the passages of a carry are what it comes to
all_told : (t : Network) (step now most : ℕ) (h : History) (number : ℕ) → IsSome (emission_at h.emissions number)
    → happened_of (passages_of h number (carried t step now most h number)) ≡ carried t step now most h number
unfolding carried passages_of passed_on happened_of
all_told t step now zero h number there = refl
all_told t step now (suc most) h number there =
    by (emission_at h.emissions number) there (λ g next some. all_told t step now most g next some)
  where
    by : (o : Option Emission) → IsSome o
        → ((g : History) (next : ℕ) → IsSome (emission_at g.emissions next) → happened_of (passages_of g next (carried t step now most g next)) ≡ carried t step now most g next)
        → (let d = option_map_or (λ e. pass_at t step now h e.place e.bytes) o (nothing h Full) in
        let rest = if d.emission == 0 then [] else carried t step now most d.history d.emission in
        happened_of (option_map_or (λ e. record { before = h; place = e.place; came = e.bytes; happened = d } ∷ []) o [] ++ passages_of d.history d.emission rest) ≡ d ∷ rest)
    by None some again = absurd (cc)
    by (Some x) some again =
        let d = pass_at t step now h x.place x.bytes in
        ap (λ ds. d ∷ ds)
        (cond_both (d.emission == 0) [] (carried t step now most d.history d.emission) (λ ds. happened_of (passages_of d.history d.emission ds) ≡ ds)
        (λ _. refl)
        (λ made. ⊎_elim
        (λ none. absurd (let zero_is = ap (λ n. n == 0) none in cc))
        (λ is_there. again d.history d.emission is_there)
        (made_there t step now h x.place x.bytes)))

-- an emission of a packet that was sent is carried by the step
carry_is : (t : Network) (s : State) (number : ℕ) → IsSome (emission_at s.history.emissions number)
    → map (λ y. y.happened) (next t s (command.Carry number)).passages ≡ carried t (s.steps + 1) s.moment 33 s.history number
unfolding next next_carry carrying happened_of
carry_is t s number there = by (emission_at s.history.emissions number) there
  where
    by : (o : Option Emission) → IsSome o
        → map (λ y. y.happened) (option_map_or (λ e. carrying t s number) o (refused s (UnknownEmission number))).passages ≡ carried t (s.steps + 1) s.moment 33 s.history number
    by None some = absurd (cc)
    by (Some x) some = all_told t (s.steps + 1) s.moment 33 s.history number there

sent_there : (t : Network) (s : State) (n : ℕ) (x : Sent) → IsWorld t s → slice_get (sends_in s.history) n ≡ Some x → IsSome (emission_at s.history.emissions x.emission)
sent_there t s n x w at = subst (λ (o : Option Emission). IsSome o) (sym (w.inv.sends n x at).due) refl

pub honest_carries_arrive : HonestCarriesArrive
honest_carries_arrive t s n x topology w at honest =
    subst (IsCarried x.packet) (sym (carry_is t s x.emission (sent_there t s n x w at)))
    (honest_sends_arrive t s.history s.moment s.steps n x topology w.inv at honest)

pub honest_carries_are_proved : HonestCarriesAreProved
honest_carries_are_proved t s n x topology w at honest none_passed =
    subst (IsProvedAllAlong x.packet) (sym (carry_is t s x.emission (sent_there t s n x w at)))
    (honest_sends_are_proved t s.history s.moment s.steps n x topology w.inv at honest none_passed)
