-- What the passages of a step add to the ledger, and that its answer tells them.
use Rattle.std.proofs.Common.{◌≡◌, ◌⊎◌, ℕ, zero, suc, ◌+◌, ◌-◌, Bool, true, false, not, List, [], ◌∷◌, ◌++◌, map, flat_map, length, take, drop, Option, None, Some, Ok, Err, inl, inr, refl, sym, ap, subst, ◌∙◌, arith, length-append, append_assoc, append-nil, take_all}
use Rattle.std.specs.Prelude.{◌==◌, nat_lt, if◌then◌else◌, Result}
use Rattle.std.proofs.lemmas.List.{length-drop}
use Rattle.std.proofs.lemmas.Bool.Decides.{nat_tests}
use Rattle.std.specs.Option.{option_map_or}
use Rattle.std.proofs.lemmas.Bool.{cond_both}
use Rattle.arrayvec.specs.ArrayVec.{ArrayVec}
use Rattle.epic_num.specs.declared.answer.Answer.TheVariants.{Fetched, Known, Paths, Revealed, Rolled, Sent as SentAnswer}
use Rattle.epic_num.specs.declared.answer.Refusal.TheVariants.{UnknownAs, TooManyPaths, Full as FullRefusal, UnknownEmission}
use Rattle.epic_num.specs.declared.arrival.Arrival.{Arrival}
use Rattle.epic_num.specs.declared.arrival.Arrival.TheVariants as arrival
use Rattle.epic_num.specs.declared.beacon_error.BeaconError.{BeaconError}
use Rattle.epic_num.specs.declared.command.Command.{Command}
use Rattle.epic_num.specs.declared.command.Command.TheVariants as command
use Rattle.epic_num.specs.declared.hop.Level.{Level}
use Rattle.epic_num.specs.declared.key_name.Holder.{Holder}
use Rattle.epic_num.specs.declared.name.AsId.{AsId}
use Rattle.epic_num.specs.declared.name.HostId.{HostId}
use Rattle.epic_num.specs.declared.passed.PassResult.TheVariants.{Full}
use Rattle.epic_num.specs.declared.passed.Place.{Place}
use Rattle.epic_num.specs.declared.passed.Place.TheVariants.{Router, Host}
use Rattle.epic_num.specs.declared.path_error.PathError.{PathError}
use Rattle.epic_num.specs.declared.path_ref.PathRef.{PathRef}
use Rattle.epic_num.specs.declared.segment.Leg.{Leg}
use Rattle.epic_num.specs.declared.segment.Segment.{Segment}
use Rattle.epic_num.specs.declared.send_error.SendError.{SendError}
use Rattle.epic_num.specs.declared.turn.Turn.{Turn}
use Rattle.epic_num.specs.declared.turn.Turn.TheVariants.{Forward, Deliver, Refused}
use Rattle.epic_layout.specs.Contents.{Contents}
use Rattle.epic_layout.specs.Layout.{parse}
use Rattle.epic_layout.specs.Spelling.{spelling}
use Rattle.epic_topo.specs.Network.{Network, has}
use Rattle.epic_keys.specs.Fetches.{is_known}
use Rattle.epic_beacon.specs.declared.beacon.Beacon.{Beacon}
use Rattle.epic_beacon.specs.Issuing.{originated, extended}
use Rattle.epic_beacon.specs.Segments.{segments}
use Rattle.epic_beacon.specs.Told.{beacons_in}
use Rattle.epic_path.specs.Joins.{joined}
use Rattle.epic_path.specs.Routes.{all_lawful}
use Rattle.epic_ends.specs.Sending.{sent_packet}
use Rattle.epic_router.specs.Leaving.{packet_after}
use Rattle.epic_ledger.specs.Facts.{issues_in, reveals_in}
use Rattle.epic_ledger.specs.declared.event.Event.TheVariants as event
use Rattle.epic_audit.specs.Reveals.{is_revealed}
use Rattle.epic_model.specs.Keeping.{store_in, sent_at}
use Rattle.epic_model.specs.Passing.{most_emitted, rolls, left, nothing, due_behind, turned_by, answer_at, turned_at, arrives, arrived_by, arrival_at, arrived_at, pass_at, passed_on, carried, last_history}
use Rattle.epic_model.specs.State.{State, is_fetched_in}
use Rattle.epic_model.specs.Steps.{next, next_at, issued, next_originate, next_extend, next_fetch, most_paths, found, next_paths, segments_of, emitted_by, sent_by, admission, over_path, over_segments, next_send, passages_of, passing, next_turn, next_arrive, next_pass, carrying, next_carry, as_of, next_reveal, next_roll}
use Rattle.epic_ledger.specs.History.{Emission, History, emission_at, emitted}
use Rattle.epic_ledger.specs.declared.event.Event.{Event}
use Rattle.epic_ledger.specs.Facts.{facts_of}
use Rattle.epic_ledger.proofs.Growing.{emission_at-append}
use Rattle.epic_model.specs.Passing.{Happened, hop_verdicts, passes_from}
use Rattle.epic_model.specs.Traces.{Passage, shown, Stepped, answered, refused, recorded}
use Rattle.epic_record.specs.declared.item.Item.TheVariants as items
use Rattle.epic_record.specs.Passing.{accepted_items, emitted_from, new_items, pass_items}
use Rattle.epic_text.specs.Report.{emission_bytes, bytes_in}
use Rattle.epic_rerun.specs.Ledgers.{passage_items, passage_verdicts, passages_items, step_items, step_verdicts}
use Rattle.epic_app.specs.Noting.{Coming, coming, passes_after, passes_told}
use Rattle.epic_app.specs.Telling.{AreWithin, after_pass, between, mark_of, passes_verdicts, told_from, told_since}
use Rattle.epic_app.proofs.ToldPasses.{Stays, bytes_stay}
use Rattle.epic_world.specs.Run.{done_by}

-- ---- parts of lists

front_of : {A : Type 0} (es rest : List A) → take (length es) (es ++ rest) ≡ es
front_of [] rest = refl
front_of (e ∷ es) rest = ap (λ xs. e ∷ xs) (front_of es rest)

behind : {A : Type 0} (xs es : List A) → drop (length xs) (xs ++ es) ≡ es
behind [] es = refl
behind (x ∷ xs) es = behind xs es

-- what was added to a list, in a longer one
added_in : {A : Type 0} (xs es rest : List A) → take (length (xs ++ es) - length xs) (drop (length xs) ((xs ++ es) ++ rest)) ≡ drop (length xs) (xs ++ es)
added_in xs es rest =
    let many : length (xs ++ es) - length xs ≡ length es = omega (arith, length-append xs es) in
    (λ k. take (many k) (drop (length xs) (append_assoc xs es rest k)))
    ∙ (ap (take (length es)) (behind xs (es ++ rest)) ∙ (front_of es rest ∙ sym (behind xs es)))

-- ---- passes

-- what became of a packet is in the ledger: one emission at most, and an event a verdict
pub record Recorded (h : History) (d : Happened) : Type 0 where
  pub emitted : List Emission
  pub happened : List Event
  pub emissions : d.history.emissions ≡ h.emissions ++ emitted
  pub events : d.history.events ≡ h.events ++ happened
  pub number : (if d.emission == 0 then length h.emissions else d.emission) ≡ length h.emissions + length emitted
  pub counted : length happened ≡ length d.verdicts

nothing_recorded : (h : History) (d : Happened) → d.history ≡ h → d.emission ≡ 0 → d.verdicts ≡ [] → Recorded h d
nothing_recorded h d same none no_verdicts = record {
  emitted = [];
  happened = [];
  emissions = ap (λ (g : History). g.emissions) same ∙ sym (append-nil h.emissions);
  events = ap (λ (g : History). g.events) same ∙ sym (append-nil h.events);
  number = ap (λ n. if n == 0 then length h.emissions else n) none ∙ omega arith;
  counted = sym (ap length no_verdicts);
}

one_each : (t : Network) (step : ℕ) (h : History) (a : AsId) (bytes : List ℕ) (number j k : ℕ) (gs : List ℕ)
    → length (passes_from step a number j gs) ≡ length (hop_verdicts t (facts_of h) a (parse bytes) k gs)
one_each t step h a bytes number j k [] = refl
one_each t step h a bytes number j k (g ∷ gs) = ap suc (one_each t step h a bytes number (j + 1) (k + 1) gs)

not_none : (n : ℕ) → (if n + 1 == 0 then n else n + 1) ≡ n + 1
not_none n = grind (arith, nat_tests)

left_recorded : (t : Network) (step : ℕ) (h : History) (a : AsId) (bytes : List ℕ) (turn : Turn) (due : Place) (generations : List ℕ)
    → Recorded h (left t step h a bytes turn due generations)
unfolding left
left_recorded t step h a bytes turn due generations =
    let p = parse bytes in
    record {
      emitted = record { place = due; bytes = spelling (packet_after t a turn p) } ∷ [];
      happened = passes_from step a (length h.emissions + 1) p.current generations;
      emissions = refl;
      events = refl;
      number = not_none (length h.emissions);
      counted = one_each t step h a bytes (length h.emissions + 1) p.current p.current generations;
    }

turn_recorded : (t : Network) (step : ℕ) (h : History) (a : AsId) (bytes : List ℕ) (turn : Turn) → Recorded h (turned_by t step h a bytes turn)
unfolding turned_by
turn_recorded t step h a bytes (Forward out hops generations) =
    left_recorded t step h a bytes (Forward out hops generations) (due_behind t a out) (take hops generations)
turn_recorded t step h a bytes (Deliver host hops generations) =
    left_recorded t step h a bytes (Deliver host hops generations) (Host (record { asn = a; host = host })) (take hops generations)
turn_recorded t step h a bytes (Refused check hop) = nothing_recorded h _ refl refl refl

arrival_recorded : (t : Network) (step : ℕ) (h : History) (d : HostId) (bytes : List ℕ) (answer : Arrival) → Recorded h (arrived_by t step h d bytes answer)
unfolding arrived_by arrives
arrival_recorded t step h d bytes arrival.Accepted =
    record { emitted = []; happened = _; emissions = sym (append-nil h.emissions); events = refl; number = omega arith; counted = refl }
arrival_recorded t step h d bytes arrival.Unchecked =
    record { emitted = []; happened = _; emissions = sym (append-nil h.emissions); events = refl; number = omega arith; counted = refl }
arrival_recorded t step h d bytes (arrival.Refused check) = nothing_recorded h _ refl refl refl

pass_recorded : (t : Network) (step now : ℕ) (h : History) (place : Place) (bytes : List ℕ) → Recorded h (pass_at t step now h place bytes)
unfolding pass_at turned_at arrived_at
pass_recorded t step now h (Router a iface) bytes =
    cond_both (nat_lt most_emitted (emitted h.emissions + length bytes)) (nothing h Full)
    (turned_by t step h a bytes (answer_at t now h a iface bytes)) (Recorded h)
    (λ _. nothing_recorded h _ refl refl refl)
    (λ _. turn_recorded t step h a bytes (answer_at t now h a iface bytes))
pass_recorded t step now h (Host d) bytes = arrival_recorded t step h d bytes (arrival_at t now h d bytes)

take_all_of : {A : Type 0} (xs : List A) (n : ℕ) → take (length xs - n) (drop n xs) ≡ drop n xs
take_all_of xs n = ap (λ k. take k (drop n xs)) (sym (length-drop n xs)) ∙ take_all (length (drop n xs)) (drop n xs) (omega arith)

-- what a ledger has since then
whole_since : (h g : History) → between g (mark_of h) (mark_of g) ≡ new_items h g
unfolding new_items
whole_since h g =
    λ k. emitted_from (length h.emissions + 1) (take_all_of g.emissions (length h.emissions) k) ++ map (λ e. items.Event e) (take_all_of g.events (length h.events) k)

-- ---- passages in turn

-- each from the ledger after the one before, the last up to this ledger
abbrev pub IsChain : History → List Passage → History → Type 0
IsChain h [] g = g ≡ h
IsChain h (x ∷ xs) g = (x.before ≡ h) × (Recorded h x.happened × IsChain x.happened.history xs g)

-- the ledger after them begins with the one before
record Extends (h g : History) : Type 0 where
  more : List Emission
  later : List Event
  emissions : g.emissions ≡ h.emissions ++ more
  events : g.events ≡ h.events ++ later

extends : (h : History) (xs : List Passage) (g : History) → IsChain h xs g → Extends h g
extends h [] g same = record {
  more = [];
  later = [];
  emissions = ap (λ (f : History). f.emissions) same ∙ sym (append-nil h.emissions);
  events = ap (λ (f : History). f.events) same ∙ sym (append-nil h.events);
}
extends h (x ∷ xs) g (is, (rec, chain)) =
    let rest = extends x.happened.history xs g chain in
    record {
      more = rec.emitted ++ rest.more;
      later = rec.happened ++ rest.later;
      emissions = rest.emissions ∙ (ap (λ es. es ++ rest.more) rec.emissions ∙ append_assoc h.emissions rec.emitted rest.more);
      events = rest.events ∙ (ap (λ es. es ++ rest.later) rec.events ∙ append_assoc h.events rec.happened rest.later);
    }

-- a passage as the bytes that came in and what is told of it
abbrev pub told : Passage → Coming
told x = record { came = x.came; passed = shown x }

module _ (h : History) (x : Passage) (rec : Recorded h x.happened) where
  -- so much the ledger holds after it
  marked : after_pass (mark_of h) (shown x) ≡ mark_of x.happened.history
  unfolding shown
  marked =
      let emitted : (if x.happened.emission == 0 then length h.emissions else x.happened.emission) ≡ length x.happened.history.emissions
      = rec.number ∙ sym (ap length rec.emissions ∙ length-append h.emissions rec.emitted) in
      let events : length h.events + length x.happened.verdicts ≡ length x.happened.history.events
      = ap (λ n. length h.events + n) (sym rec.counted) ∙ sym (ap length rec.events ∙ length-append h.events rec.happened) in
      λ k. record { emissions = emitted k; events = events k }

  -- what it added, over a later ledger
  told_since_then : (g : History) → Extends x.happened.history g → between g (mark_of h) (mark_of x.happened.history) ≡ new_items h x.happened.history
  unfolding new_items
  told_since_then g later =
      let es = rec.emitted in
      let vs = rec.happened in
      let d = x.happened.history in
      let emitted : take (length d.emissions - length h.emissions) (drop (length h.emissions) g.emissions) ≡ drop (length h.emissions) d.emissions
      = (λ k. take (length (rec.emissions k) - length h.emissions) (drop (length h.emissions) ((later.emissions ∙ ap (λ xs. xs ++ later.more) rec.emissions) k)))
      ∙ (added_in h.emissions es later.more ∙ sym (ap (drop (length h.emissions)) rec.emissions)) in
      let events : take (length d.events - length h.events) (drop (length h.events) g.events) ≡ drop (length h.events) d.events
      = (λ k. take (length (rec.events k) - length h.events) (drop (length h.events) ((later.events ∙ ap (λ xs. xs ++ later.later) rec.events) k)))
      ∙ (added_in h.events vs later.later ∙ sym (ap (drop (length h.events)) rec.events)) in
      λ k. emitted_from (length h.emissions + 1) (emitted k) ++ map (λ e. items.Event e) (events k)

-- what passages tell
chain_told : (h : History) (xs : List Passage) (g : History) → IsChain h xs g → told_from g (mark_of h) (map told xs) ≡ flat_map passage_items xs
unfolding told_from pass_items shown
chain_told h [] g chain = refl
chain_told h (x ∷ xs) g (is, (rec, chain)) =
    let later = extends x.happened.history xs g chain in
    let first : between g (mark_of h) (after_pass (mark_of h) (shown x)) ≡ new_items x.before x.happened.history
    = ap (between g (mark_of h)) (marked h x rec) ∙ (told_since_then h x rec g later ∙ ap (λ f. new_items f x.happened.history) (sym is)) in
    let rest : told_from g (after_pass (mark_of h) (shown x)) (map told xs) ≡ flat_map passage_items xs
    = ap (λ m. told_from g m (map told xs)) (marked h x rec) ∙ chain_told x.happened.history xs g chain in
    λ k. (accepted_items x.place x.came x.happened.result ++ first k) ++ rest k

chain_within : (h : History) (xs : List Passage) (g : History) → IsChain h xs g → AreWithin g (mark_of h) (map told xs)
unfolding shown
chain_within h [] g chain = tt
chain_within h (x ∷ xs) g (is, (rec, chain)) =
    let later = extends x.happened.history xs g chain in
    let before : length x.happened.history.events ≡ length h.events + length x.happened.verdicts
    = ap length rec.events ∙ (length-append h.events rec.happened ∙ ap (λ n. length h.events + n) rec.counted) in
    let after : length g.events ≡ length x.happened.history.events + length later.later
    = ap length later.events ∙ length-append x.happened.history.events later.later in (
      omega (arith, before, after),
      subst (λ m. AreWithin g m (map told xs)) (sym (marked h x rec)) (chain_within x.happened.history xs g chain),
    )

stays_of : (h : History) (d : Happened) → Recorded h d → Stays h.emissions d.history.emissions
stays_of h d rec = λ n some. ap (λ es. emission_at es n) rec.emissions ∙ emission_at-append h.emissions rec.emitted n some

chain_stays : (h : History) (xs : List Passage) (g : History) → IsChain h xs g → Stays h.emissions g.emissions
chain_stays h xs g chain =
    let later = extends h xs g chain in
    λ n some. ap (λ es. emission_at es n) later.emissions ∙ emission_at-append h.emissions later.more n some

-- ---- steps

-- the answer of a step tells its passages, the first of which had these bytes; they go from the ledger before it to that after it
abbrev Follows : State → List ℕ → Stepped → Type 0
Follows s came n =
    (coming (emission_bytes n.state.history.emissions) came (passes_told n.answer) ≡ map told n.passages)
    × ((n.passages ≡ []) ⊎ IsChain s.history n.passages n.state.history)

issued_follows : (s : State) (came : List ℕ) (r : Result Beacon BeaconError) → Follows s came (issued s r)
issued_follows s came (Ok b) = (refl, inl refl)
issued_follows s came (Err e) = (refl, inl refl)

originate_follows : (t : Network) (s : State) (came : List ℕ) (a : AsId) (out exp : ℕ) → Follows s came (next_originate t s a out exp)
unfolding next_originate
originate_follows t s came a out exp =
    cond_both (not (has t a)) (refused s (UnknownAs a)) (issued s (originated t (store_in t s.history) a out exp s.moment)) (Follows s came)
    (λ _. (refl, inl refl)) (λ _. issued_follows s came (originated t (store_in t s.history) a out exp s.moment))

fetch_follows : (t : Network) (s : State) (came : List ℕ) (source owner : AsId) (epoch : ℕ) → Follows s came (next_fetch t s source owner epoch)
unfolding next_fetch
fetch_follows t s came source owner epoch =
    by (has t source) (has t owner)
    (is_known (is_fetched_in s.history.events) (record { source = source; owner = owner; epoch = epoch }))
  where
    by : (a b c : Bool)
        → Follows s came (if not a then refused s (UnknownAs source)
        else if not b then refused s (UnknownAs owner)
        else if c then answered s Known
        else recorded s (event.Fetch (s.steps + 1) source owner epoch) Fetched)
    by false b c = (refl, inl refl)
    by true false c = (refl, inl refl)
    by true true true = (refl, inl refl)
    by true true false = (refl, inl refl)

paths_follows : (t : Network) (s : State) (came : List ℕ) (from to : AsId) → Follows s came (next_paths t s from to)
unfolding next_paths
paths_follows t s came from to =
    by (has t from) (has t to) (all_lawful (segments (beacons_in t (issues_in s.history.events))) from to)
  where
    by : (a b : Bool) (paths : List PathRef)
        → Follows s came (if not a then refused s (UnknownAs from) else if not b then refused s (UnknownAs to) else found s paths)
    by false b paths = (refl, inl refl)
    by true false paths = (refl, inl refl)
    by true true paths =
        cond_both (nat_lt most_paths (length paths)) (refused s TooManyPaths) (answered s (Paths paths)) (Follows s came)
        (λ _. (refl, inl refl)) (λ _. (refl, inl refl))

reveal_follows : (t : Network) (s : State) (came : List ℕ) (holder : Holder) → Follows s came (next_reveal t s holder)
unfolding next_reveal
reveal_follows t s came holder = by (has t (as_of holder)) (is_revealed (reveals_in s.history.events) holder)
  where
    by : (a b : Bool)
        → Follows s came (if not a then refused s (UnknownAs (as_of holder))
        else if b then answered s Known
        else recorded s (event.Reveal (s.steps + 1) holder) Revealed)
    by false b = (refl, inl refl)
    by true true = (refl, inl refl)
    by true false = (refl, inl refl)

roll_follows : (t : Network) (s : State) (came : List ℕ) (a : AsId) → Follows s came (next_roll t s a)
unfolding next_roll
roll_follows t s came a =
    let generation = rolls s.history.events a + 1 in
    cond_both (not (has t a)) (refused s (UnknownAs a)) (recorded s (event.Roll (s.steps + 1) a generation) (Rolled generation)) (Follows s came)
    (λ _. (refl, inl refl)) (λ _. (refl, inl refl))

emitted_follows : (s : State) (came : List ℕ) (numbers : ArrayVec ℕ) (p : Contents) → Follows s came (emitted_by s numbers p)
unfolding emitted_by
emitted_follows s came numbers p = by (nat_lt most_emitted (emitted s.history.emissions + length (spelling p)))
  where
    by : (b : Bool)
        → Follows s came (if b then refused s FullRefusal
        else record {
          answer = SentAnswer (length s.history.emissions + 1) p.ts;
          state = record s { steps = s.steps + 1; history = sent_at (s.steps + 1) s.history numbers p };
          passages = [];
        })
    by true = (refl, inl refl)
    by false = (refl, inl refl)

module _ (t : Network) (s : State) (came : List ℕ) (version : ℕ) (level : Level) (src dst : HostId) (numbers : ArrayVec ℕ) (payload : List ℕ) where
  sent_follows : (legs : List Leg) (r : Result ℕ SendError) → Follows s came (sent_by t s version level src dst numbers payload legs r)
  sent_follows legs (Ok ts) = emitted_follows s came numbers (sent_packet t legs version level src dst ts payload)
  sent_follows legs (Err e) = (refl, inl refl)

  path_follows : (r : Result (List Leg) PathError) → Follows s came (over_path t s version level src dst numbers payload r)
  path_follows (Ok legs) = sent_follows legs (admission t s version level src dst payload legs)
  path_follows (Err e) = (refl, inl refl)

  segments_follow : (r : Result (List Segment) ℕ) → Follows s came (over_segments t s version level src dst numbers payload r)
  segments_follow (Ok all) = path_follows (joined src.asn all)
  segments_follow (Err n) = (refl, inl refl)

  send_follows : Follows s came (next_send t s version level src dst numbers payload)
  unfolding next_send
  send_follows = by (has t src.asn) (has t dst.asn)
    where
      by : (a b : Bool)
          → Follows s came (if not a then refused s (UnknownAs src.asn)
          else if not b then refused s (UnknownAs dst.asn)
          else over_segments t s version level src dst numbers payload
          (segments_of (beacons_in t (issues_in s.history.events)) numbers.items))
      by false b = (refl, inl refl)
      by true false = (refl, inl refl)
      by true true = segments_follow (segments_of (beacons_in t (issues_in s.history.events)) numbers.items)

-- ---- passages

passing_follows : (t : Network) (s : State) (place : Place) (bytes came : List ℕ) → came ≡ bytes → Follows s came (passing t s place bytes)
unfolding passing shown
passing_follows t s place bytes came is =
    let d = pass_at t (s.steps + 1) s.moment s.history place bytes in
    let x : Passage = record { before = s.history; place = place; came = bytes; happened = d } in (
      (λ k. record { came = is k; passed = shown x } ∷ []),
      inr (refl, (pass_recorded t (s.steps + 1) s.moment s.history place bytes, refl)),
    )

turn_follows : (t : Network) (s : State) (a : AsId) (iface : ℕ) (bytes : List ℕ) → Follows s bytes (next_turn t s a iface bytes)
unfolding next_turn
turn_follows t s a iface bytes =
    cond_both (not (has t a)) (refused s (UnknownAs a)) (passing t s (Router a iface) bytes) (Follows s bytes)
    (λ _. (refl, inl refl)) (λ _. passing_follows t s (Router a iface) bytes bytes refl)

arrive_follows : (t : Network) (s : State) (d : HostId) (bytes : List ℕ) → Follows s bytes (next_arrive t s d bytes)
unfolding next_arrive
arrive_follows t s d bytes =
    cond_both (not (has t d.asn)) (refused s (UnknownAs d.asn)) (passing t s (Host d) bytes) (Follows s bytes)
    (λ _. (refl, inl refl)) (λ _. passing_follows t s (Host d) bytes bytes refl)

-- where the bytes of an emission came, those that it has after the step
abbrev FollowsOf : State → ℕ → Stepped → Type 0
FollowsOf s number n = Follows s (emission_bytes n.state.history.emissions number) n

pass_follows : (t : Network) (s : State) (number : ℕ) → FollowsOf s number (next_pass t s number)
unfolding next_pass passing
pass_follows t s number = by (emission_at s.history.emissions number) refl
  where
    by : (o : Option Emission) → emission_at s.history.emissions number ≡ o
        → FollowsOf s number (option_map_or (λ e. passing t s e.place e.bytes) o (refused s (UnknownEmission number)))
    by None e = (refl, inl refl)
    by (Some x) e =
        let d = pass_at t (s.steps + 1) s.moment s.history x.place x.bytes in
        let stays = stays_of s.history d (pass_recorded t (s.steps + 1) s.moment s.history x.place x.bytes) in
        passing_follows t s x.place x.bytes _ (bytes_stay s.history.emissions d.history.emissions number x stays e)

-- the passages of a carry
record Carries (h : History) (number : ℕ) (ds : List Happened) : Type 0 where
  chain : IsChain h (passages_of h number ds) (last_history h ds)
  comes : (let es = emission_bytes (last_history h ds).emissions in
      coming es (es number) (map shown (passages_of h number ds)) ≡ map told (passages_of h number ds))

no_carry : (h : History) (number : ℕ) → Carries h number []
unfolding passages_of
no_carry h number = record { chain = refl; comes = refl }

missing_carry : (h : History) (number : ℕ) → emission_at h.emissions number ≡ None → Carries h number (nothing h Full ∷ [])
unfolding passages_of
missing_carry h number none =
    let P : Option Emission → Type 0 = λ o.
    (let xs = option_map_or (λ (e : Emission). record { before = h; place = e.place; came = e.bytes; happened = nothing h Full } ∷ []) o [] ++ [] in
    IsChain h xs h × (coming (emission_bytes h.emissions) (emission_bytes h.emissions number) (map shown xs) ≡ map told xs)) in
    let both : P (emission_at h.emissions number) = subst P (sym none) (refl, refl) in
    record { chain = both.0; comes = both.1 }

one_carry : (h : History) (number : ℕ) (x : Emission) (d : Happened) (ds : List Happened) → emission_at h.emissions number ≡ Some x
    → Recorded h d → Carries d.history d.emission ds → Carries h number (d ∷ ds)
unfolding passages_of shown
one_carry h number x d ds there rec rest =
    let y : Passage = record { before = h; place = x.place; came = x.bytes; happened = d } in
    let g = last_history d.history ds in
    let xs = passages_of d.history d.emission ds in
    let es = emission_bytes g.emissions in
    let chain : IsChain h (y ∷ xs) g = (refl, (rec, rest.chain)) in
    let came : es number ≡ x.bytes = bytes_stay h.emissions g.emissions number x (chain_stays h (y ∷ xs) g chain) there in
    let P : Option Emission → Type 0 = λ o.
    (let all = option_map_or (λ (e : Emission). record { before = h; place = e.place; came = e.bytes; happened = d } ∷ []) o [] ++ xs in
    IsChain h all g × (coming es (es number) (map shown all) ≡ map told all)) in
    let comes : coming es (es number) (map shown (y ∷ xs)) ≡ map told (y ∷ xs)
    = λ k. record { came = came k; passed = shown y } ∷ rest.comes k in
    let both : P (emission_at h.emissions number) = subst P (sym there) (chain, comes) in
    record { chain = both.0; comes = both.1 }

carries : (t : Network) (step now most : ℕ) (h : History) (number : ℕ) → Carries h number (carried t step now most h number)
unfolding carried passed_on
carries t step now zero h number = no_carry h number
carries t step now (suc most) h number = by (emission_at h.emissions number) refl (carries t step now most)
  where
    by : (o : Option Emission) → emission_at h.emissions number ≡ o
        → ((g : History) (after : ℕ) → Carries g after (carried t step now most g after))
        → (let d = option_map_or (λ e. pass_at t step now h e.place e.bytes) o (nothing h Full) in
        Carries h number (d ∷ (if d.emission == 0 then [] else carried t step now most d.history d.emission)))
    by None e again = missing_carry h number e
    by (Some x) e again =
        let d = pass_at t step now h x.place x.bytes in
        one_carry h number x d _ e (pass_recorded t step now h x.place x.bytes)
        (cond_both (d.emission == 0) [] (carried t step now most d.history d.emission) (Carries d.history d.emission)
        (λ _. no_carry d.history d.emission) (λ _. again d.history d.emission))

carry_follows : (t : Network) (s : State) (number : ℕ) → FollowsOf s number (next_carry t s number)
unfolding next_carry carrying
carry_follows t s number = by (emission_at s.history.emissions number)
  where
    by : (o : Option Emission) → FollowsOf s number (option_map_or (λ e. carrying t s number) o (refused s (UnknownEmission number)))
    by None = (refl, inl refl)
    by (Some x) = let c = carries t (s.steps + 1) s.moment 33 s.history number in (c.comes, inr c.chain)

-- ---- all

all_follow : (t : Network) (s : State) (c : Command)
    → (let n = next t s c in Follows s (bytes_in (emission_bytes n.state.history.emissions) c) n)
unfolding next bytes_in next_at next_extend
all_follow t s (command.At moment) = (refl, inl refl)
all_follow t s (command.Originate a out exp) = originate_follows t s [] a out exp
all_follow t s (command.Extend parent out exp) = issued_follows s [] (extended t (store_in t s.history) parent out exp s.moment)
all_follow t s (command.Fetch source owner epoch) = fetch_follows t s [] source owner epoch
all_follow t s (command.Paths from to) = paths_follows t s [] from to
all_follow t s (command.Send version level src dst segments payload) = send_follows t s [] version level src dst segments payload
all_follow t s (command.Turn a iface bytes) = turn_follows t s a iface bytes
all_follow t s (command.Arrive host bytes) = arrive_follows t s host bytes
all_follow t s (command.Pass emission) = pass_follows t s emission
all_follow t s (command.Carry emission) = carry_follows t s emission
all_follow t s (command.Reveal holder) = reveal_follows t s [] holder
all_follow t s (command.Roll a) = roll_follows t s [] a

-- ---- what a step tells

module _ (t : Network) (s : State) (c : Command) where
  abbrev n : Stepped
  n = next t s c

  passes_are : passes_after c n.answer n.state ≡ map told n.passages
  unfolding passes_after
  passes_are = (all_follow t s c).0

  items_by : (xs : List Passage) (g : History) → (xs ≡ []) ⊎ IsChain s.history xs g
      → told_since g (mark_of s.history) (map told xs) ≡ passages_items xs (new_items s.history g)
  items_by [] g (inl none) = whole_since s.history g
  items_by (x ∷ xs) g (inl none) = absurd (cc)
  items_by [] g (inr chain) = whole_since s.history g
  items_by (x ∷ xs) g (inr chain) = chain_told s.history (x ∷ xs) g chain

  pub items_are : told_since n.state.history (mark_of s.history) (passes_after c n.answer n.state) ≡ step_items (done_by t s c)
  unfolding step_items done_by
  items_are =
      ap (told_since n.state.history (mark_of s.history)) passes_are ∙ items_by n.passages n.state.history (all_follow t s c).1

  within_by : (xs : List Passage) (g : History) → (xs ≡ []) ⊎ IsChain s.history xs g → AreWithin g (mark_of s.history) (map told xs)
  within_by [] g chain = tt
  within_by (x ∷ xs) g (inl none) = absurd (cc)
  within_by (x ∷ xs) g (inr chain) = chain_within s.history (x ∷ xs) g chain

  pub are_within : AreWithin n.state.history (mark_of s.history) (passes_after c n.answer n.state)
  are_within = subst (AreWithin n.state.history (mark_of s.history)) (sym passes_are) (within_by n.passages n.state.history (all_follow t s c).1)

  verdicts_by : (xs : List Passage) → passes_verdicts t (map told xs) ≡ flat_map (passage_verdicts t) xs
  unfolding passes_verdicts shown
  verdicts_by [] = refl
  verdicts_by (x ∷ xs) = ap (λ text. passage_verdicts t x ++ text) (verdicts_by xs)

  pub verdicts_are : passes_verdicts t (passes_after c n.answer n.state) ≡ step_verdicts t (done_by t s c)
  unfolding step_verdicts done_by
  verdicts_are = ap (passes_verdicts t) passes_are ∙ verdicts_by n.passages
