-- Each step counts as one.
use Rattle.std.proofs.Common.{◌≡◌, ℕ, ◌+◌, Bool, true, false, not, List, [], length, Option, None, Some, Ok, Err, refl}
use Rattle.std.specs.Prelude.{nat_lt, if◌then◌else◌, Result}
use Rattle.std.specs.Option.{option_map_or}
use Rattle.arrayvec.specs.ArrayVec.{ArrayVec}
use Rattle.epic_num.specs.declared.answer.Answer.TheVariants.{Fetched, Known, Paths, Revealed, Rolled, Sent as SentAnswer}
use Rattle.epic_num.specs.declared.answer.Refusal.TheVariants.{UnknownAs, TooManyPaths, Full as FullRefusal, UnknownEmission}
use Rattle.epic_num.specs.declared.beacon_error.BeaconError.{BeaconError}
use Rattle.epic_num.specs.declared.command.Command.{Command}
use Rattle.epic_num.specs.declared.command.Command.TheVariants as command
use Rattle.epic_num.specs.declared.hop.Level.{Level}
use Rattle.epic_num.specs.declared.key_name.Holder.{Holder}
use Rattle.epic_num.specs.declared.name.AsId.{AsId}
use Rattle.epic_num.specs.declared.name.HostId.{HostId}
use Rattle.epic_num.specs.declared.passed.Place.{Place}
use Rattle.epic_num.specs.declared.passed.Place.TheVariants.{Router, Host}
use Rattle.epic_num.specs.declared.path_error.PathError.{PathError}
use Rattle.epic_num.specs.declared.path_ref.PathRef.{PathRef}
use Rattle.epic_num.specs.declared.segment.Leg.{Leg}
use Rattle.epic_num.specs.declared.segment.Segment.{Segment}
use Rattle.epic_num.specs.declared.send_error.SendError.{SendError}
use Rattle.epic_layout.specs.Contents.{Contents}
use Rattle.epic_layout.specs.Spelling.{spelling}
use Rattle.epic_topo.specs.Network.{Network, has}
use Rattle.epic_keys.specs.Fetches.{is_known}
use Rattle.epic_beacon.specs.declared.beacon.Beacon.{Beacon}
use Rattle.epic_beacon.specs.Issuing.{originated, extended}
use Rattle.epic_beacon.specs.Segments.{segments}
use Rattle.epic_beacon.specs.Told.{beacons_in}
use Rattle.epic_path.specs.Joins.{joined}
use Rattle.epic_path.specs.Routes.{all_lawful}
use Rattle.epic_ends.specs.Sending.{sent_packet}
use Rattle.epic_ledger.specs.History.{Emission, emission_at, emitted}
use Rattle.epic_ledger.specs.Facts.{issues_in, reveals_in}
use Rattle.epic_ledger.specs.declared.event.Event.TheVariants as event
use Rattle.epic_audit.specs.Reveals.{is_revealed}
use Rattle.epic_model.specs.Keeping.{store_in, sent_at}
use Rattle.epic_model.specs.Passing.{most_emitted, rolls}
use Rattle.epic_model.specs.State.{State, is_fetched_in}
use Rattle.epic_model.specs.Steps.{next, next_at, issued, next_originate, next_extend, next_fetch, most_paths, found, next_paths, segments_of, emitted_by, sent_by, admission, over_path, over_segments, next_send, passing, next_turn, next_arrive, next_pass, carrying, next_carry, as_of, next_reveal, next_roll}
use Rattle.epic_model.specs.Traces.{Stepped, answered, refused, recorded}

-- the state after the step has one step more
abbrev Counts : State → Stepped → Type 0
Counts s n = n.state.steps ≡ s.steps + 1

-- ---- time, beacons, keys and paths

at_counts : (s : State) (moment : ℕ) → Counts s (next_at s moment)
unfolding next_at
at_counts s moment = refl

issued_counts : (s : State) (told : Result Beacon BeaconError) → Counts s (issued s told)
issued_counts s (Ok b) = refl
issued_counts s (Err e) = refl

originate_counts : (t : Network) (s : State) (a : AsId) (out exp : ℕ) → Counts s (next_originate t s a out exp)
unfolding next_originate
originate_counts t s a out exp = by (has t a)
  where
    by : (b : Bool) → Counts s (if not b then refused s (UnknownAs a) else issued s (originated t (store_in t s.history) a out exp s.moment))
    by false = refl
    by true = issued_counts s (originated t (store_in t s.history) a out exp s.moment)

extend_counts : (t : Network) (s : State) (parent out exp : ℕ) → Counts s (next_extend t s parent out exp)
unfolding next_extend
extend_counts t s parent out exp = issued_counts s (extended t (store_in t s.history) parent out exp s.moment)

fetch_counts : (t : Network) (s : State) (source owner : AsId) (epoch : ℕ) → Counts s (next_fetch t s source owner epoch)
unfolding next_fetch
fetch_counts t s source owner epoch =
    by (has t source) (has t owner) (is_known (is_fetched_in s.history.events) (record { source = source; owner = owner; epoch = epoch }))
  where
    by : (a b c : Bool)
        → Counts s (if not a then refused s (UnknownAs source)
        else if not b then refused s (UnknownAs owner)
        else if c then answered s Known
        else recorded s (event.Fetch (s.steps + 1) source owner epoch) Fetched)
    by false b c = refl
    by true false c = refl
    by true true true = refl
    by true true false = refl

paths_counts : (t : Network) (s : State) (from to : AsId) → Counts s (next_paths t s from to)
unfolding next_paths
paths_counts t s from to = by (has t from) (has t to) (all_lawful (segments (beacons_in t (issues_in s.history.events))) from to)
  where
    found_counts : (b : Bool) (paths : List PathRef) → Counts s (if b then refused s TooManyPaths else answered s (Paths paths))
    found_counts true paths = refl
    found_counts false paths = refl

    by : (a b : Bool) (paths : List PathRef)
        → Counts s (if not a then refused s (UnknownAs from) else if not b then refused s (UnknownAs to) else found s paths)
    by false b paths = refl
    by true false paths = refl
    by true true paths = found_counts (nat_lt most_paths (length paths)) paths

-- ---- sends

emitted_counts : (s : State) (numbers : ArrayVec ℕ) (p : Contents) → Counts s (emitted_by s numbers p)
unfolding emitted_by
emitted_counts s numbers p = by (nat_lt most_emitted (emitted s.history.emissions + length (spelling p)))
  where
    by : (b : Bool)
        → Counts s (if b then refused s FullRefusal
        else record {
          answer = SentAnswer (length s.history.emissions + 1) p.ts;
          state = record s { steps = s.steps + 1; history = sent_at (s.steps + 1) s.history numbers p };
          passages = [];
        })
    by true = refl
    by false = refl

module _ (t : Network) (s : State) (version : ℕ) (level : Level) (src dst : HostId) (numbers : ArrayVec ℕ) (payload : List ℕ) where
  sent_counts : (legs : List Leg) (told : Result ℕ SendError) → Counts s (sent_by t s version level src dst numbers payload legs told)
  sent_counts legs (Ok ts) = emitted_counts s numbers (sent_packet t legs version level src dst ts payload)
  sent_counts legs (Err e) = refl

  path_counts : (path : Result (List Leg) PathError) → Counts s (over_path t s version level src dst numbers payload path)
  path_counts (Ok legs) = sent_counts legs (admission t s version level src dst payload legs)
  path_counts (Err e) = refl

  segments_count : (told : Result (List Segment) ℕ) → Counts s (over_segments t s version level src dst numbers payload told)
  segments_count (Ok all) = path_counts (joined src.asn all)
  segments_count (Err n) = refl

  send_counts : Counts s (next_send t s version level src dst numbers payload)
  unfolding next_send
  send_counts = by (has t src.asn) (has t dst.asn)
    where
      by : (a b : Bool)
          → Counts s (if not a then refused s (UnknownAs src.asn)
          else if not b then refused s (UnknownAs dst.asn)
          else over_segments t s version level src dst numbers payload (segments_of (beacons_in t (issues_in s.history.events)) numbers.items))
      by false b = refl
      by true false = refl
      by true true = segments_count (segments_of (beacons_in t (issues_in s.history.events)) numbers.items)

-- ---- packets at places

passing_counts : (t : Network) (s : State) (place : Place) (bytes : List ℕ) → Counts s (passing t s place bytes)
unfolding passing
passing_counts t s place bytes = refl

turn_counts : (t : Network) (s : State) (a : AsId) (iface : ℕ) (bytes : List ℕ) → Counts s (next_turn t s a iface bytes)
unfolding next_turn
turn_counts t s a iface bytes = by (has t a)
  where
    by : (b : Bool) → Counts s (if not b then refused s (UnknownAs a) else passing t s (Router a iface) bytes)
    by false = refl
    by true = passing_counts t s (Router a iface) bytes

arrive_counts : (t : Network) (s : State) (d : HostId) (bytes : List ℕ) → Counts s (next_arrive t s d bytes)
unfolding next_arrive
arrive_counts t s d bytes = by (has t d.asn)
  where
    by : (b : Bool) → Counts s (if not b then refused s (UnknownAs d.asn) else passing t s (Host d) bytes)
    by false = refl
    by true = passing_counts t s (Host d) bytes

pass_counts : (t : Network) (s : State) (number : ℕ) → Counts s (next_pass t s number)
unfolding next_pass
pass_counts t s number = by (emission_at s.history.emissions number)
  where
    by : (o : Option Emission) → Counts s (option_map_or (λ e. passing t s e.place e.bytes) o (refused s (UnknownEmission number)))
    by None = refl
    by (Some x) = passing_counts t s x.place x.bytes

carry_counts : (t : Network) (s : State) (number : ℕ) → Counts s (next_carry t s number)
unfolding next_carry carrying
carry_counts t s number = by (emission_at s.history.emissions number)
  where
    by : (o : Option Emission) → Counts s (option_map_or (λ e. carrying t s number) o (refused s (UnknownEmission number)))
    by None = refl
    by (Some x) = refl

-- ---- reveals and rolls

reveal_counts : (t : Network) (s : State) (holder : Holder) → Counts s (next_reveal t s holder)
unfolding next_reveal
reveal_counts t s holder = by (has t (as_of holder)) (is_revealed (reveals_in s.history.events) holder)
  where
    by : (a b : Bool)
        → Counts s (if not a then refused s (UnknownAs (as_of holder))
        else if b then answered s Known
        else recorded s (event.Reveal (s.steps + 1) holder) Revealed)
    by false b = refl
    by true true = refl
    by true false = refl

roll_counts : (t : Network) (s : State) (a : AsId) → Counts s (next_roll t s a)
unfolding next_roll
roll_counts t s a = by (has t a)
  where
    generation : ℕ
    generation = rolls s.history.events a + 1

    by : (b : Bool) → Counts s (if not b then refused s (UnknownAs a) else recorded s (event.Roll (s.steps + 1) a generation) (Rolled generation))
    by false = refl
    by true = refl

-- ---- all

pub next_counts : (t : Network) (s : State) (c : Command) → (next t s c).state.steps ≡ s.steps + 1
unfolding next
next_counts t s (command.At moment) = at_counts s moment
next_counts t s (command.Originate a out exp) = originate_counts t s a out exp
next_counts t s (command.Extend parent out exp) = extend_counts t s parent out exp
next_counts t s (command.Fetch source owner epoch) = fetch_counts t s source owner epoch
next_counts t s (command.Paths from to) = paths_counts t s from to
next_counts t s (command.Send version level src dst segments payload) = send_counts t s version level src dst segments payload
next_counts t s (command.Turn a iface bytes) = turn_counts t s a iface bytes
next_counts t s (command.Arrive host bytes) = arrive_counts t s host bytes
next_counts t s (command.Pass emission) = pass_counts t s emission
next_counts t s (command.Carry emission) = carry_counts t s emission
next_counts t s (command.Reveal holder) = reveal_counts t s holder
next_counts t s (command.Roll a) = roll_counts t s a
