-- What a step of one actor answers, what it did, and the state after it.
use Rattle.std.specs.Prelude.{ℕ, ◌+◌, Bool, not, nat_lt, max, if◌then◌else◌, List, [], ◌∷◌, ◌++◌, length, map, Result, Ok, Err}
use Rattle.std.specs.Option.{option_map_or}
use Rattle.std.specs.Result.{result_map_both}
use Rattle.arrayvec.specs.ArrayVec.{ArrayVec}
use Rattle.epic_num.specs.declared.answer.Answer.TheVariants.{Moment, Issued, Fetched, Known, Paths, Sent as SentAnswer, Passed, Carried, Revealed, Rolled}
use Rattle.epic_num.specs.declared.answer.Refusal.TheVariants.{UnknownAs, Beacon as BeaconRefusal, TooManyPaths, NoSegment, Path as PathRefusal, Send as SendRefusal, Full, UnknownEmission}
use Rattle.epic_num.specs.declared.beacon_error.BeaconError.{BeaconError}
use Rattle.epic_num.specs.declared.command.Command.{Command}
use Rattle.epic_num.specs.declared.command.Command.TheVariants as command
use Rattle.epic_num.specs.declared.hop.Level.{Level}
use Rattle.epic_num.specs.declared.key_name.Holder.{Holder}
use Rattle.epic_num.specs.declared.key_name.Holder.TheVariants.{As, Host as HostHolder}
use Rattle.epic_num.specs.declared.name.AsId.{AsId}
use Rattle.epic_num.specs.declared.name.HostId.{HostId}
use Rattle.epic_num.specs.declared.passed.Place.{Place}
use Rattle.epic_num.specs.declared.passed.Place.TheVariants.{Router, Host}
use Rattle.epic_num.specs.declared.path_error.PathError.{PathError}
use Rattle.epic_num.specs.declared.path_ref.PathRef.{PathRef}
use Rattle.epic_num.specs.declared.segment.Leg.{Leg}
use Rattle.epic_num.specs.declared.segment.Segment.{Segment}
use Rattle.epic_num.specs.declared.send_error.SendError.{SendError}
use Rattle.epic_num.specs.Levels.{first_byte}
use Rattle.epic_num.specs.Moments.{epoch_of}
use Rattle.epic_layout.specs.Contents.{Contents}
use Rattle.epic_layout.specs.Spelling.{spelling}
use Rattle.epic_topo.specs.Network.{Network, has}
use Rattle.epic_keys.specs.Fetches.{is_known}
use Rattle.epic_beacon.specs.declared.beacon.Beacon.{Beacon}
use Rattle.epic_beacon.specs.declared.segment.SegmentError.{SegmentError}
use Rattle.epic_beacon.specs.Issuing.{originated, extended}
use Rattle.epic_beacon.specs.Segments.{segment, segments}
use Rattle.epic_beacon.specs.Told.{beacons_in}
use Rattle.epic_path.specs.Joins.{joined}
use Rattle.epic_path.specs.Routes.{all_lawful}
use Rattle.epic_ends.specs.Admitting.{next_ts, admitted}
use Rattle.epic_ends.specs.Sending.{sent_packet}
use Rattle.epic_ledger.specs.History.{History, emission_at, emitted}
use Rattle.epic_ledger.specs.Facts.{issues_in, sends_in, reveals_in}
use Rattle.epic_ledger.specs.declared.event.Event.TheVariants as event
use Rattle.epic_audit.specs.Reveals.{is_revealed}
use Rattle.epic_model.specs.Keeping.{store_in, sent_at, latest_sent}
use Rattle.epic_model.specs.Passing.{Happened, most_emitted, rolls, pass_at, carried, last_history}
use Rattle.epic_model.specs.State.{State, is_fetched_in}
use Rattle.epic_model.specs.Traces.{Passage, shown, Stepped, answered, refused, recorded}

-- ---- time, beacons, keys and paths

-- the present moment becomes a later one
unfoldable pub next_at : State → ℕ → Stepped
next_at s moment = answered (record s { moment = max s.moment moment }) Moment

-- the hop is issued, with the next number, unless it is refused
abbrev pub issued : State → Result Beacon BeaconError → Stepped
issued s (Ok b) =
    let number = length (issues_in s.history.events) + 1
    in recorded s (event.Issue (s.steps + 1) number b.name b.parent) (Issued number)
issued s (Err e) = refused s (BeaconRefusal e)

unfoldable pub next_originate : Network → State → AsId → ℕ → ℕ → Stepped
next_originate t s a out exp =
    if not (has t a) then refused s (UnknownAs a)
    else issued s (originated t (store_in t s.history) a out exp s.moment)

unfoldable pub next_extend : Network → State → ℕ → ℕ → ℕ → Stepped
next_extend t s parent out exp = issued s (extended t (store_in t s.history) parent out exp s.moment)

-- keys that are known aren't fetched again
unfoldable pub next_fetch : Network → State → AsId → AsId → ℕ → Stepped
next_fetch t s source owner epoch =
    if not (has t source) then refused s (UnknownAs source)
    else if not (has t owner) then refused s (UnknownAs owner)
    else if is_known (is_fetched_in s.history.events) (record { source = source; owner = owner; epoch = epoch }) then answered s Known
    else recorded s (event.Fetch (s.steps + 1) source owner epoch) Fetched

-- the greatest number of paths that are answered
abbrev pub most_paths : ℕ
most_paths = 4096

abbrev pub found : State → List PathRef → Stepped
found s paths = if nat_lt most_paths (length paths) then refused s TooManyPaths else answered s (Paths paths)

-- the paths over the segments of all ended issues, whether they are valid still or not
unfoldable pub next_paths : Network → State → AsId → AsId → Stepped
next_paths t s from to =
    if not (has t from) then refused s (UnknownAs from)
    else if not (has t to) then refused s (UnknownAs to)
    else found s (all_lawful (segments (beacons_in t (issues_in s.history.events))) from to)

-- ---- sends

-- the segments of these numbers, or the first number that has none
abbrev pub before_segments : ℕ → Result Segment SegmentError → Result (List Segment) ℕ → Result (List Segment) ℕ
before_segments number (Ok first) rest = result_map_both (λ others. first ∷ others) (λ n. n) rest
before_segments number (Err e) rest = Err number

unfoldable pub segments_of : List Beacon → List ℕ → Result (List Segment) ℕ
segments_of beacons [] = Ok []
segments_of beacons (number ∷ numbers) = before_segments number (segment beacons number) (segments_of beacons numbers)

-- the timestamp of a host's next packet
unfoldable pub ts_next : State → HostId → ℕ
ts_next s src = next_ts (latest_sent (sends_in s.history) src) s.moment

-- the packet is an emission at interface 0 of its source's AS, where there is room for it
unfoldable pub emitted_by : State → ArrayVec ℕ → Contents → Stepped
emitted_by s numbers p =
    if nat_lt most_emitted (emitted s.history.emissions + length (spelling p)) then refused s Full
    else record {
      answer = SentAnswer (length s.history.emissions + 1) p.ts;
      state = record s { steps = s.steps + 1; history = sent_at (s.steps + 1) s.history numbers p };
      passages = [];
    }

-- the packet is sent, unless the source refuses
abbrev pub sent_by : Network → State → ℕ → Level → HostId → HostId → ArrayVec ℕ → List ℕ → List Leg → Result ℕ SendError → Stepped
sent_by t s version level src dst numbers payload legs (Ok ts) =
    emitted_by s numbers (sent_packet t legs version level src dst ts payload)
sent_by t s version level src dst numbers payload legs (Err e) = refused s (SendRefusal e)

-- whether the source has the keys of an AS, of the epoch of its next packet
unfoldable pub has_keys : Network → State → HostId → AsId → Bool
has_keys t s src owner = is_known (is_fetched_in s.history.events) (record { source = src.asn; owner = owner; epoch = epoch_of t.profile (ts_next s src) })

-- what the source answers
unfoldable pub admission : Network → State → ℕ → Level → HostId → HostId → List ℕ → List Leg → Result ℕ SendError
admission t s version level src dst payload legs =
    let ts = ts_next s src in
    admitted (has_keys t s src) (epoch_of t.profile ts) legs (first_byte version level) src dst payload s.moment ts

abbrev pub over_path : Network → State → ℕ → Level → HostId → HostId → ArrayVec ℕ → List ℕ → Result (List Leg) PathError → Stepped
over_path t s version level src dst numbers payload (Ok legs) =
    sent_by t s version level src dst numbers payload legs (admission t s version level src dst payload legs)
over_path t s version level src dst numbers payload (Err e) = refused s (PathRefusal e)

abbrev pub over_segments : Network → State → ℕ → Level → HostId → HostId → ArrayVec ℕ → List ℕ → Result (List Segment) ℕ → Stepped
over_segments t s version level src dst numbers payload (Ok segments) =
    over_path t s version level src dst numbers payload (joined src.asn segments)
over_segments t s version level src dst numbers payload (Err number) = refused s (NoSegment number)

unfoldable pub next_send : Network → State → ℕ → Level → HostId → HostId → ArrayVec ℕ → List ℕ → Stepped
next_send t s version level src dst numbers payload =
    if not (has t src.asn) then refused s (UnknownAs src.asn)
    else if not (has t dst.asn) then refused s (UnknownAs dst.asn)
    else over_segments t s version level src dst numbers payload (segments_of (beacons_in t (issues_in s.history.events)) numbers.items)

-- ---- packets at places

-- one passage
unfoldable pub passing : Network → State → Place → List ℕ → Stepped
passing t s place bytes =
    let d = pass_at t (s.steps + 1) s.moment s.history place bytes in
    let x : Passage = record { before = s.history; place = place; came = bytes; happened = d } in
    record { answer = Passed (shown x); state = record s { steps = s.steps + 1; history = d.history }; passages = x ∷ [] }

unfoldable pub next_turn : Network → State → AsId → ℕ → List ℕ → Stepped
next_turn t s a iface bytes = if not (has t a) then refused s (UnknownAs a) else passing t s (Router a iface) bytes

unfoldable pub next_arrive : Network → State → HostId → List ℕ → Stepped
next_arrive t s d bytes = if not (has t d.asn) then refused s (UnknownAs d.asn) else passing t s (Host d) bytes

unfoldable pub next_pass : Network → State → ℕ → Stepped
next_pass t s number =
    option_map_or (λ e. passing t s e.place e.bytes) (emission_at s.history.emissions number) (refused s (UnknownEmission number))

-- what became of an emission, of the one that this made, and so on, each as a passage
unfoldable pub passages_of : History → ℕ → List Happened → List Passage
passages_of h number [] = []
passages_of h number (d ∷ ds) =
    option_map_or (λ e. record { before = h; place = e.place; came = e.bytes; happened = d } ∷ []) (emission_at h.emissions number) []
    ++ passages_of d.history d.emission ds

-- how many passages a carry has at most: a router's for each of 32 hops, and the destination's
abbrev pub most_passages : ℕ
most_passages = 33

unfoldable pub carrying : Network → State → ℕ → Stepped
carrying t s number =
    let ds = carried t (s.steps + 1) s.moment most_passages s.history number in
    let passages = passages_of s.history number ds in
    record {
      answer = Carried (map shown passages);
      state = record s { steps = s.steps + 1; history = last_history s.history ds };
      passages = passages;
    }

unfoldable pub next_carry : Network → State → ℕ → Stepped
next_carry t s number = option_map_or (λ e. carrying t s number) (emission_at s.history.emissions number) (refused s (UnknownEmission number))

-- ---- reveals and rolls

unfoldable pub as_of : Holder → AsId
as_of (As a) = a
as_of (HostHolder host) = host.asn

-- a holder's keys become known to all
unfoldable pub next_reveal : Network → State → Holder → Stepped
next_reveal t s holder =
    if not (has t (as_of holder)) then refused s (UnknownAs (as_of holder))
    else if is_revealed (reveals_in s.history.events) holder then answered s Known
    else recorded s (event.Reveal (s.steps + 1) holder) Revealed

unfoldable pub next_roll : Network → State → AsId → Stepped
next_roll t s a =
    let generation = rolls s.history.events a + 1 in
    if not (has t a) then refused s (UnknownAs a)
    else recorded s (event.Roll (s.steps + 1) a generation) (Rolled generation)

-- ---- all

-- one step
unfoldable pub next : Network → State → Command → Stepped
next t s (command.At moment) = next_at s moment
next t s (command.Originate a out exp) = next_originate t s a out exp
next t s (command.Extend parent out exp) = next_extend t s parent out exp
next t s (command.Fetch source owner epoch) = next_fetch t s source owner epoch
next t s (command.Paths from to) = next_paths t s from to
next t s (command.Send version level src dst segments payload) = next_send t s version level src dst segments payload
next t s (command.Turn a iface bytes) = next_turn t s a iface bytes
next t s (command.Arrive host bytes) = next_arrive t s host bytes
next t s (command.Pass emission) = next_pass t s emission
next t s (command.Carry emission) = next_carry t s emission
next t s (command.Reveal holder) = next_reveal t s holder
next t s (command.Roll a) = next_roll t s a
