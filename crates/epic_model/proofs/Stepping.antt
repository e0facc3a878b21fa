-- Each step of a world goes on from what worlds keep to what worlds keep, and its verdicts are right.
use Rattle.std.proofs.Common.{◌≡◌, ℕ, zero, suc, ◌+◌, ◌/◌, ◌^◌, ◌<◌, ◌≤◌, inl, inr, max, Bool, true, false, not, List, [], ◌∷◌, ◌++◌, length, map, Option, None, Some, Ok, Err, refl, ap, sym, subst, ◌∙◌, ⊎_elim, arith}
use Rattle.std.specs.Prelude.{◌==◌, ◌&&◌, nat_lt, if◌then◌else◌, Result, slice_get}
use Rattle.std.specs.List.{All}
use Rattle.std.specs.Option.{option_map_or}
use Rattle.std.proofs.lemmas.Bool.{and_parts, cases_Bool, cond-true, cond-false, cond_both, not-false, ltb-false}
use Rattle.std.proofs.lemmas.List.Elements.{All-append, All-cons, All-nil}
use Rattle.std.proofs.lemmas.Option.{same_Some}
use Rattle.arrayvec.specs.ArrayVec.{ArrayVec}
use Rattle.epic_num.specs.declared.answer.Answer.TheVariants.{Fetched, Known, Paths, Revealed, Rolled, Sent as SentAnswer}
use Rattle.epic_num.specs.declared.answer.Refusal.TheVariants.{UnknownAs, TooManyPaths, Full as FullRefusal, UnknownEmission}
use Rattle.epic_num.specs.declared.beacon_error.BeaconError.{BeaconError}
use Rattle.epic_num.specs.declared.command.Command.TheVariants as command
use Rattle.epic_num.specs.declared.hop.Level.{Level}
use Rattle.epic_num.specs.declared.key_name.Holder.{Holder}
use Rattle.epic_num.specs.declared.moment.TheConstants.{MAX_MOMENT}
use Rattle.epic_num.specs.declared.name.AsId.{AsId}
use Rattle.epic_num.specs.declared.name.HostId.{HostId}
use Rattle.epic_num.specs.declared.passed.PassResult.TheVariants.{Full}
use Rattle.epic_num.specs.declared.passed.Place.{Place}
use Rattle.epic_num.specs.declared.passed.Place.TheVariants.{Router, Host}
use Rattle.epic_num.specs.declared.path_error.PathError.{PathError}
use Rattle.epic_num.specs.declared.path_ref.PathRef.{PathRef}
use Rattle.epic_num.specs.declared.segment.Leg.{Leg}
use Rattle.epic_num.specs.declared.segment.Segment.{Segment}
use Rattle.epic_num.specs.declared.send_error.SendError.{SendError}
use Rattle.epic_num.specs.declared.send_error.SendError.TheVariants.{WrongEnds, PayloadTooLong}
use Rattle.epic_num.specs.Levels.{first_byte, is_first_byte, is_tagged}
use Rattle.epic_num.specs.Messages.{IsHost}
use Rattle.epic_num.specs.Moments.{epoch_of}
use Rattle.epic_num.specs.Paths.{path_end, path_start}
use Rattle.epic_num.specs.Same.{same_as, same_host}
use Rattle.epic_num.specs.Tables.{first_row}
use Rattle.epic_num.proofs.SameLaws.{same_as-Decides}
use Rattle.epic_num.proofs.TableLaws.{all_passed, unless_ok}
use Rattle.epic_layout.specs.declared.wire.TheConstants.{MAX_PAYLOAD}
use Rattle.epic_layout.specs.Contents.{Contents, IsBytes, hop_count, unfilled}
use Rattle.epic_layout.specs.Layout.{parse}
use Rattle.epic_layout.specs.Reading.{IsRead}
use Rattle.epic_layout.specs.Spelling.{spelling}
use Rattle.epic_layout.proofs.OneSpelling.{bytes_are_read}
use Rattle.epic_topo.specs.Lawful.{IsTopology}
use Rattle.epic_topo.specs.Network.{Network, has}
use Rattle.epic_keys.specs.Fetches.{is_known}
use Rattle.epic_beacon.specs.declared.beacon.Beacon.{Beacon}
use Rattle.epic_beacon.specs.declared.segment.SegmentError.{SegmentError}
use Rattle.epic_beacon.specs.Issuing.{originated, extended}
use Rattle.epic_beacon.specs.Laws.{IsIssued}
use Rattle.epic_beacon.specs.Segments.{segment, segments}
use Rattle.epic_beacon.specs.Told.{beacons_in}
use Rattle.epic_path.specs.Joins.{joined}
use Rattle.epic_path.specs.Routes.{all_lawful}
use Rattle.epic_router.specs.Leaving.{packet_after}
use Rattle.epic_ends.specs.Admitting.{next_ts, end_rows, expiry_rows, key_rows, key_owners, send_rows, admitted}
use Rattle.epic_ends.specs.Sending.{sent_packet, packet_over}
use Rattle.epic_ledger.specs.History.{History, Emission, emission_at, emitted}
use Rattle.epic_ledger.specs.Facts.{Sent, as_send, issues_in, sends_in, reveals_in}
use Rattle.epic_ledger.specs.Lawful.{IsLawful}
use Rattle.epic_ledger.specs.OneMore.{with_event}
use Rattle.epic_ledger.specs.declared.event.Event.{Event}
use Rattle.epic_ledger.specs.declared.event.Event.TheVariants as event
use Rattle.epic_audit.specs.Events.{IsUnsent}
use Rattle.epic_audit.specs.Reveals.{is_revealed}
use Rattle.epic_audit.proofs.Arrivals.{not_revealed}
use Rattle.epic_model.specs.Judged.{IsJudged}
use Rattle.epic_model.specs.Keeping.{IsDue, Inv, IsSendable, store_in, sent_at, latest_sent}
use Rattle.epic_model.specs.Passing.{Happened, most_emitted, rolls, left, nothing, arrives, pass_at, passed_on, carried, last_history}
use Rattle.epic_model.specs.State.{State, is_fetched_in}
use Rattle.epic_model.specs.Steps.{next, next_at, issued, next_originate, next_extend, next_fetch, most_paths, found, next_paths, before_segments, segments_of, ts_next, emitted_by, sent_by, has_keys, admission, over_path, over_segments, next_send, passing, next_turn, next_arrive, next_pass, passages_of, carrying, next_carry, as_of, next_reveal, next_roll}
use Rattle.epic_model.specs.Traces.{answered, refused, recorded}
use Rattle.epic_model.specs.World.{Fits, most_steps, IsWorld, WorldsStart, WorldsGoOn}
use Rattle.epic_model.proofs.InvIssued.{inv_issues}
use Rattle.epic_model.proofs.InvKept.{inv_start, inv_later, inv_others, inv_passes, there_fits}
use Rattle.epic_model.proofs.InvSent.{inv_sends, next_is_unsent, sends_after}
use Rattle.epic_model.proofs.Judging.{passed_judged}
use Rattle.epic_model.proofs.Longer.{none_behind, same_sends}
use Rattle.epic_model.proofs.Once.{after_turn, after_arrival}
use Rattle.epic_model.proofs.Riding.{lawful_there}

-- ---- nothing, and steps that record nothing

pub worlds_start : WorldsStart
worlds_start t = record { inv = inv_start t; moment_fits = omega arith; times = λ n x at. absurd (cc) }

-- the next step of what there is
pub later : (t : Network) (s : State) → IsWorld t s → Inv t s.history s.moment (s.steps + 1)
later t s w = inv_later t s.history s.moment s.moment s.steps (s.steps + 1) (omega arith) (omega arith) w.inv

-- the ledger is another, with the same sends
goes_on : (t : Network) (s : State) (h : History) → IsWorld t s → Inv t h s.moment (s.steps + 1) → sends_in h ≡ sends_in s.history
    → IsWorld t (record { moment = s.moment; steps = s.steps + 1; history = h })
goes_on t s h w inv same = record {
  inv = inv;
  moment_fits = w.moment_fits;
  times = λ n x at. (let early = w.times n x (ap (λ l. slice_get l n) (sym same) ∙ at) in omega (arith, early));
}

counted : (t : Network) (s : State) → IsWorld t s → IsWorld t (record { moment = s.moment; steps = s.steps + 1; history = s.history })
counted t s w = goes_on t s s.history w (later t s w) refl

-- one event that is no send
one_event : (t : Network) (s : State) (e : Event) → IsWorld t s → as_send s.history.emissions e ≡ None → Inv t (with_event s.history e) s.moment (s.steps + 1)
    → IsWorld t (record { moment = s.moment; steps = s.steps + 1; history = with_event s.history e })
one_event t s e w none inv =
    goes_on t s (with_event s.history e) w inv (none_behind (as_send s.history.emissions) s.history.events (e ∷ []) only)
  where
    only : (n : ℕ) (d : Event) → slice_get (e ∷ []) n ≡ Some d → as_send s.history.emissions d ≡ None
    only zero d at = ap (as_send s.history.emissions) (sym (same_Some e d at)) ∙ none
    only (suc n) d at = absurd (cc)

-- ---- time, beacons, keys and paths

at_goes : (t : Network) (s : State) (moment : ℕ) → moment ≤ MAX_MOMENT → IsWorld t s → IsWorld t (next_at s moment).state
unfolding next_at
at_goes t s moment fits w = record {
  inv = inv_later t s.history s.moment (max s.moment moment) s.steps (s.steps + 1) (omega arith) (omega arith) w.inv;
  moment_fits = (let most = w.moment_fits in omega (arith, most, fits));
  times = λ n x at. (let early = w.times n x at in omega (arith, early));
}

issued_goes : (t : Network) (s : State) (out exp : ℕ) (told : Result Beacon BeaconError) → IsTopology t → out < 2 ^ 16 → exp < 2 ^ 8 → IsWorld t s
    → ((b : Beacon) → told ≡ Ok b → IsIssued t (store_in t s.history) out exp s.moment b)
    → IsWorld t (issued s told).state
unfolding as_send
issued_goes t s out exp (Ok b) topology out_fits exp_fits w is =
    let number = length (issues_in s.history.events) + 1 in
    let small : s.moment / 1000000 < 2 ^ 32 = (let most = w.moment_fits in omega (arith, most)) in
    one_event t s (event.Issue (s.steps + 1) number b.name b.parent) w refl
    (inv_issues t s.history s.moment (s.steps + 1) out exp b topology out_fits exp_fits small (is b refl) (later t s w))
issued_goes t s out exp (Err e) topology out_fits exp_fits w is = counted t s w

originate_goes : (t : Network) (s : State) (a : AsId) (out exp : ℕ) → IsTopology t → (out < 2 ^ 16) × (exp < 2 ^ 8) → IsWorld t s
    → IsWorld t (next_originate t s a out exp).state
unfolding next_originate
originate_goes t s a out exp topology fits w =
    cond_both (not (has t a)) (refused s (UnknownAs a)) (issued s (originated t (store_in t s.history) a out exp s.moment)) (λ n. IsWorld t n.state)
    (λ _. counted t s w)
    (λ _. issued_goes t s out exp (originated t (store_in t s.history) a out exp s.moment) topology fits.0 fits.1 w (λ b e. inl (a, e)))

extend_goes : (t : Network) (s : State) (parent out exp : ℕ) → IsTopology t → (out < 2 ^ 16) × (exp < 2 ^ 8) → IsWorld t s
    → IsWorld t (next_extend t s parent out exp).state
unfolding next_extend
extend_goes t s parent out exp topology fits w =
    issued_goes t s out exp (extended t (store_in t s.history) parent out exp s.moment) topology fits.0 fits.1 w (λ b e. inr (parent, e))

fetch_goes : (t : Network) (s : State) (source owner : AsId) (epoch : ℕ) → IsWorld t s → IsWorld t (next_fetch t s source owner epoch).state
unfolding next_fetch as_send
fetch_goes t s source owner epoch w =
    by (has t source) (has t owner) (is_known (is_fetched_in s.history.events) (record { source = source; owner = owner; epoch = epoch }))
  where
    by : (a b c : Bool)
        → IsWorld t (if not a then refused s (UnknownAs source)
        else if not b then refused s (UnknownAs owner)
        else if c then answered s Known
        else recorded s (event.Fetch (s.steps + 1) source owner epoch) Fetched).state
    by false b c = counted t s w
    by true false c = counted t s w
    by true true true = counted t s w
    by true true false =
        one_event t s (event.Fetch (s.steps + 1) source owner epoch) w refl
        ((inv_others t s.history s.moment (s.steps + 1) (later t s w)).0 source owner epoch)

paths_goes : (t : Network) (s : State) (from to : AsId) → IsWorld t s → IsWorld t (next_paths t s from to).state
unfolding next_paths
paths_goes t s from to w = by (has t from) (has t to) (all_lawful (segments (beacons_in t (issues_in s.history.events))) from to)
  where
    by : (a b : Bool) (paths : List PathRef)
        → IsWorld t (if not a then refused s (UnknownAs from) else if not b then refused s (UnknownAs to) else found s paths).state
    by false b paths = counted t s w
    by true false paths = counted t s w
    by true true paths =
        cond_both (nat_lt most_paths (length paths)) (refused s TooManyPaths) (answered s (Paths paths)) (λ n. IsWorld t n.state)
        (λ _. counted t s w) (λ _. counted t s w)

reveal_goes : (t : Network) (s : State) (holder : Holder) → IsWorld t s → IsWorld t (next_reveal t s holder).state
unfolding next_reveal as_send
reveal_goes t s holder w = by (has t (as_of holder)) (is_revealed (reveals_in s.history.events) holder) refl
  where
    by : (a b : Bool) → is_revealed (reveals_in s.history.events) holder ≡ b
        → IsWorld t (if not a then refused s (UnknownAs (as_of holder))
        else if b then answered s Known
        else recorded s (event.Reveal (s.steps + 1) holder) Revealed).state
    by false b e = counted t s w
    by true true e = counted t s w
    by true false e =
        one_event t s (event.Reveal (s.steps + 1) holder) w refl
        ((inv_others t s.history s.moment (s.steps + 1) (later t s w)).1 holder (not_revealed (reveals_in s.history.events) holder e))

roll_goes : (t : Network) (s : State) (a : AsId) → IsWorld t s → IsWorld t (next_roll t s a).state
unfolding next_roll as_send
roll_goes t s a w =
    let generation = rolls s.history.events a + 1 in
    cond_both (not (has t a)) (refused s (UnknownAs a)) (recorded s (event.Roll (s.steps + 1) a generation) (Rolled generation)) (λ n. IsWorld t n.state)
    (λ _. counted t s w)
    (λ _. one_event t s (event.Roll (s.steps + 1) a generation) w refl ((inv_others t s.history s.moment (s.steps + 1) (later t s w)).2 a generation))

-- ---- passages

-- passages send nothing
passed_sends : (t : Network) (step now : ℕ) (h : History) (place : Place) (bytes : List ℕ) → IsLawful h → IsRead bytes
    → sends_in (pass_at t step now h place bytes).history ≡ sends_in h
unfolding pass_at left arrives as_send
passed_sends t step now h (Router a iface) bytes lawful read =
    after_turn t step now h a iface bytes (λ g. sends_in g ≡ sends_in h) read refl
    (λ turn due hops generations acc _. same_sends h step a (length h.emissions + 1) (parse bytes).current _ (record { place = due; bytes = spelling (packet_after t a turn (parse bytes)) }) (lawful_there h lawful))
passed_sends t step now h (Host d) bytes lawful read =
    after_arrival t step now h d bytes (λ g. sends_in g ≡ sends_in h) refl
    (λ answer checked _ _. none_behind (as_send h.emissions) h.events (event.Arrive step d (parse bytes).src (parse bytes).ts (hop_count (parse bytes)) checked ∷ [])
    (only (event.Arrive step d (parse bytes).src (parse bytes).ts (hop_count (parse bytes)) checked) refl))
  where
    only : (e : Event) → as_send h.emissions e ≡ None → (n : ℕ) (c : Event) → slice_get (e ∷ []) n ≡ Some c → as_send h.emissions c ≡ None
    only e none zero c at = ap (as_send h.emissions) (sym (same_Some e c at)) ∙ none
    only e none (suc n) c at = absurd (cc)

passing_goes : (t : Network) (s : State) (place : Place) (bytes : List ℕ) → IsTopology t → IsDue t place → IsRead bytes → IsWorld t s
    → IsWorld t (passing t s place bytes).state
unfolding passing
passing_goes t s place bytes topology due read w =
    goes_on t s (pass_at t (s.steps + 1) s.moment s.history place bytes).history w
    (inv_passes t s.history s.moment (s.steps + 1) place bytes topology due read (later t s w))
    (passed_sends t (s.steps + 1) s.moment s.history place bytes w.inv.sound.lawful read)

turn_goes : (t : Network) (s : State) (a : AsId) (iface : ℕ) (bytes : List ℕ) → IsTopology t → IsBytes bytes → IsWorld t s
    → IsWorld t (next_turn t s a iface bytes).state
unfolding next_turn
turn_goes t s a iface bytes topology are w =
    cond_both (not (has t a)) (refused s (UnknownAs a)) (passing t s (Router a iface) bytes) (λ n. IsWorld t n.state)
    (λ _. counted t s w)
    (λ known. passing_goes t s (Router a iface) bytes topology (not-false (has t a) known) (bytes_are_read bytes are) w)

arrive_goes : (t : Network) (s : State) (d : HostId) (bytes : List ℕ) → IsTopology t → IsBytes bytes → IsWorld t s
    → IsWorld t (next_arrive t s d bytes).state
unfolding next_arrive
arrive_goes t s d bytes topology are w =
    cond_both (not (has t d.asn)) (refused s (UnknownAs d.asn)) (passing t s (Host d) bytes) (λ n. IsWorld t n.state)
    (λ _. counted t s w)
    (λ known. passing_goes t s (Host d) bytes topology (not-false (has t d.asn) known) (bytes_are_read bytes are) w)

pass_goes : (t : Network) (s : State) (number : ℕ) → IsTopology t → IsWorld t s → IsWorld t (next_pass t s number).state
unfolding next_pass
pass_goes t s number topology w = by (emission_at s.history.emissions number) refl
  where
    by : (o : Option Emission) → emission_at s.history.emissions number ≡ o
        → IsWorld t (option_map_or (λ e. passing t s e.place e.bytes) o (refused s (UnknownEmission number))).state
    by None e = counted t s w
    by (Some x) e =
        let fits = there_fits t s.history number x w.inv.sound.lawful.packets w.inv.places e in
        passing_goes t s x.place x.bytes topology fits.0 fits.1 w

-- ---- carries

-- what an emission's passage leaves, and that it is judged
record Passes (t : Network) (step now : ℕ) (h : History) (number : ℕ) (d : Happened) : Type 0 where
  inv : Inv t d.history now step
  sends : sends_in d.history ≡ sends_in h
  judged : All (IsJudged t) (option_map_or (λ e. record { before = h; place = e.place; came = e.bytes; happened = d } ∷ []) (emission_at h.emissions number) [])

emission_passes : (t : Network) (step now : ℕ) (h : History) (number : ℕ) → IsTopology t → Inv t h now step → Passes t step now h number (passed_on t step now h number)
unfolding passed_on
emission_passes t step now h number topology inv = by (emission_at h.emissions number) refl
  where
    by : (o : Option Emission) → emission_at h.emissions number ≡ o
        → Passes t step now h number (option_map_or (λ e. pass_at t step now h e.place e.bytes) o (nothing h Full))
    by None e = record {
      inv = inv;
      sends = refl;
      judged = subst (λ o. All (IsJudged t) (option_map_or (λ x. record { before = h; place = x.place; came = x.bytes; happened = nothing h Full } ∷ []) o [])) (sym e) (All-nil (IsJudged t));
    }
    by (Some x) e =
        let fits = there_fits t h number x inv.sound.lawful.packets inv.places e in
        let d = pass_at t step now h x.place x.bytes in
        record {
          inv = inv_passes t h now step x.place x.bytes topology fits.0 fits.1 inv;
          sends = passed_sends t step now h x.place x.bytes inv.sound.lawful fits.1;
          judged = subst (λ o. All (IsJudged t) (option_map_or (λ y. record { before = h; place = y.place; came = y.bytes; happened = d } ∷ []) o [])) (sym e)
              (All-cons (IsJudged t) (record { before = h; place = x.place; came = x.bytes; happened = d }) [] (passed_judged t step now h x.place x.bytes fits.1 inv.sound) (All-nil (IsJudged t)));
        }

pub record Carries (t : Network) (step now : ℕ) (h : History) (number : ℕ) (ds : List Happened) : Type 0 where
  pub inv : Inv t (last_history h ds) now step
  pub sends : sends_in (last_history h ds) ≡ sends_in h
  pub judged : All (IsJudged t) (passages_of h number ds)

none_carried : (t : Network) (step now : ℕ) (h : History) (number : ℕ) → Inv t h now step → Carries t step now h number []
unfolding passages_of
none_carried t step now h number inv = record { inv = inv; sends = refl; judged = All-nil (IsJudged t) }

one_carried : (t : Network) (step now : ℕ) (h : History) (number : ℕ) (d : Happened) (ds : List Happened) → Passes t step now h number d
    → Carries t step now d.history d.emission ds → Carries t step now h number (d ∷ ds)
unfolding passages_of
one_carried t step now h number d ds p rest = record {
  inv = rest.inv;
  sends = rest.sends ∙ p.sends;
  judged = All-append (IsJudged t) _ _ p.judged rest.judged;
}

pub all_carried : (t : Network) (step now most : ℕ) (h : History) (number : ℕ) → IsTopology t → Inv t h now step
    → Carries t step now h number (carried t step now most h number)
unfolding carried
all_carried t step now zero h number topology inv = none_carried t step now h number inv
all_carried t step now (suc most) h number topology inv =
    let d = passed_on t step now h number in
    let p = emission_passes t step now h number topology inv in
    one_carried t step now h number d _ p
    (cond_both (d.emission == 0) [] (carried t step now most d.history d.emission) (Carries t step now d.history d.emission)
    (λ _. none_carried t step now d.history d.emission p.inv)
    (λ _. all_carried t step now most d.history d.emission topology p.inv))

carry_goes : (t : Network) (s : State) (number : ℕ) → IsTopology t → IsWorld t s → IsWorld t (next_carry t s number).state
unfolding next_carry carrying
carry_goes t s number topology w = by (emission_at s.history.emissions number)
  where
    by : (o : Option Emission) → IsWorld t (option_map_or (λ e. carrying t s number) o (refused s (UnknownEmission number))).state
    by None = counted t s w
    by (Some x) =
        let ds = carried t (s.steps + 1) s.moment 33 s.history number in
        let all = all_carried t (s.steps + 1) s.moment 33 s.history number topology (later t s w) in
        goes_on t s (last_history s.history ds) w all.inv all.sends

-- ---- sends

-- the numbers' segments are there, one for each
segments_there : (beacons : List Beacon) (numbers : List ℕ) (all : List Segment) → segments_of beacons numbers ≡ Ok all
    → map (segment beacons) numbers ≡ map (λ s. Ok s) all
unfolding segments_of
segments_there beacons [] all e = (let same : ◌≡◌ {A = List Segment} [] all = cc in ap (map (λ s. Ok s)) same)
segments_there beacons (number ∷ numbers) all e =
    by (segment beacons number) (segments_of beacons numbers) refl refl (λ others rest. segments_there beacons numbers others rest) e
  where
    by : (one : Result Segment SegmentError) (rest : Result (List Segment) ℕ) → segment beacons number ≡ one → segments_of beacons numbers ≡ rest
        → ((others : List Segment) → segments_of beacons numbers ≡ Ok others → map (segment beacons) numbers ≡ map (λ s. Ok s) others)
        → before_segments number one rest ≡ Ok all → map (segment beacons) (number ∷ numbers) ≡ map (λ s. Ok s) all
    by (Ok first) (Ok others) one rest again e =
        let same : first ∷ others ≡ all = cc in
        let tail = again others rest in
        (λ i. one i ∷ tail i) ∙ ap (map (λ s. Ok s)) same
    by (Ok first) (Err n) one rest again e = absurd (cc)
    by (Err x) rest one rest_is again e = absurd (cc)

-- a timestamp is at most one more than the greatest of the earlier ones, or this moment
bounded : (sends : List Sent) (src : HostId) (most : ℕ) → ((n : ℕ) (x : Sent) → slice_get sends n ≡ Some x → x.packet.ts ≤ most)
    → (m : ℕ) → latest_sent sends src ≡ Some m → m ≤ most
bounded [] src most each m e = absurd (cc)
bounded (x ∷ sends) src most each m e =
    ⊎_elim
    (λ here. (let is = sym (cond-true (same_host x.packet.src src) (Some (option_map_or (max x.packet.ts) (latest_sent sends src) x.packet.ts)) (latest_sent sends src) here) ∙ e in
    let same = same_Some _ m is in
    subst (λ k. k ≤ most) same (greatest (latest_sent sends src) refl (λ k was. bounded sends src most (λ n y at. each (suc n) y at) k was))))
    (λ other. (let is = sym (cond-false (same_host x.packet.src src) (Some (option_map_or (max x.packet.ts) (latest_sent sends src) x.packet.ts)) (latest_sent sends src) other) ∙ e in
    bounded sends src most (λ n y at. each (suc n) y at) m is))
    (cases_Bool (same_host x.packet.src src))
  where
    greatest : (o : Option ℕ) → latest_sent sends src ≡ o → ((k : ℕ) → latest_sent sends src ≡ Some k → k ≤ most) → option_map_or (max x.packet.ts) o x.packet.ts ≤ most
    greatest None is again = each 0 x refl
    greatest (Some k) is again =
        let rest = again k is in
        let first = each 0 x refl in
        omega (arith, rest, first)

ts_small : (t : Network) (s : State) (src : HostId) → IsWorld t s → ts_next s src ≤ s.moment + (s.steps + 1)
unfolding ts_next
ts_small t s src w = by (latest_sent (sends_in s.history) src) refl
  where
    by : (o : Option ℕ) → latest_sent (sends_in s.history) src ≡ o → next_ts o s.moment ≤ s.moment + (s.steps + 1)
    by None e = omega arith
    by (Some m) e = (let most = bounded (sends_in s.history) src (s.moment + s.steps) w.times m e in omega (arith, most))

-- what a source that doesn't refuse found
record Admitted (legs : List Leg) (src dst : HostId) (payload : List ℕ) (now_ts ts : ℕ) : Type 0 where
  leads : path_end legs ≡ dst.asn
  fits : length payload ≤ MAX_PAYLOAD
  ts_is : now_ts ≡ ts

was_admitted : (t : Network) (s : State) (version : ℕ) (level : Level) (src dst : HostId) (payload : List ℕ) (legs : List Leg) (ts : ℕ)
    → admission t s version level src dst payload legs ≡ Ok ts → Admitted legs src dst payload (ts_next s src) ts
unfolding admission admitted send_rows end_rows
was_admitted t s version level src dst payload legs ts e =
    let rows = send_rows (has_keys t s src) (epoch_of t.profile (ts_next s src)) legs (first_byte version level) src dst payload s.moment in
    let told = unless_ok (first_row rows) (ts_next s src) ts e in
    let others = expiry_rows legs s.moment ++ (if is_tagged (first_byte version level) then key_rows (has_keys t s src) (epoch_of t.profile (ts_next s src)) (key_owners legs dst) else []) in
    let ends = (all_passed (end_rows legs src dst payload) others told.0).0 in
    by (same_as (path_start legs) src.asn && same_as (path_end legs) dst.asn) (nat_lt MAX_PAYLOAD (length payload)) refl refl ends told.1
  where
    by : (a b : Bool) → (same_as (path_start legs) src.asn && same_as (path_end legs) dst.asn) ≡ a → nat_lt MAX_PAYLOAD (length payload) ≡ b
        → first_row ((not a, WrongEnds) ∷ (b, PayloadTooLong) ∷ []) ≡ None → ts_next s src ≡ ts → Admitted legs src dst payload (ts_next s src) ts
    by true false ends short none is = record {
      leads = (same_as-Decides (path_end legs) dst.asn).0 (and_parts (same_as (path_start legs) src.asn) (same_as (path_end legs) dst.asn) ends).1;
      fits = ltb-false MAX_PAYLOAD (length payload) short;
      ts_is = is;
    }
    by true true ends short none is = absurd (cc)
    by false b ends short none is = absurd (cc)

module _ (t : Network) (s : State) (version : ℕ) (level : Level) (src dst : HostId) (numbers : ArrayVec ℕ) (payload : List ℕ)
    (topology : IsTopology t) (exists : is_first_byte (first_byte version level) ≡ true) (src_fits : IsHost src) (dst_fits : IsHost dst)
    (room : s.steps + 1 < most_steps) (w : IsWorld t s) (known : has t src.asn ≡ true) where
  sent_goes : (segments : List Segment) (legs : List Leg) (ts : ℕ)
      → segments_of (beacons_in t (issues_in s.history.events)) numbers.items ≡ Ok segments → joined src.asn segments ≡ Ok legs
      → Admitted legs src dst payload (ts_next s src) ts
      → IsWorld t (emitted_by s numbers (sent_packet t legs version level src dst ts payload)).state
  unfolding emitted_by sent_packet packet_over unfilled ts_next
  sent_goes segments legs ts found path is =
      let p = sent_packet t legs version level src dst ts payload in
      let early = ts_small t s src w in
      let small : ts < 2 ^ 64 = (let most = w.moment_fits in let same = is.ts_is in omega (arith, early, most, same, room)) in
      let sendable : IsSendable t s.history version level src dst ts numbers.items legs payload = record {
        segments = segments;
        ended = segments_there (beacons_in t (issues_in s.history.events)) numbers.items segments found;
        path = path;
        leads = is.leads;
        known = known;
        exists = exists;
        src_fits = src_fits;
        dst_fits = dst_fits;
        ts_fits = small;
        payload_fits = is.fits;
      } in
      let unsent : IsUnsent (sends_in s.history) p = next_is_unsent (sends_in s.history) s.moment p (sym is.ts_is) in
      cond_both (nat_lt most_emitted (emitted s.history.emissions + length (spelling p))) (refused s FullRefusal)
      (record { answer = SentAnswer (length s.history.emissions + 1) p.ts; state = record s { steps = s.steps + 1; history = sent_at (s.steps + 1) s.history numbers p }; passages = [] })
      (λ n. IsWorld t n.state)
      (λ _. counted t s w)
      (λ _. record {
        inv = inv_sends t s.history s.moment (s.steps + 1) version level src dst ts numbers legs payload topology sendable unsent (later t s w);
        moment_fits = w.moment_fits;
        times = λ n x at.
            ⊎_elim
            (λ old. (let was = w.times n x old in omega (arith, was)))
            (λ new. (let is_ts : x.packet.ts ≡ ts = ap (λ (q : Contents). q.ts) new in let same = is.ts_is in omega (arith, is_ts, same, early)))
            (sends_after t s.history s.moment (s.steps + 1) version level src dst ts numbers legs payload sendable unsent (later t s w) n x at);
      })

  admitted_goes : (segments : List Segment) (legs : List Leg) (answer : Result ℕ SendError)
      → segments_of (beacons_in t (issues_in s.history.events)) numbers.items ≡ Ok segments → joined src.asn segments ≡ Ok legs
      → admission t s version level src dst payload legs ≡ answer
      → IsWorld t (sent_by t s version level src dst numbers payload legs answer).state
  admitted_goes segments legs (Ok ts) found path is = sent_goes segments legs ts found path (was_admitted t s version level src dst payload legs ts is)
  admitted_goes segments legs (Err e) found path is = counted t s w

  over_path_goes : (segments : List Segment) (path : Result (List Leg) PathError)
      → segments_of (beacons_in t (issues_in s.history.events)) numbers.items ≡ Ok segments → joined src.asn segments ≡ path
      → IsWorld t (over_path t s version level src dst numbers payload path).state
  over_path_goes segments (Ok legs) found path = admitted_goes segments legs (admission t s version level src dst payload legs) found path refl
  over_path_goes segments (Err e) found path = counted t s w

  over_segments_goes : (told : Result (List Segment) ℕ) → segments_of (beacons_in t (issues_in s.history.events)) numbers.items ≡ told
      → IsWorld t (over_segments t s version level src dst numbers payload told).state
  over_segments_goes (Ok segments) found = over_path_goes segments (joined src.asn segments) found refl
  over_segments_goes (Err n) found = counted t s w

send_goes : (t : Network) (s : State) (version : ℕ) (level : Level) (src dst : HostId) (numbers : ArrayVec ℕ) (payload : List ℕ)
    → IsTopology t → Fits (command.Send version level src dst numbers payload) → s.steps + 1 < most_steps → IsWorld t s
    → IsWorld t (next_send t s version level src dst numbers payload).state
unfolding next_send
send_goes t s version level src dst numbers payload topology fits room w = by (has t src.asn) (has t dst.asn) refl
  where
    by : (a b : Bool) → has t src.asn ≡ a
        → IsWorld t (if not a then refused s (UnknownAs src.asn)
        else if not b then refused s (UnknownAs dst.asn)
        else over_segments t s version level src dst numbers payload (segments_of (beacons_in t (issues_in s.history.events)) numbers.items)).state
    by false b known = counted t s w
    by true false known = counted t s w
    by true true known =
        over_segments_goes t s version level src dst numbers payload topology fits.0 fits.1.0 fits.1.1.0 room w known
        (segments_of (beacons_in t (issues_in s.history.events)) numbers.items) refl

-- ---- all

pub worlds_go_on : WorldsGoOn
unfolding next
worlds_go_on t s (command.At moment) topology fits room w = at_goes t s moment fits w
worlds_go_on t s (command.Originate a out exp) topology fits room w = originate_goes t s a out exp topology fits w
worlds_go_on t s (command.Extend parent out exp) topology fits room w = extend_goes t s parent out exp topology fits w
worlds_go_on t s (command.Fetch source owner epoch) topology fits room w = fetch_goes t s source owner epoch w
worlds_go_on t s (command.Paths from to) topology fits room w = paths_goes t s from to w
worlds_go_on t s (command.Send version level src dst segments payload) topology fits room w = send_goes t s version level src dst segments payload topology fits room w
worlds_go_on t s (command.Turn a iface bytes) topology fits room w = turn_goes t s a iface bytes topology fits w
worlds_go_on t s (command.Arrive host bytes) topology fits room w = arrive_goes t s host bytes topology fits w
worlds_go_on t s (command.Pass emission) topology fits room w = pass_goes t s emission topology w
worlds_go_on t s (command.Carry emission) topology fits room w = carry_goes t s emission topology w
worlds_go_on t s (command.Reveal holder) topology fits room w = reveal_goes t s holder w
worlds_go_on t s (command.Roll a) topology fits room w = roll_goes t s a w
