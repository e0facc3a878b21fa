-- The answers of steps can be told, and have few verdicts.
use Rattle.std.proofs.Common.{◌≡◌, ℕ, ◌+◌, ◌*◌, ◌/◌, ◌^◌, ◌<◌, ◌≤◌, inl, inr, Bool, true, false, not, List, [], ◌∷◌, ◌++◌, length, Option, None, Some, Ok, Err, IsTrue, refl, ap, sym, subst, ◌∙◌, arith}
use Rattle.std.specs.Prelude.{nat_lt, if◌then◌else◌, Result, option_map, ⊤}
use Rattle.std.specs.List.{All}
use Rattle.std.specs.Option.{option_map_or}
use Rattle.std.proofs.lemmas.Bool.{cond_both, not-false}
use Rattle.arrayvec.specs.ArrayVec.{ArrayVec}
use Rattle.epic_num.specs.declared.answer.Answer.{Answer}
use Rattle.epic_num.specs.declared.answer.Answer.TheVariants as answer
use Rattle.epic_num.specs.declared.answer.Answer.TheVariants.{Fetched, Known, Paths, Revealed, Rolled, Sent as SentAnswer}
use Rattle.epic_num.specs.declared.answer.Refusal.TheVariants.{UnknownAs, TooManyPaths, Full as FullRefusal, UnknownEmission}
use Rattle.epic_num.specs.declared.beacon_error.BeaconError.{BeaconError}
use Rattle.epic_num.specs.declared.command.Command.{Command}
use Rattle.epic_num.specs.declared.command.Command.TheVariants as command
use Rattle.epic_num.specs.declared.hop.HopName.{HopName}
use Rattle.epic_num.specs.declared.hop.Level.{Level}
use Rattle.epic_num.specs.declared.key_name.Holder.{Holder}
use Rattle.epic_num.specs.declared.name.AsId.{AsId}
use Rattle.epic_num.specs.declared.name.HostId.{HostId}
use Rattle.epic_num.specs.declared.passed.Passed.{Passed}
use Rattle.epic_num.specs.declared.passed.Place.{Place}
use Rattle.epic_num.specs.declared.passed.Place.TheVariants.{Router, Host}
use Rattle.epic_num.specs.declared.path_error.PathError.{PathError}
use Rattle.epic_num.specs.declared.path_ref.PathRef.{PathRef}
use Rattle.epic_num.specs.declared.segment.Leg.{Leg}
use Rattle.epic_num.specs.declared.segment.Segment.{Segment}
use Rattle.epic_num.specs.declared.send_error.SendError.{SendError}
use Rattle.epic_num.specs.Chains.{Issue, issue_at, name_of}
use Rattle.epic_num.proofs.ChainLaws.{issue_at-next}
use Rattle.epic_layout.specs.Contents.{Contents, IsBytes}
use Rattle.epic_layout.specs.Reading.{IsRead}
use Rattle.epic_layout.specs.Spelling.{spelling}
use Rattle.epic_layout.proofs.OneSpelling.{bytes_are_read}
use Rattle.epic_topo.specs.Lawful.{IsTopology}
use Rattle.epic_topo.specs.Network.{Network, has}
use Rattle.epic_keys.specs.Fetches.{is_known}
use Rattle.epic_beacon.specs.declared.beacon.Beacon.{Beacon}
use Rattle.epic_beacon.specs.Issuing.{originated, extended}
use Rattle.epic_beacon.specs.Laws.{IsIssued}
use Rattle.epic_beacon.specs.Segments.{segments}
use Rattle.epic_beacon.specs.Told.{beacons_in}
use Rattle.epic_path.specs.Joins.{joined}
use Rattle.epic_path.specs.Routes.{all_lawful}
use Rattle.epic_ends.specs.Sending.{sent_packet}
use Rattle.epic_ledger.specs.History.{Emission, History, emission_at, emitted}
use Rattle.epic_ledger.specs.Facts.{as_issue, facts_of, issues_in, reveals_in}
use Rattle.epic_ledger.specs.declared.event.Event.TheVariants as event
use Rattle.epic_audit.specs.Reveals.{is_revealed}
use Rattle.epic_audit.proofs.Lists.{one_more}
use Rattle.epic_model.specs.Keeping.{IsDue, store_in, sent_at}
use Rattle.epic_model.specs.Passing.{most_emitted, rolls, pass_at}
use Rattle.epic_model.specs.State.{State, is_fetched_in}
use Rattle.epic_model.specs.Steps.{next, next_at, issued, next_originate, next_extend, next_fetch, most_paths, found, next_paths, segments_of, emitted_by, sent_by, admission, over_path, over_segments, next_send, passing, next_turn, next_arrive, next_pass, carrying, next_carry, as_of, next_reveal, next_roll}
use Rattle.epic_model.specs.Traces.{shown, Stepped, answered, refused, recorded}
use Rattle.epic_model.specs.World.{Fits, IsWorld}
use Rattle.epic_model.proofs.Stepping.{later}
use Rattle.epic_model.proofs.InvIssued.{inv_issues}
use Rattle.epic_model.proofs.InvKept.{there_fits}
use Rattle.epic_text.specs.Report.{IsKnownHop, IsToldAnswer, IsToldCarry, emission_bytes, bytes_in}
use Rattle.epic_app.specs.RunReport.{verdicts_in}
use Rattle.epic_app.specs.Noting.{coming, passes_after, passes_told}
use Rattle.epic_app.specs.Telling.{AreTold}
use Rattle.epic_app.specs.Policed.{IsNotablePass}
use Rattle.epic_app.proofs.ToldPasses.{AreNotable, all_notable, verdicts_of, shown_told, shown_notable, passed_told, passed_stays, bytes_stay, all_carried_told, few_carried}

-- ---- what is kept

-- how many verdicts an answer has at most: two of each passage
abbrev pub most_verdicts : ℕ
most_verdicts = 66

few_passed : {n : ℕ} → n ≤ 2 → n ≤ most_verdicts
few_passed few = omega (arith, few)

few_all : {n k : ℕ} → n ≤ 2 * k → k ≤ 33 → n ≤ most_verdicts
few_all few many = omega (arith, few, many)

-- there are no more
abbrev AreFew : Answer → Type 0
AreFew (answer.Passed passed) = length passed.verdicts.items ≤ most_verdicts
AreFew (answer.Carried passes) = length (verdicts_of passes) ≤ most_verdicts
AreFew answer.Moment = ⊤
AreFew (answer.Issued number) = ⊤
AreFew answer.Fetched = ⊤
AreFew answer.Known = ⊤
AreFew (answer.Paths paths) = ⊤
AreFew (answer.Sent emission ts) = ⊤
AreFew answer.Revealed = ⊤
AreFew (answer.Rolled generation) = ⊤
AreFew (answer.Refused refusal) = ⊤

-- the answer of a step can be told and noted, where these bytes came, and has few verdicts
abbrev IsTold : Network → List ℕ → Stepped → Type 0
IsTold t came n =
    IsToldAnswer t n.state.history came n.answer
    × (AreFew n.answer × AreNotable t (emission_bytes n.state.history.emissions) came (passes_told n.answer))

-- ---- issues

known_hop : (t : Network) (o : Option HopName) (x : HopName) → o ≡ Some x → IsTrue (has t x.asn)
    → IsKnownHop t o
known_hop t o x is here = subst (IsKnownHop t) (sym is) here

issued_told : (t : Network) (s : State) (came : List ℕ) (out exp : ℕ)
    (told : Result Beacon BeaconError) → IsTopology t → out < 2 ^ 16 → exp < 2 ^ 8 → IsWorld t s
    → ((b : Beacon) → told ≡ Ok b → IsIssued t (store_in t s.history) out exp s.moment b)
    → IsTold t came (issued s told)
unfolding as_issue facts_of name_of
issued_told t s came out exp (Ok b) topology out_fits exp_fits w is =
    let issues = issues_in s.history.events in
    let number = length issues + 1 in
    let e = event.Issue (s.steps + 1) number b.name b.parent in
    let i : Issue = record { name = b.name; parent = b.parent } in
    let small : s.moment / 1000000 < 2 ^ 32 = (let most = w.moment_fits in omega (arith, most)) in
    let inv = inv_issues t s.history s.moment
    (s.steps + 1) out exp b topology out_fits exp_fits small (is b refl) (later t s w) in
    let more : issues_in (s.history.events ++ e ∷ []) ≡ issues ++ i ∷ []
    = one_more as_issue s.history.events e i refl in
    let there : issue_at (issues_in (s.history.events ++ e ∷ [])) number ≡ Some i = ap
    (λ l. issue_at l number) more ∙ issue_at-next issues i in (
      known_hop t (name_of (issues_in (s.history.events ++ e ∷ [])) number) b.name
          (ap (option_map (λ (k : Issue). k.name)) there)
          (inv.sound.kept.issues number i there).known,
      (tt, tt),
    )
issued_told t s came out exp (Err e) topology out_fits exp_fits w is = (tt, (tt, tt))

originate_told : (t : Network) (s : State) (came : List ℕ) (a : AsId) (out exp : ℕ) → IsTopology t
    → (out < 2 ^ 16) × (exp < 2 ^ 8) → IsWorld t s
    → IsTold t came (next_originate t s a out exp)
unfolding next_originate
originate_told t s came a out exp topology fits w =
    cond_both (not (has t a)) (refused s (UnknownAs a))
    (issued s (originated t (store_in t s.history) a out exp s.moment)) (IsTold t came)
    (λ _. (tt, (tt, tt)))
    (λ _. issued_told t s came out exp
    (originated t (store_in t s.history) a out exp s.moment) topology fits.0 fits.1 w
    (λ b e. inl (a, e)))

extend_told : (t : Network) (s : State) (came : List ℕ) (parent out exp : ℕ) → IsTopology t
    → (out < 2 ^ 16) × (exp < 2 ^ 8) → IsWorld t s
    → IsTold t came (next_extend t s parent out exp)
unfolding next_extend
extend_told t s came parent out exp topology fits w =
    issued_told t s came out exp
    (extended t (store_in t s.history) parent out exp s.moment) topology fits.0 fits.1 w
    (λ b e. inr (parent, e))

-- ---- steps that show no tag

at_told : (t : Network) (s : State) (came : List ℕ) (moment : ℕ) → IsTold t came (next_at s moment)
unfolding next_at
at_told t s came moment = (tt, (tt, tt))

fetch_told : (t : Network) (s : State) (came : List ℕ) (source owner : AsId) (epoch : ℕ)
    → IsTold t came (next_fetch t s source owner epoch)
unfolding next_fetch
fetch_told t s came source owner epoch =
    by (has t source) (has t owner)
    (is_known (is_fetched_in s.history.events)
    (record { source = source; owner = owner; epoch = epoch }))
  where
    by : (a b c : Bool)
        → IsTold t came (if not a then refused s (UnknownAs source)
        else if not b then refused s (UnknownAs owner)
        else if c then answered s Known
        else recorded s (event.Fetch (s.steps + 1) source owner epoch) Fetched)
    by false b c = (tt, (tt, tt))
    by true false c = (tt, (tt, tt))
    by true true true = (tt, (tt, tt))
    by true true false = (tt, (tt, tt))

paths_told : (t : Network) (s : State) (came : List ℕ) (from to : AsId)
    → IsTold t came (next_paths t s from to)
unfolding next_paths
paths_told t s came from to = by (has t from) (has t to)
    (all_lawful (segments (beacons_in t (issues_in s.history.events))) from to)
  where
    by : (a b : Bool) (paths : List PathRef)
        → IsTold t came
        (if not a then refused s (UnknownAs from) else if not b then refused s
        (UnknownAs to) else found s paths)
    by false b paths = (tt, (tt, tt))
    by true false paths = (tt, (tt, tt))
    by true true paths =
        cond_both (nat_lt most_paths (length paths)) (refused s TooManyPaths)
        (answered s (Paths paths)) (IsTold t came) (λ _. (tt, (tt, tt))) (λ _. (tt, (tt, tt)))

reveal_told : (t : Network) (s : State) (came : List ℕ) (holder : Holder)
    → IsTold t came (next_reveal t s holder)
unfolding next_reveal
reveal_told t s came holder = by (has t (as_of holder))
    (is_revealed (reveals_in s.history.events) holder)
  where
    by : (a b : Bool)
        → IsTold t came (if not a then refused s (UnknownAs (as_of holder))
        else if b then answered s Known
        else recorded s (event.Reveal (s.steps + 1) holder) Revealed)
    by false b = (tt, (tt, tt))
    by true true = (tt, (tt, tt))
    by true false = (tt, (tt, tt))

roll_told : (t : Network) (s : State) (came : List ℕ) (a : AsId) → IsTold t came (next_roll t s a)
unfolding next_roll
roll_told t s came a =
    let generation = rolls s.history.events a + 1 in
    cond_both (not (has t a)) (refused s (UnknownAs a))
    (recorded s (event.Roll (s.steps + 1) a generation) (Rolled generation)) (IsTold t came)
    (λ _. (tt, (tt, tt))) (λ _. (tt, (tt, tt)))

emitted_told : (t : Network) (s : State) (came : List ℕ) (numbers : ArrayVec ℕ) (p : Contents)
    → IsTold t came (emitted_by s numbers p)
unfolding emitted_by
emitted_told t s came numbers p =
    cond_both (nat_lt most_emitted (emitted s.history.emissions + length (spelling p)))
    (refused s FullRefusal)
    (record {
      answer = SentAnswer
          (length s.history.emissions + 1) p.ts;
      state
          = record s {
            steps = s.steps + 1;
            history = sent_at
                (s.steps + 1) s.history numbers p;
          };
      passages = [];
    })
    (IsTold t came)
    (λ _. (tt, (tt, tt))) (λ _. (tt, (tt, tt)))

module _ (t : Network) (s : State) (came : List ℕ) (version : ℕ) (level : Level) (src dst : HostId)
    (numbers : ArrayVec ℕ) (payload : List ℕ) where
  sent_told : (legs : List Leg) (told : Result ℕ SendError)
      → IsTold t came (sent_by t s version level src dst numbers payload legs told)
  sent_told legs (Ok ts) = emitted_told t s came numbers
      (sent_packet t legs version level src dst ts payload)
  sent_told legs (Err e) = (tt, (tt, tt))

  over_path_told : (told : Result (List Leg) PathError)
      → IsTold t came (over_path t s version level src dst numbers payload told)
  over_path_told (Ok legs) = sent_told legs (admission t s version level src dst payload legs)
  over_path_told (Err e) = (tt, (tt, tt))

  over_segments_told : (told : Result (List Segment) ℕ)
      → IsTold t came (over_segments t s version level src dst numbers payload told)
  over_segments_told (Ok segments) = over_path_told (joined src.asn segments)
  over_segments_told (Err n) = (tt, (tt, tt))

  send_told : IsTold t came (next_send t s version level src dst numbers payload)
  unfolding next_send
  send_told = by (has t src.asn) (has t dst.asn)
    where
      by : (a b : Bool)
          → IsTold t came (if not a then refused s (UnknownAs src.asn)
          else if not b then refused s (UnknownAs dst.asn)
          else over_segments t s version level src dst numbers payload
          (segments_of (beacons_in t (issues_in s.history.events)) numbers.items))
      by false b = (tt, (tt, tt))
      by true false = (tt, (tt, tt))
      by true true = over_segments_told
          (segments_of (beacons_in t (issues_in s.history.events)) numbers.items)

-- ---- passages

passing_told : (t : Network) (s : State) (place : Place) (bytes : List ℕ) → IsDue t place
    → IsRead bytes → IsWorld t s
    → IsTold t bytes (passing t s place bytes)
unfolding passing shown
passing_told t s place bytes due read w =
    let d = pass_at t (s.steps + 1) s.moment s.history place bytes in
    let told = passed_told t (s.steps + 1) s.moment s.history place bytes due read
    (later t s w).sound in (
      shown_told t
          (record { before = s.history; place = place; came = bytes; happened = d }) told,
      (
        few_passed told.few,
        (shown_notable t (record { before = s.history; place = place; came = bytes; happened = d }) told, tt),
      ),
    )

turn_step_told : (t : Network) (s : State) (a : AsId) (iface : ℕ) (bytes : List ℕ) → IsBytes bytes
    → IsWorld t s → IsTold t bytes (next_turn t s a iface bytes)
unfolding next_turn
turn_step_told t s a iface bytes are w =
    cond_both (not (has t a)) (refused s (UnknownAs a)) (passing t s (Router a iface) bytes)
    (IsTold t bytes)
    (λ _. (tt, (tt, tt)))
    (λ known. passing_told t s (Router a iface) bytes (not-false (has t a) known)
    (bytes_are_read bytes are) w)

arrive_step_told : (t : Network) (s : State) (d : HostId) (bytes : List ℕ) → IsBytes bytes
    → IsWorld t s → IsTold t bytes (next_arrive t s d bytes)
unfolding next_arrive
arrive_step_told t s d bytes are w =
    cond_both (not (has t d.asn)) (refused s (UnknownAs d.asn)) (passing t s (Host d) bytes)
    (IsTold t bytes)
    (λ _. (tt, (tt, tt)))
    (λ known. passing_told t s (Host d) bytes (not-false (has t d.asn) known)
    (bytes_are_read bytes are) w)

-- where the bytes of an emission came, those that it has after the step
abbrev IsToldOf : Network → ℕ → Stepped → Type 0
IsToldOf t number n = IsTold t (emission_bytes n.state.history.emissions number) n

passing_of : (t : Network) (s : State) (number : ℕ) (x : Emission)
    → emission_at s.history.emissions number ≡ Some x → IsWorld t s
    → IsToldOf t number (passing t s x.place x.bytes)
unfolding passing
passing_of t s number x there w =
    let fits = there_fits t s.history number x w.inv.sound.lawful.packets w.inv.places there in
    let stays = passed_stays t (s.steps + 1) s.moment s.history x.place x.bytes fits.1 in
    subst (λ came. IsTold t came (passing t s x.place x.bytes))
    (sym (bytes_stay s.history.emissions _ number x stays there))
    (passing_told t s x.place x.bytes fits.0 fits.1 w)

pass_step_told : (t : Network) (s : State) (number : ℕ) → IsWorld t s
    → IsToldOf t number (next_pass t s number)
unfolding next_pass
pass_step_told t s number w = by (emission_at s.history.emissions number) refl
  where
    by : (o : Option Emission) → emission_at s.history.emissions number ≡ o
        → IsToldOf t number
        (option_map_or (λ e. passing t s e.place e.bytes) o (refused s (UnknownEmission number)))
    by None e = (tt, (tt, tt))
    by (Some x) e = passing_of t s number x e w

carry_step_told : (t : Network) (s : State) (number : ℕ) → IsTopology t → IsWorld t s
    → IsToldOf t number (next_carry t s number)
unfolding next_carry carrying
carry_step_told t s number topology w = by (emission_at s.history.emissions number)
  where
    by : (o : Option Emission)
        → IsToldOf t number
        (option_map_or (λ e. carrying t s number) o (refused s (UnknownEmission number)))
    by None = (tt, (tt, tt))
    by (Some x) =
        let told = all_carried_told t (s.steps + 1) s.moment 33 s.history number topology
        (later t s w) in
        let many = few_carried t (s.steps + 1) s.moment 33 s.history number in
        (told.told, (few_all told.few many, told.notable))

-- ---- all steps

all_told : (t : Network) (s : State) (c : Command) → IsTopology t → Fits c → IsWorld t s
    → (let n = next t s c in IsTold t (bytes_in (emission_bytes n.state.history.emissions) c) n)
unfolding next bytes_in
all_told t s (command.At moment) topology fits w = at_told t s [] moment
all_told t s (command.Originate a out exp) topology fits w
    = originate_told t s [] a out exp topology fits w
all_told t s (command.Extend parent out exp) topology fits w
    = extend_told t s [] parent out exp topology fits w
all_told t s (command.Fetch source owner epoch) topology fits w
    = fetch_told t s [] source owner epoch
all_told t s (command.Paths from to) topology fits w = paths_told t s [] from to
all_told t s (command.Send version level src dst segments payload) topology fits w
    = send_told t s [] version level src dst segments payload
all_told t s (command.Turn a iface bytes) topology fits w = turn_step_told t s a iface bytes fits w
all_told t s (command.Arrive host bytes) topology fits w = arrive_step_told t s host bytes fits w
all_told t s (command.Pass emission) topology fits w = pass_step_told t s emission w
all_told t s (command.Carry emission) topology fits w = carry_step_told t s emission topology w
all_told t s (command.Reveal holder) topology fits w = reveal_told t s [] holder
all_told t s (command.Roll a) topology fits w = roll_told t s [] a

-- The lines of every answer can be printed, over the ledger after the step and the bytes that its
-- command brought.
pub answers_are_told : (t : Network) (s : State) (c : Command) → IsTopology t → Fits c → IsWorld t s
    → (let n = next t s c in IsToldAnswer t n.state.history
    (bytes_in (emission_bytes n.state.history.emissions) c) n.answer)
answers_are_told t s c topology fits w = (all_told t s c topology fits w).0

few_in : (a : Answer) → AreFew a → length (verdicts_in a) ≤ most_verdicts
unfolding verdicts_in
few_in answer.Moment few = omega arith
few_in (answer.Issued number) few = omega arith
few_in answer.Fetched few = omega arith
few_in answer.Known few = omega arith
few_in (answer.Paths paths) few = omega arith
few_in (answer.Sent emission ts) few = omega arith
few_in (answer.Passed passed) few = few
few_in (answer.Carried passes) few = few
few_in answer.Revealed few = omega arith
few_in (answer.Rolled generation) few = omega arith
few_in (answer.Refused refusal) few = omega arith

-- an answer has few verdicts, so that they can be counted
pub answers_are_few : (t : Network) (s : State) (c : Command) → IsTopology t → Fits c → IsWorld t s
    → length (verdicts_in (next t s c).answer) ≤ most_verdicts
answers_are_few t s c topology fits w = few_in (next t s c).answer
    (all_told t s c topology fits w).1.0

-- The passes of every answer can be noted.
pub answers_are_notable : (t : Network) (s : State) (c : Command) → IsTopology t → Fits c → IsWorld t s
    → (let n = next t s c in All (IsNotablePass t) (passes_after c n.answer n.state))
unfolding passes_after
answers_are_notable t s c topology fits w =
    let n = next t s c in
    let emissions = emission_bytes n.state.history.emissions in
    all_notable t emissions (bytes_in emissions c) (passes_told n.answer) (all_told t s c topology fits w).1.1

-- the verdicts of passes can be told
are_told : (t : Network) (emissions : ℕ → List ℕ) (came : List ℕ) (passes : List Passed) → IsToldCarry t emissions came passes → AreNotable t emissions came passes
    → AreTold t (coming emissions came passes)
are_told t emissions came [] told notable = tt
are_told t emissions came (passed ∷ more) (first, rest) (noted, others) =
    ((first, noted), are_told t emissions (emissions passed.emission) more rest others)

told_in : (t : Network) (h : History) (came : List ℕ) (a : Answer) → IsToldAnswer t h came a → AreNotable t (emission_bytes h.emissions) came (passes_told a)
    → AreTold t (coming (emission_bytes h.emissions) came (passes_told a))
told_in t h came (answer.Passed passed) told (noted, none) = ((told, noted), tt)
told_in t h came (answer.Carried passes) told notable = are_told t (emission_bytes h.emissions) came passes told notable
told_in t h came answer.Moment told notable = tt
told_in t h came (answer.Issued number) told notable = tt
told_in t h came answer.Fetched told notable = tt
told_in t h came answer.Known told notable = tt
told_in t h came (answer.Paths paths) told notable = tt
told_in t h came (answer.Sent emission ts) told notable = tt
told_in t h came answer.Revealed told notable = tt
told_in t h came (answer.Rolled generation) told notable = tt
told_in t h came (answer.Refused refusal) told notable = tt

-- The verdicts of every answer's passes can be told.
pub verdicts_can_be_told : (t : Network) (s : State) (c : Command) → IsTopology t → Fits c → IsWorld t s
    → (let n = next t s c in AreTold t (passes_after c n.answer n.state))
unfolding passes_after
verdicts_can_be_told t s c topology fits w =
    let n = next t s c in
    let all = all_told t s c topology fits w in
    told_in t n.state.history (bytes_in (emission_bytes n.state.history.emissions) c) n.answer all.0 all.1.1
