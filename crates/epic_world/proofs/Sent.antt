-- Packets that are sent: the segments of their paths, and the ledger after them.
use Rattle.std.proofs.Common.{◌≡◌, ℕ, ◌+◌, ◌*◌, ◌<◌, ◌≤◌, true, List, [], ◌∷◌, ◌++◌, length, refl, sym, ◌∙◌, ap, subst, arith, inl, inr}
use Rattle.std.specs.Prelude.{◌⊎◌, All, IsTrue, None, Result, Ok, Err}
use Rattle.std.proofs.lemmas.Bool.{cases_lt, le-ltb, lt-ltb}
use Rattle.std.proofs.lemmas.List.{length_push}
use Rattle.std.proofs.lemmas.List.Elements.{All-cons, All-nil, All-head, All-tail}
use Rattle.std.proofs.lemmas.List.Sums.{sum_by-cons, sum_by_push}
use Rattle.arrayvec.specs.ArrayVec.{ArrayVec}
use Rattle.epic_num.specs.declared.command.Command.TheVariants as command
use Rattle.epic_num.specs.declared.hop.Level.{Level}
use Rattle.epic_num.specs.declared.name.HostId.{HostId}
use Rattle.epic_num.specs.declared.passed.Place.TheVariants.{Router}
use Rattle.epic_num.specs.declared.segment.Leg.{Leg}
use Rattle.epic_num.specs.declared.segment.Segment.{Segment}
use Rattle.epic_num.specs.declared.send_error.SendError.{SendError}
use Rattle.epic_num.specs.Levels.{first_byte, is_first_byte}
use Rattle.epic_num.specs.Messages.{IsHost}
use Rattle.epic_num.specs.Segments.{is_well_formed}
use Rattle.epic_layout.specs.Contents.{Contents, IsBytes}
use Rattle.epic_layout.specs.Layout.{fault}
use Rattle.epic_layout.specs.Spelling.{spelling}
use Rattle.epic_layout.proofs.Soundness.{sound}
use Rattle.epic_topo.specs.Lawful.{IsTopology}
use Rattle.epic_topo.specs.Network.{Network, has}
use Rattle.epic_keys.specs.Fetches.{FetchSet}
use Rattle.epic_beacon.specs.Chained.{AreChained}
use Rattle.epic_beacon.specs.Laws.{SegmentsAreChains}
use Rattle.epic_beacon.specs.Segments.{segment}
use Rattle.epic_beacon.specs.Store.{Store}
use Rattle.epic_beacon.specs.Told.{beacons_in}
use Rattle.epic_beacon.specs.declared.beacon.Beacon.{Beacon}
use Rattle.epic_beacon.specs.declared.segment.SegmentError.{SegmentError}
use Rattle.epic_ledger.specs.Facts.{as_issue, issues_in}
use Rattle.epic_ledger.specs.History.{History, Emission, emitted}
use Rattle.epic_ledger.specs.Lawful.{IsEmission}
use Rattle.epic_ledger.specs.declared.event.Event.TheVariants as event
use Rattle.epic_model.specs.Keeping.{sent_at, store_in}
use Rattle.epic_model.specs.Passing.{is_roll, most_emitted}
use Rattle.epic_model.specs.State.{State}
use Rattle.epic_model.specs.Steps.{admission, before_segments, emitted_by, next, next_send, over_path, over_segments, segments_of, sent_by}
use Rattle.epic_model.specs.Traces.{Stepped}
use Rattle.epic_model.specs.World.{IsWorld, WorldsGoOn, most_steps}
use Rattle.epic_actors.specs.Hosts.{HostTable}
use Rattle.epic_actors.specs.Lasting.{StandBySends}
use Rattle.epic_actors.specs.Routers.{RouterTable}
use Rattle.epic_actors.specs.Sources.{IsPathOver, KeysStandBySends, SourceTable, SourcesStandFor}
use Rattle.epic_world.specs.Refining.{Refines, state_of}
use Rattle.epic_world.proofs.Refined.{same_store}

-- ---- the segments of numbers

before_ok : (number : ℕ) (one : Result Segment SegmentError) (first : Segment) (rest : Result (List Segment) ℕ) (others : List Segment)
    → one ≡ Ok first → rest ≡ Ok others → before_segments number one rest ≡ Ok (first ∷ others)
before_ok number one first rest others e f = (λ i. before_segments number (e i) (f i))

module _ (beacons : List Beacon) where
  -- one more number
  pub segment_more : (numbers : List ℕ) (all : List Segment) (number : ℕ) (s : Segment) → segments_of beacons numbers ≡ Ok all → segment beacons number ≡ Ok s
      → segments_of beacons (numbers ++ number ∷ []) ≡ Ok (all ++ s ∷ [])
  unfolding segments_of
  segment_more [] all number s e at = (let same : ◌≡◌ {A = List Segment} [] all = cc in before_ok number (segment beacons number) s (Ok []) [] at refl ∙ ap (λ ss. Ok (ss ++ s ∷ [])) same)
  segment_more (n ∷ numbers) all number s e at =
      by (segment beacons n) (segments_of beacons numbers) refl refl (λ others rest. segment_more numbers others number s rest at) e
    where
      by : (one : Result Segment SegmentError) (rest : Result (List Segment) ℕ) → segment beacons n ≡ one → segments_of beacons numbers ≡ rest
          → ((others : List Segment) → segments_of beacons numbers ≡ Ok others → segments_of beacons (numbers ++ number ∷ []) ≡ Ok (others ++ s ∷ []))
          → before_segments n one rest ≡ Ok all
          → before_segments n (segment beacons n) (segments_of beacons (numbers ++ number ∷ [])) ≡ Ok (all ++ s ∷ [])
      by (Ok first) (Ok others) one rest again e =
          let same : first ∷ others ≡ all = cc in
          before_ok n (segment beacons n) first (segments_of beacons (numbers ++ number ∷ [])) (others ++ s ∷ []) one (again others rest)
          ∙ ap (λ ss. Ok (ss ++ s ∷ [])) same
      by (Ok first) (Err m) one rest again e = absurd (cc)
      by (Err x) rest one rest_is again e = absurd (cc)

  -- the first that has none
  pub segment_none : (numbers : List ℕ) (all : List Segment) (number : ℕ) (x : SegmentError) (more : List ℕ) → segments_of beacons numbers ≡ Ok all
      → segment beacons number ≡ Err x → segments_of beacons (numbers ++ number ∷ more) ≡ Err number
  unfolding segments_of
  segment_none [] all number x more e at = ap (λ one. before_segments number one (segments_of beacons more)) at
  segment_none (n ∷ numbers) all number x more e at =
      by (segment beacons n) (segments_of beacons numbers) refl refl (λ others rest. segment_none numbers others number x more rest at) e
    where
      by : (one : Result Segment SegmentError) (rest : Result (List Segment) ℕ) → segment beacons n ≡ one → segments_of beacons numbers ≡ rest
          → ((others : List Segment) → segments_of beacons numbers ≡ Ok others → segments_of beacons (numbers ++ number ∷ more) ≡ Err number)
          → before_segments n one rest ≡ Ok all
          → before_segments n (segment beacons n) (segments_of beacons (numbers ++ number ∷ more)) ≡ Err number
      by (Ok first) (Ok others) one rest again e =
          (λ i. before_segments n (one i) (again others rest i))
      by (Ok first) (Err m) one rest again e = absurd (cc)
      by (Err y) rest one rest_is again e = absurd (cc)

  -- they are well formed
  pub are_formed : SegmentsAreChains → AreChained beacons → (numbers : List ℕ) (all : List Segment) → segments_of beacons numbers ≡ Ok all
      → All (λ s. IsTrue (is_well_formed s)) all
  unfolding segments_of
  are_formed law chained [] all e = (let same : ◌≡◌ {A = List Segment} [] all = cc in subst (All (λ (s : Segment). IsTrue (is_well_formed s))) same (All-nil (λ (s : Segment). IsTrue (is_well_formed s))))
  are_formed law chained (n ∷ numbers) all e =
      by (segment beacons n) (segments_of beacons numbers) refl refl (λ others rest. are_formed law chained numbers others rest) e
    where
      by : (one : Result Segment SegmentError) (rest : Result (List Segment) ℕ) → segment beacons n ≡ one → segments_of beacons numbers ≡ rest
          → ((others : List Segment) → segments_of beacons numbers ≡ Ok others → All (λ s. IsTrue (is_well_formed s)) others)
          → before_segments n one rest ≡ Ok all → All (λ s. IsTrue (is_well_formed s)) all
      by (Ok first) (Ok others) one rest again e =
          let same : first ∷ others ≡ all = cc in
          subst (All (λ (s : Segment). IsTrue (is_well_formed s))) same
          (All-cons (λ (s : Segment). IsTrue (is_well_formed s)) first others (law beacons n first chained one).well_formed (again others rest))
      by (Ok first) (Err m) one rest again e = absurd (cc)
      by (Err y) rest one rest_is again e = absurd (cc)

-- ---- emissions

long_enough : (b : List ℕ) → fault is_first_byte b ≡ None → 40 ≤ length b
long_enough b e = (let s = sound b e in omega (arith, s.some_segment, s.segments_there))

-- each emission has 40 bytes at least
pub all_long : (emissions : List Emission) → All IsEmission emissions → 40 * length emissions ≤ emitted emissions
unfolding emitted
all_long [] h = omega arith
all_long (x ∷ emissions) h =
    let rest = all_long emissions (All-tail IsEmission x emissions h) in
    let here = long_enough x.bytes (All-head IsEmission x emissions h).faultless in
    omega (arith, rest, here, sum_by-cons (λ (e : Emission). length e.bytes) x emissions)

-- ---- the ledger after a send

-- nothing happened, or the packet is there, within the limit
abbrev pub Outcome : ℕ → History → ArrayVec ℕ → History → Type 0
Outcome step h numbers after =
    (after ≡ h) ⊎ ((p : Contents) × ((after ≡ sent_at step h numbers p) × (emitted h.emissions + length (spelling p) ≤ most_emitted)))

module _ (t : Network) (s : State) (version : ℕ) (level : Level) (src dst : HostId) (numbers : ArrayVec ℕ) (payload : List ℕ) (legs : List Leg) where
  emitted_outcome : (p : Contents) → Outcome (s.steps + 1) s.history numbers (emitted_by s numbers p).state.history
  unfolding emitted_by
  emitted_outcome p = elim (cases_lt most_emitted (emitted s.history.emissions + length (spelling p))) [
    | inl full ↦ inl (rw (lt-ltb _ _ full) refl)
    | inr room ↦ inr (p, (rw (le-ltb _ _ room) refl, room))
  ]

  emitted_state : (p : Contents) → (emitted_by s numbers p).state ≡ state_of s.moment (s.steps + 1) (emitted_by s numbers p).state.history
  unfolding emitted_by
  emitted_state p = elim (cases_lt most_emitted (emitted s.history.emissions + length (spelling p))) [
    | inl full ↦ rw (lt-ltb _ _ full) refl
    | inr room ↦ rw (le-ltb _ _ room) refl
  ]

  pub outcome : Outcome (s.steps + 1) s.history numbers (over_path t s version level src dst numbers payload (Ok legs)).state.history
  outcome = by (admission t s version level src dst payload legs)
    where
      by : (r : Result ℕ SendError) → Outcome (s.steps + 1) s.history numbers (sent_by t s version level src dst numbers payload legs r).state.history
      by (Ok ts) = emitted_outcome _
      by (Err e) = inl refl

  pub state_is : (let x = over_path t s version level src dst numbers payload (Ok legs) in x.state ≡ state_of s.moment (s.steps + 1) x.state.history)
  state_is = by (admission t s version level src dst payload legs)
    where
      by : (r : Result ℕ SendError) → (let x = sent_by t s version level src dst numbers payload legs r in x.state ≡ state_of s.moment (s.steps + 1) x.state.history)
      by (Ok ts) = emitted_state _
      by (Err e) = refl

-- ---- sends

pub known_send : (t : Network) (s : State) (version : ℕ) (level : Level) (src dst : HostId) (numbers : ArrayVec ℕ) (payload : List ℕ)
    → has t src.asn ≡ true → has t dst.asn ≡ true
    → next_send t s version level src dst numbers payload
    ≡ over_segments t s version level src dst numbers payload (segments_of (beacons_in t (issues_in s.history.events)) numbers.items)
unfolding next_send
known_send t s version level src dst numbers payload h k = rw (h, k) refl

is_send : (t : Network) (s : State) (version : ℕ) (level : Level) (src dst : HostId) (numbers : ArrayVec ℕ) (payload : List ℕ)
    → next t s (command.Send version level src dst numbers payload) ≡ next_send t s version level src dst numbers payload
unfolding next
is_send t s version level src dst numbers payload = refl

-- over its path
pub over_is : (t : Network) (s : State) (version : ℕ) (level : Level) (src dst : HostId) (numbers : ArrayVec ℕ) (payload : List ℕ) (legs : List Leg)
    → has t src.asn ≡ true → has t dst.asn ≡ true → IsPathOver t s.history src numbers.items legs
    → next_send t s version level src dst numbers payload ≡ over_path t s version level src dst numbers payload (Ok legs)
over_is t s version level src dst numbers payload legs h k over =
    known_send t s version level src dst numbers payload h k
    ∙ (ap (over_segments t s version level src dst numbers payload) over.found
    ∙ ap (over_path t s version level src dst numbers payload) over.path)

sent_stored : (t : Network) (step : ℕ) (h : History) (numbers : ArrayVec ℕ) (p : Contents) → store_in t h ≡ store_in t (sent_at step h numbers p)
unfolding store_in sent_at as_issue is_roll
sent_stored t step h numbers p = same_store t h (event.Send step (length h.emissions + 1) numbers) refl (λ a. refl)

sent_events : (step : ℕ) (h : History) (numbers : ArrayVec ℕ) (p : Contents) → length (sent_at step h numbers p).events ≡ length h.events + 1
unfolding sent_at
sent_events step h numbers p = length_push h.events (event.Send step (length h.emissions + 1) numbers)

sent_emissions : (step : ℕ) (h : History) (numbers : ArrayVec ℕ) (p : Contents) → length (sent_at step h numbers p).emissions ≡ length h.emissions + 1
unfolding sent_at
sent_emissions step h numbers p = length_push h.emissions (record { place = Router p.src.asn 0; bytes = spelling p })

sent_emitted : (step : ℕ) (h : History) (numbers : ArrayVec ℕ) (p : Contents) → emitted (sent_at step h numbers p).emissions ≡ emitted h.emissions + length (spelling p)
unfolding sent_at emitted
sent_emitted step h numbers p = sum_by_push (λ (e : Emission). length e.bytes) h.emissions (record { place = Router p.src.asn 0; bytes = spelling p })

module _ (t : Network) (store : Store) (keys : FetchSet) (routers : RouterTable) (hosts : HostTable) (sources : SourceTable) (moment n : ℕ) (h : History) (r : Refines t store keys routers hosts sources moment n h) where
  -- the same happened, as far as is told
  pub resourced : (new : SourceTable) → SourcesStandFor new h → Refines t store keys routers hosts new moment n h
  resourced new stand = record {
    world = r.world;
    stored = r.stored;
    kinds = r.kinds;
    fetched = r.fetched;
    routed = r.routed;
    hosted = r.hosted;
    sourced = stand;
    few_events = r.few_events;
    few_emissions = r.few_emissions;
    few_bytes = r.few_bytes;
  }

  -- the ledger after it
  after_send : (new : SourceTable) (numbers : ArrayVec ℕ) (g : History) → StandBySends → KeysStandBySends
      → IsWorld t (state_of moment (n + 1) g) → SourcesStandFor new g → Outcome (n + 1) h numbers g
      → Refines t store keys routers hosts new moment (n + 1) g
  after_send new numbers g actors keep world stand (inl same) = subst (Refines t store keys routers hosts new moment (n + 1)) (sym same) (record {
    world = subst (λ k. IsWorld t (state_of moment (n + 1) k)) same world;
    stored = r.stored;
    kinds = r.kinds;
    fetched = r.fetched;
    routed = r.routed;
    hosted = r.hosted;
    sourced = subst (SourcesStandFor new) same stand;
    few_events = let few = r.few_events in omega arith;
    few_emissions = r.few_emissions;
    few_bytes = r.few_bytes;
  })
  after_send new numbers g actors keep world stand (inr sent) =
      let p = sent.0 in
      let on = actors t moment (n + 1) h numbers p r.world.inv.sound.lawful in
      let there = subst (λ k. IsWorld t (state_of moment (n + 1) k)) sent.1.0 world in
      subst (Refines t store keys routers hosts new moment (n + 1)) (sym sent.1.0) (record {
        world = there;
        stored = r.stored ∙ sent_stored t (n + 1) h numbers p;
        kinds = r.kinds;
        fetched = keep (n + 1) h numbers p keys r.fetched;
        routed = on.routers routers r.routed;
        hosted = on.hosts hosts r.hosted;
        sourced = subst (SourcesStandFor new) sent.1.0 stand;
        few_events = let few = r.few_events in omega (arith, sent_events (n + 1) h numbers p, sent_emissions (n + 1) h numbers p);
        few_emissions = all_long (sent_at (n + 1) h numbers p).emissions there.inv.sound.lawful.packets;
        few_bytes = omega (arith, sent_emitted (n + 1) h numbers p, sent.1.1);
      })

  pub sent_over : (new : SourceTable) (version : ℕ) (level : Level) (src dst : HostId) (numbers : ArrayVec ℕ) (payload : List ℕ) (legs : List Leg) (g : History)
      → WorldsGoOn → StandBySends → KeysStandBySends → IsTopology t → n + 1 < most_steps
      → is_first_byte (first_byte version level) ≡ true → IsHost src → IsHost dst → IsBytes payload
      → has t src.asn ≡ true → has t dst.asn ≡ true → IsPathOver t h src numbers.items legs
      → g ≡ (over_path t (state_of moment n h) version level src dst numbers payload (Ok legs)).state.history → SourcesStandFor new g
      → Refines t store keys routers hosts new moment (n + 1) g
  sent_over new version level src dst numbers payload legs g law actors keep topology few exists source destination bytes h_src h_dst over is stand =
      let s = state_of moment n h in
      let x = over_path t s version level src dst numbers payload (Ok legs) in
      let next_is = is_send t s version level src dst numbers payload ∙ over_is t s version level src dst numbers payload legs h_src h_dst over in
      let world = subst (λ (m : Stepped). IsWorld t m.state) next_is (law t s (command.Send version level src dst numbers payload) topology (exists, (source, (destination, bytes))) few r.world) in
      let there = subst (IsWorld t) (state_is t s version level src dst numbers payload legs) world in
      after_send new numbers g actors keep (subst (λ k. IsWorld t (state_of moment (n + 1) k)) (sym is) there) stand
      (subst (Outcome (n + 1) h numbers) (sym is) (outcome t s version level src dst numbers payload legs))
