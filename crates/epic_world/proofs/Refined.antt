-- The objects of a world go on standing for its state.
use Rattle.std.proofs.Common.{◌≡◌, ℕ, ◌+◌, ◌<◌, ◌≤◌, Bool, true, false, cond, List, [], ◌∷◌, ◌++◌, refl, sym, ◌∙◌, ap, subst, arith, add-zero, append-nil}
use Rattle.std.specs.Prelude.{Option, None, Some, filter_map, if◌then◌else◌}
use Rattle.std.specs.List.{cons_option}
use Rattle.std.proofs.lemmas.List.{length_push}
use Rattle.std.proofs.lemmas.List.Elements.{filter_map-append}
use Rattle.std.proofs.lemmas.List.Sums.{sum_by_push}
use Rattle.epic_num.specs.Chains.{Issue}
use Rattle.epic_num.specs.declared.answer.Answer.{Answer}
use Rattle.epic_num.specs.declared.answer.Answer.TheVariants.{Issued, Fetched, Revealed, Rolled}
use Rattle.epic_num.specs.declared.command.Command.{Command}
use Rattle.epic_num.specs.declared.command.Command.TheVariants as command
use Rattle.epic_num.specs.declared.key_name.Holder.{Holder}
use Rattle.epic_num.specs.declared.moment.TheConstants.{MAX_MOMENT}
use Rattle.epic_num.specs.declared.name.AsId.{AsId}
use Rattle.epic_num.specs.declared.name.HostId.{HostId}
use Rattle.epic_num.specs.Same.{same_as}
use Rattle.epic_topo.specs.Lawful.{IsTopology}
use Rattle.epic_topo.specs.Network.{Network}
use Rattle.epic_keys.specs.Fetches.{Adds, Fetch, FetchSet, IsNone, Keeps, is_fetched}
use Rattle.epic_beacon.specs.Kinds.{KindsKept}
use Rattle.epic_beacon.specs.Store.{Store, no_beacons, with_roll}
use Rattle.epic_beacon.specs.Told.{beacons_in, beacons_after}
use Rattle.epic_ledger.specs.Facts.{as_issue, as_send, issues_in}
use Rattle.epic_ledger.specs.History.{History, Emission, emitted}
use Rattle.epic_ledger.specs.Lawful.{IsLast}
use Rattle.epic_ledger.specs.OneMore.{with_event}
use Rattle.epic_ledger.specs.declared.event.Event.{Event}
use Rattle.epic_ledger.specs.declared.event.Event.TheVariants as event
use Rattle.epic_model.specs.Keeping.{InvLater, store_in}
use Rattle.epic_model.specs.Passing.{is_roll, most_emitted, rolls}
use Rattle.epic_model.specs.State.{as_fetch}
use Rattle.epic_model.specs.Steps.{next}
use Rattle.epic_model.specs.Traces.{Stepped, recorded}
use Rattle.epic_model.specs.World.{Fits, IsWorld, WorldsGoOn, WorldsStart, most_steps}
use Rattle.epic_actors.specs.Hosts.{HostTable, host_of}
use Rattle.epic_actors.specs.Lasting.{IsOther, NoneStand, StandAsTimePasses, StandByOthers}
use Rattle.epic_actors.specs.Routers.{RouterTable, router_of}
use Rattle.epic_actors.specs.Sources.{KeysStandByFetches, KeysStandFor, NoSendersStand, SendersStandByOthers, SourceTable, source_of}
use Rattle.epic_world.specs.Refining.{Refines, state_of}

pub same_history : (h : History) (events : List Event) (emissions : List Emission) → h.events ≡ events → h.emissions ≡ emissions
    → h ≡ record { events = events; emissions = emissions }
same_history h events emissions e f i = record { events = e i; emissions = f i }

-- ---- time

-- a step later, at this moment or a later one
pub world_later : InvLater → (t : Network) (old moment n : ℕ) (h : History) → old ≤ moment → moment ≤ MAX_MOMENT
    → IsWorld t (state_of old n h) → IsWorld t (state_of moment (n + 1) h)
world_later law t old moment n h later fits w = record {
  inv = law t h old moment n (n + 1) later (omega arith) w.inv;
  moment_fits = fits;
  times = λ k x at. let was = w.times k x at in omega arith;
}

module _ (t : Network) (store : Store) (keys : FetchSet) (routers : RouterTable) (hosts : HostTable) (sources : SourceTable) (moment n : ℕ) (h : History) (r : Refines t store keys routers hosts sources moment n h) where
  -- nothing happened
  pub counted : InvLater → Refines t store keys routers hosts sources moment (n + 1) h
  counted law = record {
    world = world_later law t moment moment n h (omega arith) r.world.moment_fits r.world;
    stored = r.stored;
    kinds = r.kinds;
    fetched = r.fetched;
    routed = r.routed;
    hosted = r.hosted;
    sourced = r.sourced;
    few_events = let few = r.few_events in omega arith;
    few_emissions = r.few_emissions;
    few_bytes = r.few_bytes;
  }

  -- but that time passed
  pub passed : InvLater → StandAsTimePasses → (later : ℕ) → moment ≤ later → later ≤ MAX_MOMENT
      → Refines t store keys routers hosts sources later (n + 1) h
  passed law time later after fits = record {
    world = world_later law t moment later n h after fits r.world;
    stored = r.stored;
    kinds = r.kinds;
    fetched = r.fetched;
    routed = (time t h moment later after).routers routers r.routed;
    hosted = (time t h moment later after).hosts hosts r.hosted;
    sourced = r.sourced;
    few_events = let few = r.few_events in omega arith;
    few_emissions = r.few_emissions;
    few_bytes = r.few_bytes;
  }

-- ---- the beginning

nothing_stored : (t : Network) → no_beacons ≡ store_in t (record { events = []; emissions = [] })
unfolding store_in beacons_in beacons_after
nothing_stored t = refl

nothing_emitted : emitted [] ≤ most_emitted
unfolding emitted
nothing_emitted = omega arith

none_emitted : 0 ≤ emitted []
none_emitted = omega arith

pub begun : (t : Network) (store : Store) (keys : FetchSet) (routers : RouterTable) (hosts : HostTable) (sources : SourceTable) (h : History)
    → WorldsStart → NoneStand → NoSendersStand
    → store ≡ no_beacons → KindsKept t store.beacons → IsNone (is_fetched keys)
    → ((a : AsId) → router_of routers a ≡ None) → ((d : HostId) → host_of hosts d ≡ None) → ((d : HostId) → source_of sources d ≡ None)
    → h.events ≡ [] → h.emissions ≡ [] → Refines t store keys routers hosts sources 0 0 h
begun t store keys routers hosts sources h starts actors senders empty kinds unfetched no_router no_host no_source events emissions =
    subst (Refines t store keys routers hosts sources 0 0) (sym (same_history h [] [] events emissions)) (record {
      world = starts t;
      stored = empty ∙ nothing_stored t;
      kinds = kinds;
      fetched = senders.1 keys unfetched;
      routed = (actors t 0).0 routers no_router;
      hosted = (actors t 0).1 hosts no_host;
      sourced = senders.0 sources no_source;
      few_events = omega arith;
      few_emissions = none_emitted;
      few_bytes = nothing_emitted;
    })

-- ---- one more event

pub none_more : {X Y : Type 0} (f : X → Option Y) (xs : List X) (x : X) → f x ≡ None → filter_map f (xs ++ x ∷ []) ≡ filter_map f xs
none_more f xs x e =
    filter_map-append f xs (x ∷ []) ∙ (ap (λ o. filter_map f xs ++ cons_option o []) e ∙ append-nil (filter_map f xs))

pub one_more : {X Y : Type 0} (f : X → Option Y) (xs : List X) (x : X) (y : Y) → f x ≡ Some y
    → filter_map f (xs ++ x ∷ []) ≡ filter_map f xs ++ y ∷ []
one_more f xs x y e = filter_map-append f xs (x ∷ []) ∙ ap (λ o. filter_map f xs ++ cons_option o []) e

pub later : (events : List Event) (n m : ℕ) → IsLast events n → n ≤ m → IsLast events m
later events n m last h k d in' = let here = last k d in' in omega arith

-- of an event that is no roll of the AS
same_rolls : (events : List Event) (e : Event) (a : AsId) → is_roll a e ≡ false → rolls (events ++ e ∷ []) a ≡ rolls events a
same_rolls events e a other =
    sum_by_push (λ x. cond (is_roll a x) 1 0) events e ∙ (ap (λ b. rolls events a + cond b 1 0) other ∙ add-zero (rolls events a))

-- of an event that is neither an issue nor a roll
pub same_store : (t : Network) (h : History) (e : Event) → as_issue e ≡ None → ((a : AsId) → is_roll a e ≡ false)
    → store_in t h ≡ store_in t (with_event h e)
unfolding store_in
same_store t h e no_issue no_roll i = record {
  beacons = beacons_in t (sym (none_more as_issue h.events e no_issue) i);
  generations = λ a. sym (same_rolls h.events e a (no_roll a)) i;
}

issue_stored : (t : Network) (h : History) (i : Issue) (step number : ℕ)
    → store_in t (with_event h (event.Issue step number i.name i.parent))
    ≡ record { beacons = beacons_in t (issues_in h.events ++ i ∷ []); generations = rolls h.events }
unfolding store_in as_issue is_roll
issue_stored t h i step number k = record {
  beacons = beacons_in t (one_more as_issue h.events (event.Issue step number i.name i.parent) i refl k);
  generations = λ a. same_rolls h.events (event.Issue step number i.name i.parent) a refl k;
}

-- the generations of a store are how often each AS has rolled
generations_are : (t : Network) (h : History) (s : Store) → s ≡ store_in t h → s.generations ≡ rolls h.events
unfolding store_in
generations_are t h s e = ap (λ (r : Store). r.generations) e

pub rolled_as : (t : Network) (h : History) (s : Store) (a : AsId) → s ≡ store_in t h → s.generations a ≡ rolls h.events a
rolled_as t h s a e = ap (λ g. g a) (generations_are t h s e)

-- a test is counted, or it isn't
counted_if : (b : Bool) (n : ℕ) → (if b then n + 1 else n) ≡ n + cond b 1 0
counted_if true n = refl
counted_if false n = sym (add-zero n)

roll_stored : (t : Network) (h : History) (a : AsId) (step generation : ℕ)
    → with_roll (store_in t h) a ≡ store_in t (with_event h (event.Roll step a generation))
unfolding store_in as_issue is_roll
roll_stored t h a step generation k = record {
  beacons = beacons_in t (sym (none_more as_issue h.events (event.Roll step a generation) refl) k);
  generations = λ b. (counted_if (same_as a b) (rolls h.events b) ∙ sym (sum_by_push (λ x. cond (is_roll b x) 1 0) h.events (event.Roll step a generation))) k;
}

module _ (t : Network) (store : Store) (keys : FetchSet) (routers : RouterTable) (hosts : HostTable) (sources : SourceTable) (moment n : ℕ) (h : History) (r : Refines t store keys routers hosts sources moment n h) where
  -- the state after a step that records an event
  world_with : (c : Command) (e : Event) (answer : Answer) → WorldsGoOn → IsTopology t → Fits c → n + 1 < most_steps
      → next t (state_of moment n h) c ≡ recorded (state_of moment n h) e answer → IsWorld t (state_of moment (n + 1) (with_event h e))
  world_with c e answer law topology fits few is =
      subst (λ (m : Stepped). IsWorld t m.state) is (law t (state_of moment n h) c topology fits few r.world)

  -- what stands for the ledger with it
  grown : (new : Store) (after : FetchSet) (e : Event) → StandByOthers → SendersStandByOthers → IsOther e → as_send h.emissions e ≡ None
      → IsWorld t (state_of moment (n + 1) (with_event h e)) → new ≡ store_in t (with_event h e) → KindsKept t new.beacons
      → KeysStandFor after (with_event h e) → Refines t new after routers hosts sources moment (n + 1) (with_event h e)
  grown new after e actors senders other unsent world stored kinds fetched =
      let on = actors t moment h e r.world.inv.sound.lawful other in
      record {
        world = world;
        stored = stored;
        kinds = kinds;
        fetched = fetched;
        routed = on.routers routers r.routed;
        hosted = on.hosts hosts r.hosted;
        sourced = (senders h e).0 unsent sources r.sourced;
        few_events = let few = r.few_events in omega (arith, length_push h.events e);
        few_emissions = r.few_emissions;
        few_bytes = r.few_bytes;
      }

  -- a hop was issued
  pub issued : (new : Store) (number : ℕ) (i : Issue) (c : Command)
      → WorldsGoOn → StandByOthers → SendersStandByOthers → IsTopology t → Fits c → n + 1 < most_steps
      → (let e : Event = event.Issue (n + 1) number i.name i.parent in
      next t (state_of moment n h) c ≡ recorded (state_of moment n h) e (Issued number)
      → new ≡ record { beacons = beacons_in t (issues_in h.events ++ i ∷ []); generations = store.generations } → KindsKept t new.beacons
      → Refines t new keys routers hosts sources moment (n + 1) (with_event h e))
  unfolding as_fetch as_send
  issued new number i c law actors senders topology fits few is new_is kinds =
      let e : Event = event.Issue (n + 1) number i.name i.parent in
      grown new keys e actors senders tt refl (world_with c e (Issued number) law topology fits few is)
      (new_is
      ∙ ((λ k. record { beacons = beacons_in t (issues_in h.events ++ i ∷ []); generations = generations_are t h store r.stored k })
      ∙ sym (issue_stored t h i (n + 1) number))) kinds ((senders h e).1 refl keys r.fetched)

  -- keys were fetched
  pub fetched : (after : FetchSet) (f : Fetch)
      → WorldsGoOn → StandByOthers → SendersStandByOthers → KeysStandByFetches → IsTopology t → n + 1 < most_steps
      → (let e : Event = event.Fetch (n + 1) f.source f.owner f.epoch in
      next t (state_of moment n h) (command.Fetch f.source f.owner f.epoch) ≡ recorded (state_of moment n h) e Fetched
      → Adds (is_fetched keys) (is_fetched after) f
      → Refines t store after routers hosts sources moment (n + 1) (with_event h e))
  unfolding as_issue as_send is_roll
  fetched after f law actors senders fetches topology few is adds =
      let e : Event = event.Fetch (n + 1) f.source f.owner f.epoch in
      grown store after e actors senders tt refl (world_with (command.Fetch f.source f.owner f.epoch) e Fetched law topology tt few is)
      (r.stored ∙ same_store t h e refl (λ a. refl)) r.kinds (fetches (n + 1) h f keys after r.fetched adds)

  -- a holder was revealed
  pub revealed : (holder : Holder)
      → WorldsGoOn → StandByOthers → SendersStandByOthers → IsTopology t → n + 1 < most_steps
      → (let e : Event = event.Reveal (n + 1) holder in
      next t (state_of moment n h) (command.Reveal holder) ≡ recorded (state_of moment n h) e Revealed
      → Refines t store keys routers hosts sources moment (n + 1) (with_event h e))
  unfolding as_issue as_fetch as_send is_roll
  revealed holder law actors senders topology few is =
      let e : Event = event.Reveal (n + 1) holder in
      grown store keys e actors senders tt refl (world_with (command.Reveal holder) e Revealed law topology tt few is)
      (r.stored ∙ same_store t h e refl (λ a. refl)) r.kinds ((senders h e).1 refl keys r.fetched)

  -- an AS rolled its key
  pub rolled : (new : Store) (a : AsId) (generation : ℕ)
      → WorldsGoOn → StandByOthers → SendersStandByOthers → IsTopology t → n + 1 < most_steps
      → (let e : Event = event.Roll (n + 1) a generation in
      next t (state_of moment n h) (command.Roll a) ≡ recorded (state_of moment n h) e (Rolled generation)
      → new ≡ with_roll store a
      → Refines t new keys routers hosts sources moment (n + 1) (with_event h e))
  unfolding as_fetch as_send
  rolled new a generation law actors senders topology few is new_is =
      let e : Event = event.Roll (n + 1) a generation in
      grown new keys e actors senders tt refl (world_with (command.Roll a) e (Rolled generation) law topology tt few is)
      (new_is ∙ (ap (λ s. with_roll s a) r.stored ∙ roll_stored t h a (n + 1) generation))
      (subst (KindsKept t) (sym (ap (λ (s : Store). s.beacons) new_is)) r.kinds) ((senders h e).1 refl keys r.fetched)

  -- the same was fetched
  pub known : (after : FetchSet) → Keeps (is_fetched keys) (is_fetched after) → Refines t store after routers hosts sources moment n h
  known after same = record {
    world = r.world;
    stored = r.stored;
    kinds = r.kinds;
    fetched = λ f. same f ∙ r.fetched f;
    routed = r.routed;
    hosted = r.hosted;
    sourced = r.sourced;
    few_events = r.few_events;
    few_emissions = r.few_emissions;
    few_bytes = r.few_bytes;
  }
