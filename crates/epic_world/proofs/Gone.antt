-- The objects of a world go on standing for its state when packets come to routers and hosts.
use Rattle.std.proofs.Common.{◌≡◌, ℕ, ◌+◌, ◌-◌, ◌<◌, ◌≤◌, ◌^◌, true, not, List, length, ap, sym, subst, ◌∙◌, arith}
use Rattle.std.specs.Prelude.{Option, Some, if◌then◌else◌}
use Rattle.std.specs.Option.{option_map_or}
use Rattle.epic_num.specs.declared.answer.Refusal.TheVariants.{UnknownAs, UnknownEmission}
use Rattle.epic_num.specs.declared.command.Command.TheVariants as command
use Rattle.epic_num.specs.declared.name.AsId.{AsId}
use Rattle.epic_num.specs.declared.name.HostId.{HostId}
use Rattle.epic_num.specs.declared.passed.Place.TheVariants.{Router, Host}
use Rattle.epic_layout.specs.Contents.{IsBytes}
use Rattle.epic_layout.proofs.OneSpelling.{bytes_are_read}
use Rattle.epic_topo.specs.Lawful.{IsTopology}
use Rattle.epic_topo.specs.Network.{Network, has}
use Rattle.epic_keys.specs.Fetches.{FetchSet}
use Rattle.epic_beacon.specs.Store.{Store}
use Rattle.epic_ledger.specs.History.{History, Emission, emission_at}
use Rattle.epic_model.specs.Passing.{rolls, turned_at, arrived_at, pass_at, carried, last_history}
use Rattle.epic_model.specs.Keeping.{IsDue, store_in}
use Rattle.epic_model.specs.Sound.{IsSound}
use Rattle.epic_model.specs.State.{State}
use Rattle.epic_model.specs.Steps.{next, next_turn, next_arrive, next_carry, carrying, passing}
use Rattle.epic_model.specs.Traces.{Stepped, refused}
use Rattle.epic_model.specs.World.{IsWorld}
use Rattle.epic_model.proofs.InvKept.{inv_later, there_fits}
use Rattle.epic_model.proofs.Stepping.{worlds_go_on}
use Rattle.epic_actors.specs.Hosts.{HostTable, HostsStandFor}
use Rattle.epic_actors.specs.Routers.{RouterTable, RoutersStandFor}
use Rattle.epic_actors.specs.Sources.{SourceTable}
use Rattle.epic_actors.proofs.Lasting.{hosts_stand_by_turns, routers_stand_by_arrivals}
use Rattle.epic_actors.proofs.SendersLast.{senders_stand_by_turns, senders_stand_by_arrivals}
use Rattle.epic_world.specs.Refining.{Refines, state_of}
use Rattle.epic_world.proofs.CarryGrows.{carried_goes}
use Rattle.epic_world.proofs.Grown.{turned_grows, arrived_grows}

-- ---- steps

pub known_turn : (t : Network) (s : State) (a : AsId) (iface : ℕ) (bytes : List ℕ) → has t a ≡ true → next_turn t s a iface bytes ≡ passing t s (Router a iface) bytes
unfolding next_turn
known_turn t s a iface bytes known = ap (λ b. if not b then refused s (UnknownAs a) else passing t s (Router a iface) bytes) known

pub known_arrive : (t : Network) (s : State) (d : HostId) (bytes : List ℕ) → has t d.asn ≡ true → next_arrive t s d bytes ≡ passing t s (Host d) bytes
unfolding next_arrive
known_arrive t s d bytes known = ap (λ b. if not b then refused s (UnknownAs d.asn) else passing t s (Host d) bytes) known

turned_state : (t : Network) (moment n : ℕ) (h : History) (a : AsId) (iface : ℕ) (bytes : List ℕ) → has t a ≡ true
    → (next t (state_of moment n h) (command.Turn a iface bytes)).state ≡ state_of moment (n + 1) (turned_at t (n + 1) moment h a iface bytes).history
unfolding next passing pass_at
turned_state t moment n h a iface bytes known = ap (λ (x : Stepped). x.state) (known_turn t (state_of moment n h) a iface bytes known)

arrived_state : (t : Network) (moment n : ℕ) (h : History) (d : HostId) (bytes : List ℕ) → has t d.asn ≡ true
    → (next t (state_of moment n h) (command.Arrive d bytes)).state ≡ state_of moment (n + 1) (arrived_at t (n + 1) moment h d bytes).history
unfolding next passing pass_at
arrived_state t moment n h d bytes known = ap (λ (x : Stepped). x.state) (known_arrive t (state_of moment n h) d bytes known)

carried_state : (t : Network) (moment n : ℕ) (h : History) (number : ℕ) (e : Emission) → emission_at h.emissions number ≡ Some e
    → (next t (state_of moment n h) (command.Carry number)).state ≡ state_of moment (n + 1) (last_history h (carried t (n + 1) moment 33 h number))
unfolding next next_carry carrying
carried_state t moment n h number e there =
    ap (λ (o : Option Emission). (option_map_or (λ _. carrying t (state_of moment n h) number) o (refused (state_of moment n h) (UnknownEmission number))).state) there

-- ---- what stands for it

module _ (t : Network) (store : Store) (keys : FetchSet) (routers : RouterTable) (hosts : HostTable) (sources : SourceTable) (moment n : ℕ) (h : History) (r : Refines t store keys routers hosts sources moment n h) where
  pub sound_next : IsSound t h (n + 1)
  sound_next = (inv_later t h moment moment n (n + 1) (omega arith) (omega arith) r.world.inv).sound

  pub few_emissions : length h.emissions ≤ 6710886
  few_emissions = (let few = r.few_emissions in let bytes = r.few_bytes in omega (arith, few, bytes))

  pub few_events : n < 2 ^ 30 - 1 → length h.events + 66 < 2 ^ 31
  few_events small = (let few = r.few_events in omega (arith, few, few_emissions, small))

  pub turned : (new : RouterTable) (a : AsId) (iface : ℕ) (bytes : List ℕ) → IsTopology t → has t a ≡ true → IsBytes bytes → n < 2 ^ 30 - 1
      → (let g = (turned_at t (n + 1) moment h a iface bytes).history in
      RoutersStandFor t moment new g → Refines t store keys new hosts sources moment (n + 1) g)
  turned new a iface bytes topology known all small stand =
      let g = (turned_at t (n + 1) moment h a iface bytes).history in
      let grows = turned_grows t (n + 1) moment h a iface bytes (bytes_are_read bytes all) in
      let senders = senders_stand_by_turns t (n + 1) moment h a iface bytes (bytes_are_read bytes all) r.world.inv.sound.lawful in
      record {
        world = subst (IsWorld t) (turned_state t moment n h a iface bytes known)
            (worlds_go_on t (state_of moment n h) (command.Turn a iface bytes) topology all (omega (arith, small)) r.world);
        stored = r.stored ∙ sym grows.stored;
        kinds = r.kinds;
        fetched = senders.1 keys r.fetched;
        routed = stand;
        hosted = hosts_stand_by_turns t (n + 1) moment h a iface bytes hosts (bytes_are_read bytes all) r.world.inv.sound.lawful r.hosted;
        sourced = senders.0 sources r.sourced;
        few_events = let few = r.few_events in omega (arith, grows.events, few);
        few_emissions = grows.emissions r.few_emissions;
        few_bytes = grows.bytes r.few_bytes;
      }

  pub arrived : (new : HostTable) (d : HostId) (bytes : List ℕ) → IsTopology t → has t d.asn ≡ true → IsBytes bytes → n < 2 ^ 30 - 1
      → (let g = (arrived_at t (n + 1) moment h d bytes).history in
      HostsStandFor t moment new g → Refines t store keys routers new sources moment (n + 1) g)
  arrived new d bytes topology known all small stand =
      let grows = arrived_grows t (n + 1) moment h d bytes in
      let senders = senders_stand_by_arrivals t (n + 1) moment h d bytes in
      record {
        world = subst (IsWorld t) (arrived_state t moment n h d bytes known)
            (worlds_go_on t (state_of moment n h) (command.Arrive d bytes) topology all (omega (arith, small)) r.world);
        stored = r.stored ∙ sym grows.stored;
        kinds = r.kinds;
        fetched = senders.1 keys r.fetched;
        routed = routers_stand_by_arrivals t (n + 1) moment h d bytes routers r.routed;
        hosted = stand;
        sourced = senders.0 sources r.sourced;
        few_events = let few = r.few_events in omega (arith, grows.events, few);
        few_emissions = grows.emissions r.few_emissions;
        few_bytes = grows.bytes r.few_bytes;
      }

  -- the same happened, as far as is told
  pub rerouted : (new : RouterTable) → RoutersStandFor t moment new h → Refines t store keys new hosts sources moment n h
  rerouted new stand = record {
    world = r.world;
    stored = r.stored;
    kinds = r.kinds;
    fetched = r.fetched;
    routed = stand;
    hosted = r.hosted;
    sourced = r.sourced;
    few_events = r.few_events;
    few_emissions = r.few_emissions;
    few_bytes = r.few_bytes;
  }

  pub rehosted : (new : HostTable) → HostsStandFor t moment new h → Refines t store keys routers new sources moment n h
  rehosted new stand = record {
    world = r.world;
    stored = r.stored;
    kinds = r.kinds;
    fetched = r.fetched;
    routed = r.routed;
    hosted = stand;
    sourced = r.sourced;
    few_events = r.few_events;
    few_emissions = r.few_emissions;
    few_bytes = r.few_bytes;
  }

  generations_are : (a : AsId) → store.generations a ≡ rolls h.events a
  unfolding store_in
  generations_are a = ap (λ (s : Store). s.generations a) r.stored

  pub generation_is : (a : AsId) (generation : ℕ) → generation ≡ store.generations a → generation ≡ rolls h.events a
  generation_is a generation is = is ∙ generations_are a

  pub due_there : (number : ℕ) (e : Emission) → emission_at h.emissions number ≡ Some e → IsDue t e.place
  due_there number e at = (there_fits t h number e r.world.inv.sound.lawful.packets r.world.inv.places at).0

  -- an emission that is there was carried
  pub was_carried : (new : RouterTable) (other : HostTable) (number : ℕ) (e : Emission) → IsTopology t → emission_at h.emissions number ≡ Some e → n < 2 ^ 30 - 1
      → (let g = last_history h (carried t (n + 1) moment 33 h number) in
      RoutersStandFor t moment new g → HostsStandFor t moment other g → Refines t store keys new other sources moment (n + 1) g)
  was_carried new other number e topology there small routed hosted =
      let g = last_history h (carried t (n + 1) moment 33 h number) in
      let goes = carried_goes t (n + 1) moment 33 h number topology (inv_later t h moment moment n (n + 1) (omega arith) (omega arith) r.world.inv) in
      let events = goes.grows.events in
      record {
        world = subst (IsWorld t) (carried_state t moment n h number e there)
            (worlds_go_on t (state_of moment n h) (command.Carry number) topology tt (omega (arith, small)) r.world);
        stored = r.stored ∙ sym goes.grows.stored;
        kinds = r.kinds;
        fetched = goes.keys keys r.fetched;
        routed = routed;
        hosted = hosted;
        sourced = goes.sources sources r.sourced;
        few_events = let few = r.few_events in omega (arith, events, few);
        few_emissions = goes.grows.emissions r.few_emissions;
        few_bytes = goes.grows.bytes r.few_bytes;
      }
