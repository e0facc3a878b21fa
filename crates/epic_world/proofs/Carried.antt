-- What a turn makes is ready to be carried on.
use Rattle.std.proofs.Common.{◌≡◌, ◌≢◌, ℕ, suc, ◌+◌, ◌*◌, ◌≤◌, true, List, [], ◌∷◌, ◌++◌, length, map, append_assoc, Option, None, Some, refl, ap, sym, subst, ◌∙◌, arith}
use Rattle.std.specs.Prelude.{IfSome, ◌==◌, ◌-◌, slice_get}
use Rattle.std.specs.List.{All}
use Rattle.std.proofs.Common.{⊎_elim}
use Rattle.std.proofs.lemmas.Bool.{cases_Bool, cond-true, cond-false}
use Rattle.epic_ledger.specs.Lawful.{IsEmission}
use Rattle.std.proofs.lemmas.Option.{slice_get_within, get_or_from_slice_get}
use Rattle.epic_world.proofs.Grown.{length_most}
use Rattle.std.proofs.lemmas.Option.{same_Some}
use Rattle.epic_num.specs.declared.arrival.Arrival.{Arrival}
use Rattle.epic_num.specs.declared.arrival.Arrival.TheVariants as arrival
use Rattle.epic_num.specs.declared.name.AsId.{AsId}
use Rattle.epic_num.specs.declared.name.HostId.{HostId}
use Rattle.epic_num.specs.declared.passed.Passed.{Passed}
use Rattle.epic_num.specs.declared.passed.Place.{Place}
use Rattle.epic_num.specs.declared.passed.Place.TheVariants.{Router, Host}
use Rattle.epic_layout.specs.Contents.{Contents, IsBytes}
use Rattle.epic_layout.specs.Layout.{parse}
use Rattle.epic_layout.specs.Route.{Route}
use Rattle.epic_layout.proofs.OneSpelling.{bytes_are_read}
use Rattle.epic_topo.specs.Lawful.{IsTopology}
use Rattle.epic_topo.specs.Network.{Network, has}
use Rattle.epic_beacon.specs.Store.{Store}
use Rattle.epic_router.specs.Routers.{RouterState}
use Rattle.epic_ledger.specs.History.{History, Emission, emission_at}
use Rattle.epic_ledger.specs.Recorded.{Recorded}
use Rattle.epic_model.specs.Keeping.{Inv, IsDue, store_in}
use Rattle.epic_model.specs.Passing.{Happened, rolls, turned_at, arrived_at, arrived_by, arrival_at, arrives, pass_at, passed_on, carried, last_history}
use Rattle.epic_model.specs.Steps.{passages_of}
use Rattle.epic_model.specs.Traces.{shown}
use Rattle.epic_model.proofs.InvKept.{inv_turns, there_fits}
use Rattle.epic_actors.specs.Hosts.{HasHostRoom, HostTable, HostsStandFor, host_of}
use Rattle.epic_actors.specs.Routers.{HasRoom, RouterTable, RoutersStandFor, router_of}
use Rattle.epic_actors.specs.Telling.{as_passed}
use Rattle.epic_actors.proofs.Lasting.{hosts_stand_by_turns}
use Rattle.epic_world.specs.Way.{last_hop, WayHasRoom, PlaceHasRoom, IsReady}
use Rattle.epic_world.proofs.Way.{turned_onward, way_moves, passed_is, ends_told, more_told, ends_after, more_after}

-- an arrival makes no emission
by_no_emission : (t : Network) (step : ℕ) (h : History) (d : HostId) (bytes : List ℕ) (answer : Arrival) → (arrived_by t step h d bytes answer).emission ≡ 0
unfolding arrived_by arrives
by_no_emission t step h d bytes arrival.Accepted = refl
by_no_emission t step h d bytes arrival.Unchecked = refl
by_no_emission t step h d bytes (arrival.Refused check) = refl

pub no_emission : (t : Network) (step now : ℕ) (h : History) (d : HostId) (bytes : List ℕ) → (arrived_at t step now h d bytes).emission ≡ 0
unfolding arrived_at
no_emission t step now h d bytes = by_no_emission t step h d bytes (arrival_at t now h d bytes)

-- the emission that is ready is the one that is there
pub same_emission : (es : List Emission) (number : ℕ) (x e : Emission) → emission_at es number ≡ Some x → emission_at es number ≡ Some e → x ≡ e
same_emission es number x e a b = same_Some _ _ (sym a ∙ b)

-- there is room at the next place
next_rooms : (t : Network) (m : ℕ) (old new : RouterTable) (hosts : HostTable) (a : AsId) (p q : Contents) (place : Place)
    → ((b : AsId) → HasRoom (suc m) (router_of old b) → HasRoom m (router_of new b))
    → has t a ≡ true → q.route ≡ p.route → q.dst ≡ p.dst → q.current ≡ last_hop p.route p.current + 1
    → ((b : AsId) → (iface : ℕ) → place ≡ Router b iface → (n : ℕ) (k : ℕ) (routers : RouterTable)
    → WayHasRoom n t routers (suc k) a p.route p.current → WayHasRoom n t routers k b p.route (last_hop p.route p.current + 1))
    → ((d : HostId) → place ≡ Host d → (d ≡ p.dst) × (p.dst.asn ≡ a))
    → WayHasRoom (suc m) t old (suc m) a p.route p.current → (has t p.dst.asn ≡ true → HasHostRoom 1 (host_of hosts p.dst))
    → PlaceHasRoom m t new hosts place q
next_rooms t m old new hosts a p q (Router b iface) move known route dst current goes ends way host = (
  subst (λ (r : Route). WayHasRoom m t new m b r q.current) (sym route)
      (subst (λ j. WayHasRoom m t new m b p.route j) (sym current)
      (way_moves (suc m) m t old new m b p.route (last_hop p.route p.current + 1) move (goes b iface refl (suc m) m old way))),
  subst (λ (d : HostId). has t d.asn ≡ true → HasHostRoom 1 (host_of hosts d)) (sym dst) host,
)
next_rooms t m old new hosts a p q (Host d) move known route dst current goes ends way host =
    let end = ends d refl in
    subst (λ (x : HostId). HasHostRoom 1 (host_of hosts x)) (sym end.0) (host (ap (has t) end.1 ∙ known))

times_less : (m size old new : ℕ) → suc m * size ≤ old → old ≤ new + size → m * size ≤ new
times_less m size old new many less = omega (arith, many, less)

pub next_ready : (t : Network) (now step m size : ℕ) (before after : Recorded) (old new : RouterTable) (hosts : HostTable) (number : ℕ) (a : AsId) (iface : ℕ) (bytes : List ℕ)
    → IsTopology t → has t a ≡ true → IsBytes bytes
    → (r : IsReady t now step (suc m) size before old hosts number)
    → emission_at before.history.emissions number ≡ Some (record { place = Router a iface; bytes = bytes })
    → (let d = turned_at t step now before.history a iface bytes in
    after.history ≡ d.history → RoutersStandFor t now new after.history
    → ((b : AsId) → HasRoom (suc m) (router_of old b) → HasRoom m (router_of new b))
    → before.spare.events ≤ after.spare.events + 2 → before.spare.emissions ≤ after.spare.emissions + 1
    → before.spare.bytes ≤ after.spare.bytes + length bytes
    → d.emission ≢ 0 → IsReady t now step m size after new hosts d.emission)
next_ready t now step m size before after old new hosts number a iface bytes topology known all r at history routed move events emissions bytes_left some =
    let h = before.history in
    let d = turned_at t step now h a iface bytes in
    let e : Emission = record { place = Router a iface; bytes = bytes } in
    let same : r.emission ≡ e = same_emission h.emissions number r.emission e r.there at in
    let size_is : length bytes ≡ size = sym (ap (λ (x : Emission). length x.bytes) same) ∙ r.size_is in
    let rooms : PlaceHasRoom (suc m) t old hosts (Router a iface) (parse bytes) =
    subst (λ (x : Emission). PlaceHasRoom (suc m) t old hosts x.place (parse x.bytes)) same r.rooms in
    let o = turned_onward t step now h a iface bytes all some in
    let read = bytes_are_read bytes all in
    let fewer_events = r.events in
    let fewer_emissions = r.emissions in
    record {
      emission = o.next;
      there = ap (λ (g : History). emission_at g.emissions d.emission) history ∙ o.there;
      size_is = o.size ∙ size_is;
      inv = subst (λ g. Inv t g now step) (sym history) (inv_turns t h now step a iface bytes topology known read r.inv);
      routed = routed;
      hosted = subst (HostsStandFor t now hosts) (sym history) (hosts_stand_by_turns t step now h a iface bytes hosts read r.inv.sound.lawful r.hosted);
      events = omega (arith, fewer_events, events);
      emissions = omega (arith, fewer_emissions, emissions);
      bytes = times_less m size before.spare.bytes after.spare.bytes r.bytes (subst (λ n. before.spare.bytes ≤ after.spare.bytes + n) size_is bytes_left);
      rooms = next_rooms t m old new hosts a (parse bytes) (parse o.next.bytes) o.next.place move known o.route o.dst o.current o.goes o.ends rooms.0 rooms.1;
    }

-- ---- one place

has_less : (n m : ℕ) → m ≤ n → (o : Option RouterState) → HasRoom n o → HasRoom m o
has_less n m less None h = h
has_less n m less (Some x) h = omega (arith, less, h)

pub generations_of : (t : Network) (h : History) (s : Store) (a : AsId) (generation : ℕ) → s ≡ store_in t h → generation ≡ s.generations a → generation ≡ rolls h.events a
unfolding store_in
generations_of t h s a generation same is = is ∙ ap (λ (x : Store). x.generations a) same

module _ (t : Network) (now step m size : ℕ) (before : Recorded) (routers : RouterTable) (hosts : HostTable) (number : ℕ) (r : IsReady t now step (suc m) size before routers hosts number) where
  place_known : (e : Emission) → emission_at before.history.emissions number ≡ Some e → IsDue t e.place
  place_known e at = (there_fits t before.history number e r.inv.sound.lawful.packets r.inv.places at).0

  place_ready : (e : Emission) → emission_at before.history.emissions number ≡ Some e → PlaceHasRoom (suc m) t routers hosts e.place (parse e.bytes)
  place_ready e at =
      subst (λ (x : Emission). PlaceHasRoom (suc m) t routers hosts x.place (parse x.bytes)) (same_emission before.history.emissions number r.emission e r.there at) r.rooms

  pub known_router : (a : AsId) (iface : ℕ) (bytes : List ℕ) → emission_at before.history.emissions number ≡ Some (record { place = Router a iface; bytes = bytes }) → has t a ≡ true
  known_router a iface bytes at = place_known (record { place = Router a iface; bytes = bytes }) at

  pub known_host : (d : HostId) (bytes : List ℕ) → emission_at before.history.emissions number ≡ Some (record { place = Host d; bytes = bytes }) → has t d.asn ≡ true
  known_host d bytes at = place_known (record { place = Host d; bytes = bytes }) at

  pub room_router : (a : AsId) (iface : ℕ) (bytes : List ℕ) → emission_at before.history.emissions number ≡ Some (record { place = Router a iface; bytes = bytes }) → HasRoom 1 (router_of routers a)
  room_router a iface bytes at =
      has_less (suc m) 1 (omega arith) (router_of routers a) ((place_ready (record { place = Router a iface; bytes = bytes }) at).0.0)

  pub room_host : (d : HostId) (bytes : List ℕ) → emission_at before.history.emissions number ≡ Some (record { place = Host d; bytes = bytes }) → HasHostRoom 1 (host_of hosts d)
  room_host d bytes at = place_ready (record { place = Host d; bytes = bytes }) at

  pub room_bytes : (e : Emission) → emission_at before.history.emissions number ≡ Some e → length e.bytes ≤ before.spare.bytes
  room_bytes e at =
      let long = ap (λ (x : Emission). length x.bytes) (sym (same_emission before.history.emissions number r.emission e r.there at)) ∙ r.size_is in
      let many = r.bytes in
      omega (arith, long, many)

pub passed_router : (t : Network) (step now : ℕ) (h : History) (number : ℕ) (a : AsId) (iface : ℕ) (bytes : List ℕ)
    → emission_at h.emissions number ≡ Some (record { place = Router a iface; bytes = bytes }) → passed_on t step now h number ≡ turned_at t step now h a iface bytes
unfolding pass_at
passed_router t step now h number a iface bytes at = passed_is t step now 0 h number (record { place = Router a iface; bytes = bytes }) at

pub passed_host : (t : Network) (step now : ℕ) (h : History) (number : ℕ) (d : HostId) (bytes : List ℕ)
    → emission_at h.emissions number ≡ Some (record { place = Host d; bytes = bytes }) → passed_on t step now h number ≡ arrived_at t step now h d bytes
unfolding pass_at
passed_host t step now h number d bytes at = passed_is t step now 0 h number (record { place = Host d; bytes = bytes }) at

pub told_as : (t : Network) (step now : ℕ) (h : History) (number : ℕ) (e : Emission) (d : Happened) (x : Passed)
    → emission_at h.emissions number ≡ Some e → passed_on t step now h number ≡ d → x ≡ as_passed e.place d
    → IfSome (emission_at h.emissions number) (λ f. x ≡ as_passed f.place (passed_on t step now h number))
told_as t step now h number e d x at is told =
    subst (λ (o : Option Emission). IfSome o (λ f. x ≡ as_passed f.place (passed_on t step now h number))) (sym at) (told ∙ ap (as_passed e.place) (sym is))

pub none_told : (t : Network) (step now most : ℕ) (h : History) (number : ℕ) → most ≡ 0 → map shown (passages_of h number (carried t step now most h number)) ≡ []
unfolding carried passages_of
none_told t step now most h number none = ap (λ k. map shown (passages_of h number (carried t step now k h number))) none

pub none_after : (t : Network) (step now most : ℕ) (h : History) (number : ℕ) → most ≡ 0 → last_history h (carried t step now most h number) ≡ h
unfolding carried
none_after t step now most h number none = ap (λ k. last_history h (carried t step now k h number)) none

-- what was told before it, it, and the rest
pub told_more : (t : Network) (step now m : ℕ) (h g : History) (number next : ℕ) (e : Emission) (x : Passed) (old pushed new : List Passed)
    → emission_at h.emissions number ≡ Some e → x ≡ as_passed e.place (passed_on t step now h number) → g ≡ (passed_on t step now h number).history
    → next ≡ x.emission → next ≢ 0 → pushed ≡ old ++ x ∷ []
    → new ≡ pushed ++ map shown (passages_of g next (carried t step now m g next))
    → new ≡ old ++ map shown (passages_of h number (carried t step now (suc m) h number))
told_more t step now m h g number next e x old pushed new at is history emission some push told =
    let d = passed_on t step now h number in
    let same : next ≡ d.emission = emission ∙ ap (λ (y : Passed). y.emission) is in
    let rest = map shown (passages_of d.history d.emission (carried t step now m d.history d.emission)) in
    told
    ∙ ((λ i. push i ++ map shown (passages_of (history i) (same i) (carried t step now m (history i) (same i))))
    ∙ (append_assoc old (x ∷ []) rest
    ∙ (ap (λ y. old ++ y ∷ rest) is
    ∙ ap (λ ys. old ++ ys) (sym (more_told t step now m h number e at (λ z. some (same ∙ z)))))))

pub told_end : (t : Network) (step now m : ℕ) (h : History) (number : ℕ) (e : Emission) (x : Passed) (old pushed : List Passed)
    → emission_at h.emissions number ≡ Some e → x ≡ as_passed e.place (passed_on t step now h number)
    → x.emission ≡ 0 → pushed ≡ old ++ x ∷ []
    → pushed ≡ old ++ map shown (passages_of h number (carried t step now (suc m) h number))
told_end t step now m h number e x old pushed at is none push =
    push ∙ (ap (λ y. old ++ y ∷ []) is ∙ ap (λ ys. old ++ ys) (sym (ends_told t step now m h number e at (sym (ap (λ (y : Passed). y.emission) is) ∙ none))))

pub after_more : (t : Network) (step now m : ℕ) (h g new : History) (number next : ℕ) (e : Emission) (x : Passed)
    → emission_at h.emissions number ≡ Some e → x ≡ as_passed e.place (passed_on t step now h number) → g ≡ (passed_on t step now h number).history
    → next ≡ x.emission → next ≢ 0 → new ≡ last_history g (carried t step now m g next)
    → new ≡ last_history h (carried t step now (suc m) h number)
after_more t step now m h g new number next e x at is history emission some told =
    let same = emission ∙ ap (λ (y : Passed). y.emission) is in
    told
    ∙ ((λ i. last_history (history i) (carried t step now m (history i) (same i)))
    ∙ sym (more_after t step now m h number e at (λ z. some (same ∙ z))))

pub after_end : (t : Network) (step now m : ℕ) (h g : History) (number : ℕ) (e : Emission) (x : Passed)
    → emission_at h.emissions number ≡ Some e → x ≡ as_passed e.place (passed_on t step now h number) → g ≡ (passed_on t step now h number).history
    → x.emission ≡ 0 → g ≡ last_history h (carried t step now (suc m) h number)
after_end t step now m h g number e x at is history none =
    history ∙ sym (ends_after t step now m h number e at (sym (ap (λ (y : Passed). y.emission) is) ∙ none))

-- ---- before it begins

pub emission_lawful : (es : List Emission) (number : ℕ) (e : Emission) → All IsEmission es → emission_at es number ≡ Some e → IsEmission e
unfolding emission_at
emission_lawful es number e packets at =
    ⊎_elim
    (λ z. (let none = sym (cond-true (number == 0) None (slice_get es (number - 1)) z) ∙ at in absurd (cc)))
    (λ nz. (let there = sym (cond-false (number == 0) None (slice_get es (number - 1)) nz) ∙ at in
    let inside = slice_get_within es (number - 1) e there in
    subst IsEmission (get_or_from_slice_get es (number - 1) e e there) (packets (number - 1) e inside)))
    (cases_Bool (number == 0))

pub few_bytes : (t : Network) (h : History) (now step number : ℕ) (e : Emission) → Inv t h now step → emission_at h.emissions number ≡ Some e → length e.bytes ≤ 8896
few_bytes t h now step number e inv at =
    let x = emission_lawful h.emissions number e inv.sound.lawful.packets at in
    length_most e.bytes (λ _. x.packet) x.faultless

pub due_now : (t : Network) (h : History) (now step number : ℕ) (e : Emission) → Inv t h now step → emission_at h.emissions number ≡ Some e → IsDue t e.place
due_now t h now step number e inv at = (there_fits t h number e inv.sound.lawful.packets inv.places at).0

-- from a router
pub router_place : (t : Network) (routers : RouterTable) (hosts : HostTable) (place : Place) (a : AsId) (iface : ℕ) (p q : Contents)
    → place ≡ Router a iface → q ≡ p → WayHasRoom 33 t routers 33 a q.route q.current → (has t q.dst.asn ≡ true → HasHostRoom 1 (host_of hosts q.dst))
    → PlaceHasRoom 33 t routers hosts place p
router_place t routers hosts place a iface p q is same way host =
    subst (λ x. PlaceHasRoom 33 t routers hosts x p) (sym is) (subst (λ (x : Contents). PlaceHasRoom 33 t routers hosts (Router a iface) x) same (way, host))
