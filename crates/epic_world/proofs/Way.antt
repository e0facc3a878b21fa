-- Where a packet goes on from a router, and that there is room for it there.
use Rattle.std.proofs.Common.{◌≡◌, ◌≢◌, ℕ, zero, suc, ◌+◌, ◌<◌, ◌≤◌, Bool, true, false, List, [], ◌∷◌, ◌++◌, length, take, map, append-nil, Option, None, Some, refl, ap, sym, subst, ◌∙◌, arith}
use Rattle.std.specs.Prelude.{nat_lt, if◌then◌else◌, IfSome, IsSome}
use Rattle.std.specs.Option.{option_map_or}
use Rattle.std.proofs.lemmas.Bool.{cond_both, eq-eqb, ne_eqb}
use Rattle.std.proofs.lemmas.List.{map-append}
use Rattle.epic_num.specs.declared.name.AsId.{AsId}
use Rattle.epic_num.specs.declared.name.HostId.{HostId}
use Rattle.epic_num.specs.declared.passed.Place.{Place}
use Rattle.epic_num.specs.declared.passed.Place.TheVariants.{Router, Host}
use Rattle.epic_num.specs.declared.passed.PassResult.TheVariants.{Full}
use Rattle.epic_num.specs.declared.turn.Turn.{Turn}
use Rattle.epic_num.specs.declared.turn.Turn.TheVariants.{Forward, Deliver, Refused}
use Rattle.epic_layout.specs.Contents.{Contents, IsBytes}
use Rattle.epic_layout.specs.Layout.{parse}
use Rattle.epic_layout.specs.Route.{Route, egress}
use Rattle.epic_layout.specs.Spelling.{spelling}
use Rattle.epic_layout.proofs.OneSpelling.{bytes_are_read}
use Rattle.epic_topo.specs.declared.link_kind.LinkKind.{LinkKind}
use Rattle.epic_topo.specs.Network.{Network, neighbour}
use Rattle.epic_window.specs.Entries.{told_of}
use Rattle.epic_router.specs.Candidates.{candidates_of}
use Rattle.epic_router.specs.Checks.{has_second, handled_hops, last_handled}
use Rattle.epic_router.specs.Leaving.{packet_after}
use Rattle.epic_router.specs.Remembering.{key_at}
use Rattle.epic_router.specs.RightTurns.{IsRightTurn, IsForwarded, IsDelivered}
use Rattle.epic_router.proofs.Right.{turns_are_right}
use Rattle.epic_ledger.specs.History.{History, Emission, emission_at, emitted}
use Rattle.epic_model.specs.Passing.{Happened, most_emitted, rolls, due_behind, left, nothing, answer_at, turned_at, turned_by, pass_at, passed_on, carried, last_history}
use Rattle.epic_model.specs.Windows.{router_window}
use Rattle.epic_model.proofs.Grown.{parse-spelling, emission_next}
use Rattle.epic_actors.specs.Routers.{HasRoom, RouterTable, router_of}
use Rattle.epic_actors.specs.Telling.{IsAcceptedAt, as_passed}
use Rattle.epic_actors.proofs.Leaving.{hops_some}
use Rattle.epic_model.specs.Steps.{passages_of}
use Rattle.epic_model.specs.Traces.{shown}
use Rattle.epic_world.specs.Way.{last_hop, WayHasRoom}
use Rattle.epic_world.proofs.Grown.{same_long}

-- ---- rooms

onward_moves : (o : Option (AsId × ℕ × LinkKind)) (P Q : AsId → Type 0) → ((b : AsId) → P b → Q b) → IfSome o (λ far. P far.0) → IfSome o (λ far. Q far.0)
onward_moves None P Q f h = h
onward_moves (Some far) P Q f h = f far.0 h

-- rooms that become others everywhere become so on the way
pub way_moves : (n m : ℕ) (t : Network) (old new : RouterTable) (most : ℕ) (a : AsId) (r : Route) (j : ℕ)
    → ((b : AsId) → HasRoom n (router_of old b) → HasRoom m (router_of new b))
    → WayHasRoom n t old most a r j → WayHasRoom m t new most a r j
way_moves n m t old new zero a r j move room = room
way_moves n m t old new (suc most) a r j move room = (
  move a room.0,
  λ small. onward_moves (neighbour t a (egress r (last_hop r j))) (λ b. WayHasRoom n t old most b r (last_hop r j + 1)) (λ b. WayHasRoom m t new most b r (last_hop r j + 1))
      (λ b h. way_moves n m t old new most b r (last_hop r j + 1) move h) (room.1 small),
)

-- the router is ready, and so are those on the way from the other end of its link
pub way_here : (n : ℕ) (t : Network) (routers : RouterTable) (m most : ℕ) (a b : AsId) (r : Route) (j last out iface : ℕ) (kind : LinkKind)
    → suc m ≡ most → HasRoom n (router_of routers a) → last ≡ last_hop r j → out ≡ egress r last → Some (b, iface, kind) ≡ neighbour t a out
    → WayHasRoom n t routers m b r (last + 1) → WayHasRoom n t routers most a r j
way_here n t routers m most a b r j last out iface kind more room is leaves far way =
    let onward = subst (λ (o : Option (AsId × ℕ × LinkKind)). IfSome o (λ f. WayHasRoom n t routers m f.0 r (last + 1))) far way in
    subst (λ k. WayHasRoom n t routers k a r j) more (
      room,
      λ small. subst (λ k. IfSome (neighbour t a (egress r k)) (λ f. WayHasRoom n t routers m f.0 r (k + 1))) is
          (subst (λ o. IfSome (neighbour t a o) (λ f. WayHasRoom n t routers m f.0 r (last + 1))) leaves onward),
    )

-- no link goes on from it
pub way_ends : (n : ℕ) (t : Network) (routers : RouterTable) (m most : ℕ) (a : AsId) (r : Route) (j last out : ℕ)
    → suc m ≡ most → HasRoom n (router_of routers a) → last ≡ last_hop r j → out ≡ egress r last → None ≡ neighbour t a out
    → WayHasRoom n t routers most a r j
way_ends n t routers m most a r j last out more room is leaves none =
    let onward = subst (λ (o : Option (AsId × ℕ × LinkKind)). IfSome o (λ f. WayHasRoom n t routers m f.0 r (last + 1))) none tt in
    subst (λ k. WayHasRoom n t routers k a r j) more (
      room,
      λ small. subst (λ k. IfSome (neighbour t a (egress r k)) (λ f. WayHasRoom n t routers m f.0 r (k + 1))) is
          (subst (λ o. IfSome (neighbour t a o) (λ f. WayHasRoom n t routers m f.0 r (last + 1))) leaves onward),
    )

-- every hop is passed
pub way_over : (n : ℕ) (t : Network) (routers : RouterTable) (m most : ℕ) (a : AsId) (r : Route) (j : ℕ)
    → suc m ≡ most → HasRoom n (router_of routers a) → length r.hops ≤ j → WayHasRoom n t routers most a r j
way_over n t routers m most a r j more room past = subst (λ k. WayHasRoom n t routers k a r j) more (room, λ small. absurd (omega (arith, small, past)))

-- ---- where a packet goes on

last_as : (p : Contents) (j : ℕ) → last_handled p j ≡ last_hop p.route j
unfolding last_handled has_second last_hop
last_as p j = refl

both_hops : (b : Bool) (j : ℕ) → j + (if b then 2 else 1) ≡ (if b then j + 1 else j) + 1
both_hops true j = omega arith
both_hops false j = omega arith

hops_end : (p : Contents) (j : ℕ) → j + handled_hops p j ≡ last_handled p j + 1
unfolding handled_hops last_handled
hops_end p j = both_hops (has_second p j) j

-- the emission that a turn made: the same packet, at the next place on its way
pub record Onward (t : Network) (a : AsId) (bytes : List ℕ) (d : Happened) : Type 0 where
  pub next : Emission
  pub there : emission_at d.history.emissions d.emission ≡ Some next
  pub size : length next.bytes ≡ length bytes
  pub route : (parse next.bytes).route ≡ (parse bytes).route
  pub dst : (parse next.bytes).dst ≡ (parse bytes).dst
  pub current : (parse next.bytes).current ≡ last_hop (parse bytes).route (parse bytes).current + 1
  pub within : (parse bytes).current < length (parse bytes).route.hops
  pub goes : ((b : AsId) → (iface : ℕ) → next.place ≡ Router b iface → (n : ℕ) (m : ℕ) (routers : RouterTable)
      → WayHasRoom n t routers (suc m) a (parse bytes).route (parse bytes).current
      → WayHasRoom n t routers m b (parse bytes).route (last_hop (parse bytes).route (parse bytes).current + 1))
  pub ends : (d' : HostId) → next.place ≡ Host d' → (d' ≡ (parse bytes).dst) × ((parse bytes).dst.asn ≡ a)

-- how it goes on from a hop
record GoesFrom (t : Network) (a : AsId) (p : Contents) (due : Place) : Type 0 where
  goes : (b : AsId) → (iface : ℕ) → due ≡ Router b iface → (n : ℕ) (m : ℕ) (routers : RouterTable)
      → p.current < length p.route.hops → WayHasRoom n t routers (suc m) a p.route p.current → WayHasRoom n t routers m b p.route (last_hop p.route p.current + 1)
  ends : (d : HostId) → due ≡ Host d → (d ≡ p.dst) × (p.dst.asn ≡ a)

abbrev router_in : AsId → Place → AsId
router_in other (Router a iface) = a
router_in other (Host d) = other

abbrev host_in : HostId → Place → HostId
host_in other (Router a iface) = other
host_in other (Host d) = d

far_room : (o : Option (AsId × ℕ × LinkKind)) (a b : AsId) (out iface : ℕ) (P : AsId → Type 0) → IsSome o
    → option_map_or (λ far. Router far.0 far.1) o (Router a out) ≡ Router b iface → IfSome o (λ far. P far.0) → P b
far_room None a b out iface P some e h = absurd (cc)
far_room (Some far) a b out iface P some e h = subst P (ap (router_in b) e) h

far_no_host : (o : Option (AsId × ℕ × LinkKind)) (a : AsId) (out : ℕ) (d : HostId) → option_map_or (λ far. Router far.0 far.1) o (Router a out) ≡ Host d → ⊥
far_no_host None a out d e = absurd (cc)
far_no_host (Some far) a out d e = absurd (cc)

forwards : (t : Network) (a : AsId) (p : Contents) (out : ℕ) → IsForwarded t a p out → GoesFrom t a p (due_behind t a out)
unfolding due_behind
forwards t a p out f = record {
  goes = λ b iface is n m routers within room.
      (let here : egress p.route (last_hop p.route p.current) ≡ out = ap (egress p.route) (sym (last_as p p.current)) ∙ f.egress_is in
      far_room (neighbour t a out) a b out iface (λ c. WayHasRoom n t routers m c p.route (last_hop p.route p.current + 1)) f.linked is
      (subst (λ o. IfSome (neighbour t a o) (λ far. WayHasRoom n t routers m far.0 p.route (last_hop p.route p.current + 1))) here (room.1 within)));
  ends = λ d is. absurd (far_no_host (neighbour t a out) a out d is);
}

delivers : (t : Network) (a : AsId) (p : Contents) (host : ℕ) → IsDelivered a p host → GoesFrom t a p (Host (record { asn = a; host = host }))
delivers t a p host f = record {
  goes = λ b iface is n m routers within room. absurd (cc);
  ends = λ d is. (
    sym (ap (host_in d) is) ∙ (λ i. record { asn = sym f.destination i; host = sym f.host_is i }),
    f.destination,
  );
}

left_onward : (t : Network) (step now : ℕ) (h : History) (a : AsId) (iface : ℕ) (bytes : List ℕ) (turn : Turn) (due : Place) (hops : ℕ) (generations : List ℕ)
    → IsBytes bytes → IsAcceptedAt t now h a iface bytes turn hops generations → GoesFrom t a (parse bytes) due
    → Onward t a bytes (left t step h a bytes turn due (take hops generations))
unfolding left
left_onward t step now h a iface bytes turn due hops generations all acc from =
    let p = parse bytes in
    let q = packet_after t a turn p in
    let is = parse-spelling q acc.goes_on.packet in
    let there = acc.there in
    let some = hops_some t now h a iface bytes turn hops generations acc in
    let within : p.current < length p.route.hops = omega (arith, there, some) in
    record {
      next = record { place = due; bytes = spelling q };
      there = emission_next h.emissions (record { place = due; bytes = spelling q });
      size = same_long t now h a iface bytes turn hops generations acc;
      route = ap (λ (x : Contents). x.route) is ∙ acc.goes_on.route;
      dst = ap (λ (x : Contents). x.dst) is ∙ acc.goes_on.dst;
      current = ap (λ (x : Contents). x.current) is
          ∙ (acc.goes_on.current ∙ (ap (λ n. p.current + n) acc.hops_are ∙ (hops_end p p.current ∙ ap (λ n. n + 1) (last_as p p.current))));
      within = within;
      goes = λ b i e n m routers room. from.goes b i e n m routers within room;
      ends = from.ends;
    }

turned_by_onward : (t : Network) (step now : ℕ) (h : History) (a : AsId) (iface : ℕ) (bytes : List ℕ) → IsBytes bytes → (turn : Turn)
    → IsRightTurn t a (candidates_of (rolls h.events a)) iface now (told_of t.profile (router_window h a) now (key_at (parse bytes) (parse bytes).current)) bytes turn
    → (turned_by t step h a bytes turn).emission ≢ 0 → Onward t a bytes (turned_by t step h a bytes turn)
unfolding turned_by
turned_by_onward t step now h a iface bytes all (Forward out hops generations) right some =
    left_onward t step now h a iface bytes (Forward out hops generations) (due_behind t a out) hops generations all right.0 (forwards t a (parse bytes) out right.1)
turned_by_onward t step now h a iface bytes all (Deliver host hops generations) right some =
    left_onward t step now h a iface bytes (Deliver host hops generations) (Host (record { asn = a; host = host })) hops generations all right.0 (delivers t a (parse bytes) host right.1)
turned_by_onward t step now h a iface bytes all (Refused check hop) right some = absurd (some refl)

pub turned_onward : (t : Network) (step now : ℕ) (h : History) (a : AsId) (iface : ℕ) (bytes : List ℕ) → IsBytes bytes
    → (turned_at t step now h a iface bytes).emission ≢ 0 → Onward t a bytes (turned_at t step now h a iface bytes)
unfolding turned_at answer_at
turned_onward t step now h a iface bytes all =
    cond_both (nat_lt most_emitted (emitted h.emissions + length bytes)) (nothing h Full) (turned_by t step h a bytes (answer_at t now h a iface bytes))
    (λ d. d.emission ≢ 0 → Onward t a bytes d)
    (λ _ some. absurd (some refl))
    (λ _. turned_by_onward t step now h a iface bytes all (answer_at t now h a iface bytes)
    (turns_are_right t a (candidates_of (rolls h.events a)) iface now (told_of t.profile (router_window h a) now (key_at (parse bytes) (parse bytes).current)) bytes (bytes_are_read bytes all)))

-- ---- what is told

module _ (t : Network) (step now most : ℕ) (h : History) (number : ℕ) (e : Emission) (there : emission_at h.emissions number ≡ Some e) where
  pub passed_is : passed_on t step now h number ≡ pass_at t step now h e.place e.bytes
  unfolding passed_on
  passed_is = ap (λ o. option_map_or (λ x. pass_at t step now h x.place x.bytes) o (nothing h Full)) there

  told_here : (d : Happened) → map shown (option_map_or (λ x. record { before = h; place = x.place; came = x.bytes; happened = d } ∷ []) (emission_at h.emissions number) []) ≡ as_passed e.place d ∷ []
  unfolding shown
  told_here d = ap (λ o. map shown (option_map_or (λ (x : Emission). record { before = h; place = x.place; came = x.bytes; happened = d } ∷ []) o [])) there

  pub ends_told : (passed_on t step now h number).emission ≡ 0
      → map shown (passages_of h number (carried t step now (suc most) h number)) ≡ as_passed e.place (passed_on t step now h number) ∷ []
  unfolding carried passages_of
  ends_told none =
      let d = passed_on t step now h number in
      ap (λ b. map shown (passages_of h number (d ∷ (if b then [] else carried t step now most d.history d.emission)))) (eq-eqb d.emission 0 none)
      ∙ (ap (map shown) (append-nil _) ∙ told_here d)

  pub more_told : (passed_on t step now h number).emission ≢ 0
      → (let d = passed_on t step now h number in
      map shown (passages_of h number (carried t step now (suc most) h number))
      ≡ as_passed e.place d ∷ map shown (passages_of d.history d.emission (carried t step now most d.history d.emission)))
  unfolding carried passages_of
  more_told some =
      let d = passed_on t step now h number in
      ap (λ b. map shown (passages_of h number (d ∷ (if b then [] else carried t step now most d.history d.emission)))) (ne_eqb d.emission 0 some)
      ∙ (map-append shown _ _ ∙ ap (λ xs. xs ++ map shown (passages_of d.history d.emission (carried t step now most d.history d.emission))) (told_here d))

  pub ends_after : (passed_on t step now h number).emission ≡ 0 → last_history h (carried t step now (suc most) h number) ≡ (passed_on t step now h number).history
  unfolding carried
  ends_after none =
      let d = passed_on t step now h number in
      ap (λ b. last_history d.history (if b then [] else carried t step now most d.history d.emission)) (eq-eqb d.emission 0 none)

  pub more_after : (passed_on t step now h number).emission ≢ 0
      → (let d = passed_on t step now h number in
      last_history h (carried t step now (suc most) h number) ≡ last_history d.history (carried t step now most d.history d.emission))
  unfolding carried
  more_after some =
      let d = passed_on t step now h number in
      ap (λ b. last_history d.history (if b then [] else carried t step now most d.history d.emission)) (ne_eqb d.emission 0 some)
