-- Turns and arrivals put nothing twice into a ledger.
use Rattle.std.proofs.Common.{◌≡◌, ℕ, suc, ◌+◌, ◌<◌, ◌≤◌, ◌⊎◌, inl, inr, Bool, true, false, not, List, [], ◌∷◌, ◌++◌, length, take, None, Some, refl, ap, sym, ◌∙◌, ⊎_elim, arith, length-take}
use Rattle.std.specs.Prelude.{◌==◌, ◌||◌, ◌&&◌, nat_lt, slice_get, IsSome}
use Rattle.std.proofs.lemmas.Bool.{and_parts, and_right, cond-false, cond_both, cases_Bool, ne_eqb, or_from}
use Rattle.std.proofs.lemmas.Option.{cond_some}
use Rattle.epic_num.specs.declared.arrival.Arrival.{Arrival}
use Rattle.epic_num.specs.declared.arrival.Arrival.TheVariants as arrival
use Rattle.epic_num.specs.declared.name.AsId.{AsId}
use Rattle.epic_num.specs.declared.name.HostId.{HostId}
use Rattle.epic_num.specs.declared.passed.PassResult.TheVariants.{Full}
use Rattle.epic_num.specs.declared.passed.Place.{Place}
use Rattle.epic_num.specs.declared.passed.Place.TheVariants.{Host}
use Rattle.epic_num.specs.declared.turn.Turn.{Turn}
use Rattle.epic_num.specs.declared.turn.Turn.TheVariants.{Forward, Deliver, Refused}
use Rattle.epic_num.specs.Levels.{is_timed}
use Rattle.epic_num.specs.Same.{same_as, same_host}
use Rattle.epic_num.specs.Windows.{Told, was_here}
use Rattle.epic_num.proofs.SameLaws.{same_as-Decides, same_host-Decides}
use Rattle.epic_layout.specs.Contents.{Contents, hop_count}
use Rattle.epic_layout.specs.Layout.{parse}
use Rattle.epic_layout.specs.Reading.{IsRead}
use Rattle.epic_layout.specs.Route.{Route, place, is_first}
use Rattle.epic_layout.specs.Spelling.{spelling}
use Rattle.epic_layout.proofs.Joins.{segments_join}
use Rattle.epic_topo.specs.Network.{Network, neighbour}
use Rattle.epic_window.specs.Entries.{told_of}
use Rattle.epic_window.specs.declared.key.WinKey.{WinKey}
use Rattle.epic_router.specs.Candidates.{candidates_of}
use Rattle.epic_router.specs.Checks.{is_turn, has_second, handled_hops}
use Rattle.epic_router.specs.Leaving.{packet_after}
use Rattle.epic_router.specs.RightTurns.{IsAccepted, IsRightTurn}
use Rattle.epic_router.proofs.Right.{turns_are_right, second_is, one, few_hops}
use Rattle.epic_ends.specs.RightArrivals.{IsAtEnd, IsChecked, IsRightArrival}
use Rattle.epic_ends.proofs.Arrivals.{arrivals_are_right}
use Rattle.epic_ledger.specs.History.{History, Emission, emitted}
use Rattle.epic_ledger.specs.Facts.{packet_at, issues_in}
use Rattle.epic_ledger.specs.Lawful.{IsLawful}
use Rattle.epic_ledger.specs.declared.event.Event.{Event}
use Rattle.epic_ledger.specs.declared.event.Event.TheVariants as event
use Rattle.epic_model.specs.Passing.{most_emitted, rolls, passes_from, nothing, left, due_behind, turned_by, answer_at, turned_at, arrives, arrived_by, arrival_at, arrived_at}
use Rattle.epic_model.specs.Twice.{NothingTwice, TurnsStayOnce, ArrivalsStayOnce}
use Rattle.epic_model.specs.Windows.{router_entry, router_window, host_entry, host_window, AreOnce, NoneTwice}
use Rattle.epic_router.specs.Remembering.{key_at}
use Rattle.epic_model.proofs.Grown.{parse-spelling, packet_next, passes_at, entry_stays}
use Rattle.epic_model.proofs.Remembered.{fresh_live, unfound, once_same, once_none, once_more, once_others, once_first}

pub nothing_twice : NothingTwice
nothing_twice = record { routers = λ a. once_none (router_entry [] a); hosts = λ d. once_none (host_entry d) }

-- ---- what becomes of bytes, by cases

-- the packet is due behind a link of the AS, or at a host of it
abbrev pub IsDueFrom : Network → AsId → Place → Type 0
IsDueFrom t a due =
    ((out : ℕ) × ((due ≡ due_behind t a out) × IsSome (neighbour t a out)))
    ⊎ ((host : ℕ) × (◌≡◌ {A = Place} due (Host (record { asn = a; host = host }))))

-- what holds of a ledger that stays, and of one with the passes of an accepted turn, holds after a turn
pub after_turn : (t : Network) (step now : ℕ) (h : History) (a : AsId) (iface : ℕ) (bytes : List ℕ) (P : History → Type 0)
    → IsRead bytes → P h
    → ((turn : Turn) (due : Place) (hops : ℕ) (generations : List ℕ)
    → (let p = parse bytes in
    IsAccepted t a (candidates_of (rolls h.events a)) iface now (told_of t.profile (router_window h a) now (key_at p p.current)) bytes turn hops generations)
    → IsDueFrom t a due
    → P (left t step h a bytes turn due (take hops generations)).history)
    → P (turned_at t step now h a iface bytes).history
unfolding turned_at answer_at turned_by
after_turn t step now h a iface bytes P read same accepted =
    cond_both (nat_lt most_emitted (emitted h.emissions + length bytes)) (nothing h Full) (turned_by t step h a bytes (answer_at t now h a iface bytes)) (λ d. P d.history)
    (λ _. same)
    (λ _. by (answer_at t now h a iface bytes) (turns_are_right t a candidates iface now told bytes read))
  where
    candidates : List ℕ
    candidates = candidates_of (rolls h.events a)

    told : Told
    told = told_of t.profile (router_window h a) now (key_at (parse bytes) (parse bytes).current)

    by : (turn : Turn) → IsRightTurn t a candidates iface now told bytes turn → P (turned_by t step h a bytes turn).history
    by (Forward out hops generations) right = accepted (Forward out hops generations) (due_behind t a out) hops generations right.0 (inl (out, (refl, right.1.linked)))
    by (Deliver host hops generations) right = accepted (Deliver host hops generations) (Host (record { asn = a; host = host })) hops generations right.0 (inr (host, refl))
    by (Refused check hop) right = same

-- ---- turns

-- a hop that is handled with the one before it is none at which a packet comes to a router
pub second_no_turn : (p : Contents) (j : ℕ) → has_second p j ≡ true → is_turn p (j + 1) ≡ false
unfolding is_turn
second_no_turn p j e =
    or_from _ _ (ne_eqb (j + 1) 0 (λ z. omega arith)) (ap not ((segments_join p.route.segments).behind_last j (second_is p j e).0))

pub turn_by_route : (p q : Contents) (k : ℕ) → q.route ≡ p.route → is_turn q k ≡ is_turn p k
unfolding is_turn
turn_by_route p q k e = ap (λ (r : Route). k == 0 || not (is_first (place r.segments k))) e

-- of the hops that are handled the first alone is one at which the packet comes
pub later_no_turn : (p : Contents) (j i : ℕ) → suc i < handled_hops p j → is_turn p (j + suc i) ≡ false
later_no_turn p j i h =
    let few = few_hops p j in
    let at : j + suc i ≡ j + 1 = omega (arith, h, few) in
    ⊎_elim (λ e. ap (is_turn p) at ∙ second_no_turn p j e) (λ e. absurd (omega (arith, h, one p j e))) (cases_Bool (has_second p j))

-- the entry of a pass, if it has one
pub record IsEntry (es : List Emission) (b : AsId) (step : ℕ) (a : AsId) (j number : ℕ) (y : WinKey × ℕ) : Type 0 where
  pub asn_is : a ≡ b
  pub timed : is_timed (packet_at es number).first ≡ true
  pub comes : is_turn (packet_at es number) j ≡ true
  pub is : ◌≡◌ {A = WinKey × ℕ} (key_at (packet_at es number) j, step) y

pub pass_entry : (es : List Emission) (b : AsId) (step : ℕ) (a : AsId) (j g number : ℕ) (y : WinKey × ℕ)
    → router_entry es b (event.Pass step a j g number) ≡ Some y → IsEntry es b step a j number y
unfolding router_entry
pass_entry es b step a j g number y e =
    let q = packet_at es number in
    let parts = cond_some (same_as a b && is_timed q.first && is_turn q j) (key_at q j, step) y e in
    let tests = and_parts (same_as a b && is_timed q.first) (is_turn q j) parts.0 in
    let front = and_parts (same_as a b) (is_timed q.first) tests.0 in
    record { asn_is = (same_as-Decides a b).0 front.0; timed = front.1; comes = tests.1; is = parts.1 }

pub no_entry : (es : List Emission) (b : AsId) (step : ℕ) (a : AsId) (j g number : ℕ) → is_turn (packet_at es number) j ≡ false
    → router_entry es b (event.Pass step a j g number) ≡ None
unfolding router_entry
no_entry es b step a j g number e =
    let q = packet_at es number in
    cond-false (same_as a b && is_timed q.first && is_turn q j) (Some (key_at q j, step)) None (and_right (same_as a b && is_timed q.first) (is_turn q j) e)

key_is : (p q : Contents) (j : ℕ) → q.src ≡ p.src → q.ts ≡ p.ts → key_at q j ≡ key_at p j
unfolding key_at
key_is p q j src ts i = record { src = src i; ts = ts i; hop = j }

passes_no_arrival : (d : HostId) (step : ℕ) (a : AsId) (j g number : ℕ) → host_entry d (event.Pass step a j g number) ≡ None
unfolding host_entry
passes_no_arrival d step a j g number = refl

module _ (t : Network) (step now : ℕ) (h : History) (a : AsId) (iface : ℕ) (bytes : List ℕ) (lawful : IsLawful h) (none : NoneTwice h)
    (turn : Turn) (due : Place) (hops : ℕ) (generations : List ℕ)
    (acc : IsAccepted t a (candidates_of (rolls h.events a)) iface now (told_of t.profile (router_window h a) now (key_at (parse bytes) (parse bytes).current)) bytes turn hops generations) where
  -- the packet as it came in, and as it left
  came : Contents
  came = parse bytes

  gone : Contents
  gone = packet_after t a turn (parse bytes)

  more : List Emission
  more = record { place = due; bytes = spelling gone } ∷ []

  number : ℕ
  number = length h.emissions + 1

  new_packet : packet_at (h.emissions ++ more) number ≡ gone
  unfolding gone more number
  new_packet = packet_next h.emissions (record { place = due; bytes = spelling gone }) ∙ parse-spelling gone acc.goes_on.packet

  old_once : (b : AsId) → AreOnce (router_entry (h.emissions ++ more) b) h.events
  old_once b =
      once_same (router_entry h.emissions b) (router_entry (h.emissions ++ more) b) h.events
      (λ n e at. entry_stays h.emissions more b (issues_in (take n h.events)) e (lawful.fit n e at)) (none.routers b)

  -- its key is new
  key_new : (b : AsId) (g : ℕ) (y : WinKey × ℕ) (n : ℕ) (d : Event) (x : WinKey × ℕ)
      → router_entry (h.emissions ++ more) b (event.Pass step a came.current g number) ≡ Some y
      → slice_get h.events n ≡ Some d → router_entry (h.emissions ++ more) b d ≡ Some x → x.0 ≡ y.0 → ⊥
  unfolding came gone was_here told_of key_at
  key_new b g y n d x is at there same =
      let e = pass_entry (h.emissions ++ more) b step a came.current g number y is in
      let q = new_packet in
      let timed : is_timed came.first ≡ true = sym (ap is_timed (ap (λ (c : Contents). c.first) q ∙ acc.goes_on.first)) ∙ e.timed in
      let timely = acc.timely timed in
      let live = fresh_live t.profile came.ts now timely.not_stale in
      let old = sym (entry_stays h.emissions more a (issues_in (take n h.events)) d (lawful.fit n d at)) ∙ (ap (λ c. router_entry (h.emissions ++ more) c d) e.asn_is ∙ there) in
      let key = key_is came (packet_at (h.emissions ++ more) number) came.current
      (ap (λ (c : Contents). c.src) q ∙ acc.goes_on.src) (ap (λ (c : Contents). c.ts) q ∙ acc.goes_on.ts) in
      unfound t.profile now (key_at came came.current) (router_entry h.emissions a) h.events n d x timely.unseen live at old
      (same ∙ (sym (ap (λ (z : WinKey × ℕ). z.0) e.is) ∙ key))

  -- the hop after is not remembered
  rest_none : (b : AsId) (gs : List ℕ) → suc (length gs) ≤ hops → (n : ℕ) (d : Event)
      → slice_get (passes_from step a number (came.current + 1) gs) n ≡ Some d → router_entry (h.emissions ++ more) b d ≡ None
  unfolding came gone
  rest_none b gs few n d at =
      let e = passes_at step a number (came.current + 1) gs n d at in
      let same : came.current + 1 + n ≡ came.current + suc n = omega arith in
      let route : (packet_at (h.emissions ++ more) number).route ≡ came.route = ap (λ (c : Contents). c.route) new_packet ∙ acc.goes_on.route in
      let no = turn_by_route came (packet_at (h.emissions ++ more) number) (came.current + 1 + n) route
      ∙ (ap (is_turn came) same ∙ later_no_turn came came.current n (omega (arith, few, e.0, acc.hops_are))) in
      ap (router_entry (h.emissions ++ more) b) e.1.1 ∙ no_entry (h.emissions ++ more) b step a (came.current + 1 + n) e.1.0 number no

  routers_once : (b : AsId) (gs : List ℕ) → length gs ≤ hops → AreOnce (router_entry (h.emissions ++ more) b) (h.events ++ passes_from step a number came.current gs)
  routers_once b [] few = once_others (router_entry (h.emissions ++ more) b) h.events [] (old_once b) (λ n e at. absurd (cc))
  routers_once b (g ∷ gs) few =
      once_first (router_entry (h.emissions ++ more) b) h.events (passes_from step a number (came.current + 1) gs) (event.Pass step a came.current g number)
      (old_once b) (key_new b g) (rest_none b gs few)

  hosts_once : (d : HostId) (gs : List ℕ) → AreOnce (host_entry d) (h.events ++ passes_from step a number came.current gs)
  hosts_once d gs =
      once_others (host_entry d) h.events (passes_from step a number came.current gs) (none.hosts d)
      (λ n e at. (let is = passes_at step a number came.current gs n e at in
      ap (host_entry d) is.1.1 ∙ passes_no_arrival d step a (came.current + n) is.1.0 number))

  pub left_once : NoneTwice (left t step h a bytes turn due (take hops generations)).history
  unfolding left came gone more number
  left_once =
      let few : length (take hops generations) ≤ hops = omega (arith, length-take hops generations) in
      record {
        routers = λ b. routers_once b (take hops generations) few;
        hosts = λ d. hosts_once d (take hops generations);
      }

pub turns_stay_once : TurnsStayOnce
turns_stay_once t step now h a iface bytes read lawful none =
    after_turn t step now h a iface bytes NoneTwice read none (λ turn due hops generations acc _. left_once t step now h a iface bytes lawful none turn due hops generations acc)

-- ---- arrivals

arrival_no_pass : (es : List Emission) (a : AsId) (step : ℕ) (d src : HostId) (ts hops : ℕ) (checked : Bool) → router_entry es a (event.Arrive step d src ts hops checked) ≡ None
unfolding router_entry
arrival_no_pass es a step d src ts hops checked = refl

-- what becomes of bytes at a host, by cases
pub after_arrival : (t : Network) (step now : ℕ) (h : History) (d : HostId) (bytes : List ℕ) (P : History → Type 0)
    → P h
    → ((answer : Arrival) (checked : Bool) → IsAtEnd d bytes
    → (checked ≡ true → IsChecked t now (told_of t.profile (host_window h d) now (key_at (parse bytes) (hop_count (parse bytes)))) (parse bytes))
    → P (arrives t step h d (parse bytes) answer checked).history)
    → P (arrived_at t step now h d bytes).history
unfolding arrived_at arrival_at arrived_by
after_arrival t step now h d bytes P same taken =
    by (arrival_at t now h d bytes) (arrivals_are_right t d now told bytes)
  where
    told : Told
    told = told_of t.profile (host_window h d) now (key_at (parse bytes) (hop_count (parse bytes)))

    by : (answer : Arrival) → IsRightArrival t d now told bytes answer → P (arrived_by t step h d bytes answer).history
    by arrival.Accepted right = taken arrival.Accepted true right.0 (λ _. right.1)
    by arrival.Unchecked right = taken arrival.Unchecked false right.0 (λ e. absurd (cc))
    by (arrival.Refused check) right = same

arrive_entry : (d e src : HostId) (step ts hops : ℕ) (checked : Bool) (y : WinKey × ℕ) → host_entry e (event.Arrive step d src ts hops checked) ≡ Some y
    → (d ≡ e) × (checked ≡ true) × (record { src = src; ts = ts; hop = hops } ≡ y.0)
unfolding host_entry
arrive_entry d e src step ts hops checked y is =
    let k : WinKey = record { src = src; ts = ts; hop = hops } in
    let parts = cond_some (same_host d e && checked) (k, step) y is in
    let tests = and_parts (same_host d e) checked parts.0 in
    ((same_host-Decides d e).0 tests.0, tests.1, ap (λ (z : WinKey × ℕ). z.0) parts.1)

pub arrivals_stay_once : ArrivalsStayOnce
unfolding arrives was_here told_of key_at
arrivals_stay_once t step now h d bytes none =
    after_arrival t step now h d bytes NoneTwice none
    (λ answer checked end right. record {
      routers = λ a. once_more (router_entry h.emissions a) h.events (event.Arrive step d p.src p.ts (hop_count p) checked) (none.routers a)
          (λ y n e x is _ _ _. (let gone = arrival_no_pass h.emissions a step d p.src p.ts (hop_count p) checked in absurd (cc)));
      hosts = λ e. once_more (host_entry e) h.events (event.Arrive step d p.src p.ts (hop_count p) checked) (none.hosts e)
          (λ y n c x is at there same. (let new = arrive_entry d e p.src step p.ts (hop_count p) checked y is in
          let c' = right new.1 in
          unfound t.profile now (key_at p (hop_count p)) (host_entry d) h.events n c x c'.unseen (fresh_live t.profile p.ts now c'.not_stale) at
          (ap (λ k. host_entry k c) new.0 ∙ there) (same ∙ sym new.2)));
    })
  where
    p : Contents
    p = parse bytes
