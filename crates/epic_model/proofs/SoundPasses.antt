-- Turns and arrivals keep a ledger sound, and passes of second hops beside those of first.
use Rattle.std.proofs.Common.{◌≡◌, ℕ, zero, suc, ◌+◌, ◌-◌, ◌<◌, ◌≤◌, inl, inr, Bool, true, false, List, [], ◌∷◌, ◌++◌, length, take, Option, None, Some, refl, ap, sym, subst, ◌∙◌, ⊎_elim, arith, add-zero, length-take, get_or-take}
use Rattle.std.specs.Prelude.{slice_get, slice_index, IsSome, bytes_eq}
use Rattle.std.specs.Option.{option_map_or}
use Rattle.std.proofs.lemmas.Bool.{eqb-true, cases_Bool, both_ways, cond-true, and_from}
use Rattle.std.proofs.lemmas.List.{append-nil, append_assoc}
use Rattle.std.proofs.lemmas.List.Elements.{All-push}
use Rattle.std.proofs.lemmas.Option.{same_Some, get_or_from_slice_get, slice_get_within}
use Rattle.epic_num.specs.declared.name.AsId.{AsId}
use Rattle.epic_num.specs.declared.name.HostId.{HostId}
use Rattle.epic_num.specs.declared.passed.Place.{Place}
use Rattle.epic_num.specs.declared.turn.Turn.{Turn}
use Rattle.epic_num.specs.Levels.{is_timed}
use Rattle.epic_num.proofs.SameLaws.{same_as-Decides}
use Rattle.epic_layout.specs.Contents.{Contents, IsPacket, hop_count}
use Rattle.epic_layout.specs.Layout.{parse}
use Rattle.epic_layout.specs.Route.{Route, place, is_first, is_last, ingress, egress, successor, hop, body}
use Rattle.epic_layout.specs.Spelling.{spelling}
use Rattle.epic_layout.proofs.OneSpelling.{packets_are_spelled}
use Rattle.epic_topo.specs.Network.{Network, has}
use Rattle.epic_fields.specs.HopChecks.{hop_name, carries_link, has_link}
use Rattle.epic_fields.specs.Tags.{link}
use Rattle.epic_router.specs.Candidates.{candidates_of}
use Rattle.epic_router.specs.Checks.{is_turn}
use Rattle.epic_router.specs.Leaving.{packet_after}
use Rattle.epic_router.specs.RightTurns.{IsAccepted, IsRightHop}
use Rattle.epic_ledger.specs.History.{History, Emission, step_of}
use Rattle.epic_ledger.specs.Facts.{Pass, packet_at, pass_name}
use Rattle.epic_ledger.specs.Lawful.{IsEmission, FitsPass, IsLast}
use Rattle.epic_ledger.specs.declared.event.Event.{Event}
use Rattle.epic_ledger.specs.declared.event.Event.TheVariants as event
use Rattle.epic_ledger.specs.OneMore.{with_event, with_emission}
use Rattle.epic_ledger.proofs.Growing.{packet_at-append}
use Rattle.epic_audit.specs.Kept.{IsKeptPass, Kept}
use Rattle.epic_audit.proofs.Growth.{events_are_lawful, emissions_are_lawful, emissions_add_nothing}
use Rattle.epic_audit.proofs.Keeping.{events_keep}
use Rattle.epic_model.specs.Passing.{rolls, passes_from, left, arrives}
use Rattle.epic_model.specs.Sound.{IsSound, TurnsAreSound, ArrivalsAreSound}
use Rattle.epic_model.specs.Twice.{Passes, PassesFirst, BeginWell, NoneTwiceByEmissions, TurnsBeginWell}
use Rattle.epic_model.specs.Windows.{router_entry, router_window}
use Rattle.epic_router.specs.Remembering.{key_at}
use Rattle.epic_window.specs.Entries.{told_of}
use Rattle.epic_model.proofs.Grown.{parse-spelling, emission_next, packet_next}
use Rattle.epic_model.proofs.Longer.{AreThere, at_front, at_back}
use Rattle.epic_model.proofs.Once.{after_turn, after_arrival, turn_by_route}
use Rattle.epic_model.proofs.Riding.{front_or_back, passed_under, lawful_there}

-- ---- steps

pub last_at : (events : List Event) (step later : ℕ) → IsLast events step → step ≤ later → IsLast events later
last_at events step later all h k d small = (let early = all k d small in omega (arith, early, h))

last_more : (events : List Event) (e : Event) (step : ℕ) → IsLast events step → step_of e ≡ step → IsLast (events ++ e ∷ []) step
last_more events e step all same = All-push (λ d. step_of d ≤ step) events e all (omega (arith, same))

-- ---- one event more, and one emission

pub one_emission : (t : Network) (h : History) (x : Emission) (step : ℕ) → IsEmission x → IsSound t h step → IsSound t (with_emission h x) step
one_emission t h x step is sound = record {
  lawful = emissions_are_lawful h x sound.lawful is;
  kept = subst (Kept t) (sym (emissions_add_nothing h x sound.lawful)) sound.kept;
  last = sound.last;
}

pass_step : (step : ℕ) (a : AsId) (j g number : ℕ) → step_of (event.Pass step a j g number) ≡ step
unfolding step_of
pass_step step a j g number = refl

-- the pass of hop j of an emission that is there, which is kept
pub record PassFits (t : Network) (es : List Emission) (a : AsId) (j g number : ℕ) : Type 0 where
  pub fits : FitsPass es number j
  pub kept : IsKeptPass t (record { asn = a; generation = g; hop = j; emission = number; packet = packet_at es number })

one_pass : (t : Network) (h : History) (step : ℕ) (a : AsId) (j g number : ℕ) → PassFits t h.emissions a j g number → IsSound t h step
    → IsSound t (with_event h (event.Pass step a j g number)) step
one_pass t h step a j g number pass sound = record {
  lawful = events_are_lawful h (event.Pass step a j g number) sound.lawful pass.fits (subst (IsLast h.events) (sym (pass_step step a j g number)) sound.last);
  kept = events_keep t h (event.Pass step a j g number) sound.lawful sound.kept pass.fits pass.kept;
  last = last_more h.events (event.Pass step a j g number) step sound.last (pass_step step a j g number);
}

all_passes : (t : Network) (es : List Emission) (events : List Event) (step : ℕ) (a : AsId) (j number : ℕ) (gs : List ℕ)
    → ((i g : ℕ) → slice_get gs i ≡ Some g → PassFits t es a (j + i) g number) → IsSound t (record { events = events; emissions = es }) step
    → IsSound t (record { events = events ++ passes_from step a number j gs; emissions = es }) step
all_passes t es events step a j number [] each sound =
    subst (λ l. IsSound t (record { events = l; emissions = es }) step) (sym (append-nil events)) sound
all_passes t es events step a j number (g ∷ gs) each sound =
    let e = event.Pass step a j g number in
    subst (λ l. IsSound t (record { events = l; emissions = es }) step) (append_assoc events (e ∷ []) (passes_from step a number (j + 1) gs))
    (all_passes t es (events ++ e ∷ []) step a (j + 1) number gs
    (λ i g' at. (let same : j + suc i ≡ j + 1 + i = omega arith in subst (λ k. PassFits t es a k g' number) same (each (suc i) g' at)))
    (one_pass t (record { events = events; emissions = es }) step a j g number (subst (λ k. PassFits t es a k g number) (add-zero j) (each 0 g refl)) sound))

-- ---- accepted hops are kept

linked_on : Network → AsId → ℕ → ℕ → Route → Bool
linked_on t a g j r =
    option_map_or (λ s. bytes_eq (hop r s).link (link t (record { asn = a; generation = g; body = body r j }))) (successor (place r.segments j) j) true

linked_as : (t : Network) (a : AsId) (g : ℕ) (p : Contents) (j : ℕ) → has_link t (hop_name a g p j) p j ≡ linked_on t a g j p.route
unfolding has_link carries_link hop_name linked_on
linked_as t a g p j = refl

passed_as : (t : Network) (w : Pass) → has_link t (pass_name w) w.packet w.hop ≡ linked_on t w.asn w.generation w.hop w.packet.route
unfolding has_link carries_link pass_name linked_on
passed_as t w = refl

kept_pass : (t : Network) (a : AsId) (candidates : List ℕ) (g now number : ℕ) (p q : Contents) (j : ℕ) → has t a ≡ true → j < hop_count p
    → IsRightHop t a candidates g now p j → q.route ≡ p.route
    → IsKeptPass t (record { asn = a; generation = g; hop = j; emission = number; packet = q })
kept_pass t a candidates g now number p q j known within right route = record {
  known = known;
  within = subst (λ (r : Route). j < length r.hops) (sym route) within;
  linked =
      passed_as t (record { asn = a; generation = g; hop = j; emission = number; packet = q })
      ∙ (ap (linked_on t a g j) route ∙ (sym (linked_as t a g p j) ∙ right.link_is));
  no_ingress = subst (λ (r : Route). is_first (place r.segments j) ≡ true → ingress r j ≡ 0) (sym route) (λ first. eqb-true (ingress p.route j) 0 (sym right.first_is ∙ first));
  no_egress = subst (λ (r : Route). is_last (place r.segments j) ≡ true → egress r j ≡ 0) (sym route) (λ last. eqb-true (egress p.route j) 0 (sym right.last_is ∙ last));
}

module _ (t : Network) (step now : ℕ) (h : History) (a : AsId) (iface : ℕ) (bytes : List ℕ) (turn : Turn) (due : Place) (hops : ℕ) (generations : List ℕ)
    (acc : IsAccepted t a (candidates_of (rolls h.events a)) iface now (told_of t.profile (router_window h a) now (key_at (parse bytes) (parse bytes).current)) bytes turn hops generations) where
  pub emitted_as : Emission
  emitted_as = record { place = due; bytes = spelling (packet_after t a turn (parse bytes)) }

  pub emission_is : IsEmission emitted_as
  unfolding emitted_as
  emission_is = record {
    packet = subst IsPacket (sym (parse-spelling (packet_after t a turn (parse bytes)) acc.goes_on.packet)) acc.goes_on.packet;
    faultless = (packets_are_spelled (packet_after t a turn (parse bytes)) acc.goes_on.packet).faultless;
  }

  pub left_packet : packet_at (h.emissions ++ emitted_as ∷ []) (length h.emissions + 1) ≡ packet_after t a turn (parse bytes)
  unfolding emitted_as
  left_packet = packet_next h.emissions emitted_as ∙ parse-spelling (packet_after t a turn (parse bytes)) acc.goes_on.packet

  pub left_route : (packet_at (h.emissions ++ emitted_as ∷ []) (length h.emissions + 1)).route ≡ (parse bytes).route
  left_route = ap (λ (c : Contents). c.route) left_packet ∙ acc.goes_on.route

  few_taken : length (take hops generations) ≤ hops
  few_taken = omega (arith, length-take hops generations)

  each_fits : has t a ≡ true → (i g : ℕ) → slice_get (take hops generations) i ≡ Some g
      → PassFits t (h.emissions ++ emitted_as ∷ []) a ((parse bytes).current + i) g (length h.emissions + 1)
  unfolding emitted_as
  each_fits known i g at =
      let p = parse bytes in
      let x : Emission = record { place = due; bytes = spelling (packet_after t a turn p) } in
      let small : i < hops = (let inside = slice_get_within (take hops generations) i g at in omega (arith, inside, few_taken)) in
      let there : p.current + i < hop_count p = omega (arith, small, acc.there) in
      let is : slice_index generations i ≡ g = sym (get_or-take hops generations i 0 small) ∙ get_or_from_slice_get (take hops generations) i g 0 at in
      let right = subst (λ k. IsRightHop t a (candidates_of (rolls h.events a)) k now p (p.current + i)) is (acc.each i small) in
      record {
        fits = record {
          there = subst (λ (o : Option Emission). IsSome o) (sym (emission_next h.emissions x)) refl;
          within = subst (λ (r : Route). p.current + i < length r.hops) (sym left_route) there;
        };
        kept = kept_pass t a (candidates_of (rolls h.events a)) g now (length h.emissions + 1) p (packet_at (h.emissions ++ x ∷ []) (length h.emissions + 1)) (p.current + i) known there right left_route;
      }

  pub left_sound : has t a ≡ true → IsSound t h step → IsSound t (left t step h a bytes turn due (take hops generations)).history step
  unfolding left emitted_as
  left_sound known sound =
      all_passes t (h.emissions ++ emitted_as ∷ []) h.events step a (parse bytes).current (length h.emissions + 1) (take hops generations) (each_fits known)
      (one_emission t h emitted_as step emission_is sound)

  -- ---- second hops

  pass_at_index : (s : ℕ) (b : AsId) (number j : ℕ) (gs : List ℕ) (n : ℕ) → n < length gs → (g : ℕ) × (slice_get (passes_from s b number j gs) n ≡ Some (event.Pass s b (j + n) g number))
  pass_at_index s b number j [] n small = absurd (omega (arith, small))
  pass_at_index s b number j (g ∷ gs) zero small = (let same : j ≡ j + 0 = omega arith in (g, ap (λ k. Some (event.Pass s b k g number)) same))
  pass_at_index s b number j (g ∷ gs) (suc n) small =
      let rest = pass_at_index s b number (j + 1) gs n (omega (arith, small)) in
      let same : j + 1 + n ≡ j + suc n = omega arith in
      (rest.0, rest.1 ∙ ap (λ k. Some (event.Pass s b k rest.0 number)) same)

  second : (m : ℕ) (b : AsId) (k e s' g' g : ℕ) → m < length (take hops generations)
      → event.Pass s' b k g' e ≡ event.Pass step a ((parse bytes).current + m) g (length h.emissions + 1)
      → is_turn (packet_at (h.emissions ++ emitted_as ∷ []) e) k ≡ false
      → (1 ≤ k) × Passes (h.events ++ passes_from step a (length h.emissions + 1) (parse bytes).current (take hops generations)) e b (k - 1)
  second zero b k e s' g' g small same no_turn =
      let at : k ≡ (parse bytes).current + 0 = cc in
      let plain : (parse bytes).current + 0 ≡ (parse bytes).current = omega arith in
      let number_is : e ≡ length h.emissions + 1 = cc in
      let q = packet_at (h.emissions ++ emitted_as ∷ []) (length h.emissions + 1) in
      let comes : is_turn q (parse bytes).current ≡ true = turn_by_route (parse bytes) q (parse bytes).current left_route ∙ acc.comes in
      absurd (both_ways (is_turn q (parse bytes).current)
      (sym (ap (is_turn q) (at ∙ plain)) ∙ (ap (λ number. is_turn (packet_at (h.emissions ++ emitted_as ∷ []) number) k) (sym number_is) ∙ no_turn)) comes)
  second (suc m) b k e s' g' g small same no_turn =
      let at : k ≡ (parse bytes).current + suc m = cc in
      let number_is : e ≡ length h.emissions + 1 = cc in
      let asn_is : b ≡ a = cc in
      let prior : (parse bytes).current + m ≡ k - 1 = omega (arith, at) in
      let pass = pass_at_index step a (length h.emissions + 1) (parse bytes).current (take hops generations) m (omega (arith, small)) in (
        omega (arith, at),
        record {
          index = length h.events + m;
          step = step;
          generation = pass.0;
          there =
              at_back h.events (passes_from step a (length h.emissions + 1) (parse bytes).current (take hops generations)) m
              ∙ (pass.1 ∙ (λ i. Some (event.Pass step (sym asn_is i) (prior i) pass.0 (sym number_is i))));
        },
      )

  pub left_begins : AreThere h → BeginWell h.emissions h.events
      → BeginWell (left t step h a bytes turn due (take hops generations)).history.emissions (left t step h a bytes turn due (take hops generations)).history.events
  unfolding left emitted_as
  left_begins there begin e b k pass no_turn =
      let p = parse bytes in
      let number = length h.emissions + 1 in
      let gs = take hops generations in
      elim (front_or_back h.events (passes_from step a number p.current gs) pass.index (event.Pass pass.step b k pass.generation e) pass.there) [
        | inl old ↦
            (let here = there pass.index (event.Pass pass.step b k pass.generation e) old in
            let same = packet_at-append h.emissions (emitted_as ∷ []) e here in
            let was = begin e b k (record { index = pass.index; step = pass.step; generation = pass.generation; there = old }) (ap (λ c. is_turn c k) (sym same) ∙ no_turn) in (
              was.0,
              record {
                index = was.1.index;
                step = was.1.step;
                generation = was.1.generation;
                there = at_front h.events (passes_from step a number p.current gs) was.1.index (event.Pass was.1.step b (k - 1) was.1.generation e) was.1.there;
              },
            ))
        | inr new ↦
            (let is = passed_under step a number p.current gs new.0 (event.Pass pass.step b k pass.generation e) new.1 in
            second new.0 b k e pass.step pass.generation is.0 (slice_get_within gs new.0 is.0 is.1.0) is.1.1 no_turn)
      ]

-- ---- turns

pub turns_are_sound : TurnsAreSound
turns_are_sound t step now h a iface bytes known read sound =
    after_turn t step now h a iface bytes (λ g. IsSound t g step) read sound
    (λ turn due hops generations acc _. left_sound t step now h a iface bytes turn due hops generations acc known sound)

pub turns_begin_well : TurnsBeginWell
turns_begin_well t step now h a iface bytes read lawful begin =
    after_turn t step now h a iface bytes (λ g. BeginWell g.emissions g.events) read begin
    (λ turn due hops generations acc _. left_begins t step now h a iface bytes turn due hops generations acc (lawful_there h lawful) begin)

-- ---- arrivals

arrive_step : (step : ℕ) (d src : HostId) (ts hops : ℕ) (checked : Bool) → step_of (event.Arrive step d src ts hops checked) ≡ step
unfolding step_of
arrive_step step d src ts hops checked = refl

pub one_arrival : (t : Network) (h : History) (step : ℕ) (d src : HostId) (ts hops : ℕ) (checked : Bool) → IsSound t h step
    → IsSound t (with_event h (event.Arrive step d src ts hops checked)) step
one_arrival t h step d src ts hops checked sound =
    let e = event.Arrive step d src ts hops checked in
    record {
      lawful = events_are_lawful h e sound.lawful tt (subst (IsLast h.events) (sym (arrive_step step d src ts hops checked)) sound.last);
      kept = events_keep t h e sound.lawful sound.kept tt tt;
      last = last_more h.events e step sound.last (arrive_step step d src ts hops checked);
    }

pub arrivals_are_sound : ArrivalsAreSound
unfolding arrives
arrivals_are_sound t step now h d bytes sound =
    after_arrival t step now h d bytes (λ g. IsSound t g step) sound
    (λ answer checked _ _. one_arrival t h step d (parse bytes).src (parse bytes).ts (hop_count (parse bytes)) checked sound)

-- ---- no two emissions

-- the entry of a pass at a hop at which a packet of levels 1 to 3 comes
entry_of_pass : (es : List Emission) (step : ℕ) (a : AsId) (j g number : ℕ) → is_timed (packet_at es number).first ≡ true → is_turn (packet_at es number) j ≡ true
    → router_entry es a (event.Pass step a j g number) ≡ Some (key_at (packet_at es number) j, step)
unfolding router_entry
entry_of_pass es step a j g number timed comes =
    cond-true _ (Some (key_at (packet_at es number) j, step)) None (and_from _ _ (and_from _ _ ((same_as-Decides a a).1 refl) timed) comes)

-- the first hop that was passed is one at which the packet comes
first_comes : (es : List Emission) (events : List Event) (e : ℕ) (a : AsId) (j : ℕ) → BeginWell es events → PassesFirst events e a j → is_turn (packet_at es e) j ≡ true
first_comes es events e a j begin first =
    ⊎_elim (λ yes. yes)
    (λ none. (let before = begin e a j first.passes none in let least = first.least a (j - 1) before.1 in absurd (omega (arith, before.0, least))))
    (cases_Bool (is_turn (packet_at es e) j))

pub none_twice_by_emissions : NoneTwiceByEmissions
unfolding key_at
none_twice_by_emissions h none begin e f a j timed_e timed_f first_e first_f src ts =
    let pe = first_e.passes in
    let pf = first_f.passes in
    let comes_e = first_comes h.emissions h.events e a j begin first_e in
    let comes_f = first_comes h.emissions h.events f a j begin first_f in
    let same : pe.index ≡ pf.index
    = none.routers a pe.index pf.index (event.Pass pe.step a j pe.generation e) (event.Pass pf.step a j pf.generation f)
    (key_at (packet_at h.emissions e) j, pe.step) (key_at (packet_at h.emissions f) j, pf.step) pe.there pf.there
    (entry_of_pass h.emissions pe.step a j pe.generation e timed_e comes_e) (entry_of_pass h.emissions pf.step a j pf.generation f timed_f comes_f)
    (λ i. record { src = src i; ts = ts i; hop = j }) in
    let is : event.Pass pe.step a j pe.generation e ≡ event.Pass pf.step a j pf.generation f
    = same_Some _ _ (sym pe.there ∙ (ap (slice_get h.events) same ∙ pf.there)) in
    cc
