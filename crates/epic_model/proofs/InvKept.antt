-- What every ledger keeps, it keeps as things happen.
use Rattle.std.proofs.Common.{◌≡◌, ℕ, zero, suc, ◌+◌, ◌-◌, ◌≤◌, inl, inr, true, List, [], ◌∷◌, ◌++◌, length, take, Option, None, Some, refl, ap, sym, subst, ◌∙◌, ⊎_elim, arith}
use Rattle.std.specs.Prelude.{◌==◌, slice_get, filter_map, IsSome}
use Rattle.std.specs.List.{All}
use Rattle.std.specs.Option.{option_map_or, IfSome}
use Rattle.std.proofs.lemmas.Bool.{cases_Bool, cond-true, cond-false, cond_both}
use Rattle.std.proofs.lemmas.List.Elements.{All-nil, All-push}
use Rattle.std.proofs.lemmas.Option.{same_Some, slice_get_within, get_or_from_slice_get}
use Rattle.epic_num.specs.declared.name.AsId.{AsId}
use Rattle.epic_num.specs.declared.name.HostId.{HostId}
use Rattle.epic_num.specs.declared.passed.PassResult.TheVariants.{Full}
use Rattle.epic_num.specs.declared.passed.Place.{Place}
use Rattle.epic_num.specs.declared.passed.Place.TheVariants.{Router, Host}
use Rattle.epic_num.specs.declared.turn.Turn.{Turn}
use Rattle.epic_num.specs.Chains.{Issue, issue_at}
use Rattle.epic_layout.specs.Contents.{hop_count}
use Rattle.epic_layout.specs.Layout.{parse}
use Rattle.epic_layout.specs.Reading.{IsRead}
use Rattle.epic_layout.specs.Spelling.{spelling}
use Rattle.epic_topo.specs.declared.link_kind.LinkKind.{LinkKind}
use Rattle.epic_topo.specs.Lawful.{IsTopology, IsLinked}
use Rattle.epic_topo.specs.Network.{Network, has, neighbour}
use Rattle.epic_topo.proofs.Linked.{links_lead_back}
use Rattle.epic_beacon.specs.Chained.{AreChained}
use Rattle.epic_beacon.specs.Store.{beacon_at}
use Rattle.epic_beacon.specs.Told.{beacons_after, beacons_in}
use Rattle.epic_router.specs.Candidates.{candidates_of}
use Rattle.epic_router.specs.Leaving.{packet_after}
use Rattle.epic_router.specs.RightTurns.{IsAccepted}
use Rattle.epic_ledger.specs.History.{History, Emission, emission_at, step_of}
use Rattle.epic_ledger.specs.Facts.{as_issue, as_send, issues_in, sends_in}
use Rattle.epic_ledger.specs.Lawful.{Fits, IsEmission, IsLast}
use Rattle.epic_ledger.specs.OneMore.{with_event}
use Rattle.epic_ledger.specs.declared.event.Event.{Event}
use Rattle.epic_ledger.specs.declared.event.Event.TheVariants as event
use Rattle.epic_ledger.proofs.Growing.{emission_at-append}
use Rattle.epic_audit.specs.Events.{EventFits}
use Rattle.epic_audit.proofs.Growth.{events_are_lawful}
use Rattle.epic_audit.proofs.Keeping.{events_keep, nothing_is_kept}
use Rattle.epic_model.specs.Keeping.{ArePast, AreInRange, IsDue, Inv, InvStart, InvLater, InvTurns, InvArrivals, InvPasses, InvCarries, InvOthers}
use Rattle.epic_model.specs.Passing.{rolls, left, due_behind, arrives, pass_at, passed_on, carried, last_history, nothing}
use Rattle.epic_model.specs.Sends.{IsRouted}
use Rattle.epic_model.specs.Sound.{IsSound}
use Rattle.epic_model.specs.Twice.{BeginWell}
use Rattle.epic_model.specs.Windows.{router_entry, router_window, host_entry, NoneTwice}
use Rattle.epic_router.specs.Remembering.{key_at}
use Rattle.epic_window.specs.Entries.{told_of}
use Rattle.epic_model.proofs.Longer.{none_behind, at_front, same_issues, same_sends}
use Rattle.epic_model.proofs.Once.{IsDueFrom, after_turn, after_arrival, left_once, arrivals_stay_once, nothing_twice}
use Rattle.epic_model.proofs.Remembered.{once_others}
use Rattle.epic_model.proofs.Riding.{front_or_back, lawful_there}
use Rattle.epic_model.proofs.SoundPasses.{last_at, one_arrival, left_sound, left_begins}

nothing_there : (n : ℕ) (i : Issue) → issue_at [] n ≡ Some i → ⊥
unfolding issue_at
nothing_there n i e =
    ⊎_elim (λ z. (let none = sym (cond-true (n == 0) None (slice_get [] (n - 1)) z) ∙ e in absurd (cc)))
    (λ nz. (let none = sym (cond-false (n == 0) None (slice_get [] (n - 1)) nz) ∙ e in absurd (cc)))
    (cases_Bool (n == 0))

nothing_chained : (t : Network) → AreChained (beacons_in t [])
unfolding beacons_in beacons_after beacon_at
nothing_chained t = record {
  few = omega arith;
  each = λ n b e. absurd (⊎_elim (λ z. (let none = sym (cond-true (n == 0) None (slice_get [] (n - 1)) z) ∙ e in absurd (cc)))
      (λ nz. (let none = sym (cond-false (n == 0) None (slice_get [] (n - 1)) nz) ∙ e in absurd (cc)))
      (cases_Bool (n == 0)));
}

-- ---- nothing, and later

pub inv_start : InvStart
inv_start t = record {
  sound = record {
    lawful = record { packets = All-nil IsEmission; fit = λ n e at. absurd (cc); ascending = λ n e at. absurd (cc) };
    kept = nothing_is_kept t;
    last = All-nil (λ (e : Event). step_of e ≤ 0);
  };
  once = nothing_twice;
  sends = λ n s at. absurd (cc);
  past = λ n i at. absurd (nothing_there n i at);
  in_range = λ n i at. absurd (nothing_there n i at);
  chained = nothing_chained t;
  places = All-nil (λ (e : Emission). IsDue t e.place);
  begin = λ e a j pass _. absurd (let is = pass.there in cc);
}

pub inv_later : InvLater
inv_later t h now later step after more most inv = record {
  sound = record { lawful = inv.sound.lawful; kept = inv.sound.kept; last = last_at h.events step after inv.sound.last most };
  once = inv.once;
  sends = inv.sends;
  past = λ n i at. (let past = inv.past n i at in omega (arith, past, more));
  in_range = inv.in_range;
  chained = inv.chained;
  places = inv.places;
  begin = inv.begin;
}

-- ---- events of which issues, sends and passes say nothing

-- passes stay beside one another
pub begins_on : (es : List Emission) (events : List Event) (e : Event) → ((b : AsId) (s k g number : ℕ) → e ≡ event.Pass s b k g number → ⊥)
    → BeginWell es events → BeginWell es (events ++ e ∷ [])
begins_on es events e none begin number a j pass no_turn =
    elim (front_or_back events (e ∷ []) pass.index (event.Pass pass.step a j pass.generation number) pass.there) [
      | inl old ↦
          (let was = begin number a j (record { index = pass.index; step = pass.step; generation = pass.generation; there = old }) no_turn in (
            was.0,
            record {
              index = was.1.index;
              step = was.1.step;
              generation = was.1.generation;
              there = at_front events (e ∷ []) was.1.index (event.Pass was.1.step a (j - 1) was.1.generation number) was.1.there;
            },
          ))
      | inr new ↦ absurd (alone new.0 new.1)
    ]
  where
    alone : (m : ℕ) → slice_get (e ∷ []) m ≡ Some (event.Pass pass.step a j pass.generation number) → ⊥
    alone zero at = none a pass.step j pass.generation number (same_Some _ _ at)
    alone (suc m) at = absurd (cc)

inv_event : (t : Network) (h : History) (now step : ℕ) (e : Event) → as_issue e ≡ None → ((es : List Emission) → as_send es e ≡ None)
    → ((b : AsId) (s k g number : ℕ) → e ≡ event.Pass s b k g number → ⊥)
    → IsSound t (with_event h e) step → NoneTwice (with_event h e) → Inv t h now step → Inv t (with_event h e) now step
inv_event t h now step e no_issue no_send no_pass sound once inv =
    let issues : issues_in (h.events ++ e ∷ []) ≡ issues_in h.events = none_behind as_issue h.events (e ∷ []) (only as_issue no_issue) in
    let sends : filter_map (as_send h.emissions) (h.events ++ e ∷ []) ≡ sends_in h = none_behind (as_send h.emissions) h.events (e ∷ []) (only (as_send h.emissions) (no_send h.emissions)) in
    record {
      sound = sound;
      once = once;
      sends = λ n s at. (let was = inv.sends n s (ap (λ l. slice_get l n) (sym sends) ∙ at) in
          record { routed = subst (λ is. IsRouted is s) (sym issues) was.routed; due = was.due });
      past = subst (ArePast now) (sym issues) inv.past;
      in_range = subst AreInRange (sym issues) inv.in_range;
      chained = subst (λ is. AreChained (beacons_in t is)) (sym issues) inv.chained;
      places = inv.places;
      begin = begins_on h.emissions h.events e no_pass inv.begin;
    }
  where
    only : {Y : Type 0} (f : Event → Option Y) → f e ≡ None → (n : ℕ) (d : Event) → slice_get (e ∷ []) n ≡ Some d → f d ≡ None
    only f none zero d at = ap f (sym (same_Some e d at)) ∙ none
    only f none (suc n) d at = absurd (cc)

-- one that no window remembers
pub once_on : (h : History) (e : Event) → ((a : AsId) → router_entry h.emissions a e ≡ None) → ((d : HostId) → host_entry d e ≡ None) → NoneTwice h → NoneTwice (with_event h e)
once_on h e routers hosts once = record {
  routers = λ a. once_others (router_entry h.emissions a) h.events (e ∷ []) (once.routers a) (only (router_entry h.emissions a) (routers a));
  hosts = λ d. once_others (host_entry d) h.events (e ∷ []) (once.hosts d) (only (host_entry d) (hosts d));
}
  where
    only : {Y : Type 0} (f : Event → Option Y) → f e ≡ None → (n : ℕ) (d : Event) → slice_get (e ∷ []) n ≡ Some d → f d ≡ None
    only f none zero d at = ap f (sym (same_Some e d at)) ∙ none
    only f none (suc n) d at = absurd (cc)

pub sound_on : (t : Network) (h : History) (step : ℕ) (e : Event) → Fits h.emissions (issues_in h.events) e → EventFits t h e → step_of e ≡ step
    → IsSound t h step → IsSound t (with_event h e) step
sound_on t h step e fits event_fits of sound = record {
  lawful = events_are_lawful h e sound.lawful fits (subst (IsLast h.events) (sym of) sound.last);
  kept = events_keep t h e sound.lawful sound.kept fits event_fits;
  last = All-push (λ d. step_of d ≤ step) h.events e sound.last (omega (arith, of));
}

pub inv_others : InvOthers
unfolding as_issue as_send router_entry host_entry step_of
inv_others t h now step inv = (
  λ source owner epoch. (let e = event.Fetch step source owner epoch in
      inv_event t h now step e refl (λ es. refl) (λ b s k g number is. absurd (cc)) (sound_on t h step e tt tt refl inv.sound) (once_on h e (λ a. refl) (λ d. refl) inv.once) inv),
  λ holder new. (let e = event.Reveal step holder in
      inv_event t h now step e refl (λ es. refl) (λ b s k g number is. absurd (cc)) (sound_on t h step e tt new refl inv.sound) (once_on h e (λ a. refl) (λ d. refl) inv.once) inv),
  λ a generation. (let e = event.Roll step a generation in
      inv_event t h now step e refl (λ es. refl) (λ b s k g number is. absurd (cc)) (sound_on t h step e tt tt refl inv.sound) (once_on h e (λ c. refl) (λ d. refl) inv.once) inv),
)

-- ---- turns

far_known : (t : Network) (a : AsId) (out : ℕ) (o : Option (AsId × ℕ × LinkKind)) → IfSome o (IsLinked t a out) → IsSome o
    → IsDue t (option_map_or (λ far. Router far.0 far.1) o (Router a out))
far_known t a out None linked some = absurd (cc)
far_known t a out (Some far) linked some = linked.far_end.known

due_known : (t : Network) (a : AsId) (due : Place) → IsTopology t → has t a ≡ true → IsDueFrom t a due → IsDue t due
unfolding due_behind
due_known t a due topology known (inl behind) =
    subst (IsDue t) (sym behind.1.0) (far_known t a behind.0 (neighbour t a behind.0) (links_lead_back t topology a behind.0) behind.1.1)
due_known t a due topology known (inr there) = subst (IsDue t) (sym there.1) known

inv_left : (t : Network) (h : History) (now step : ℕ) (a : AsId) (iface : ℕ) (bytes : List ℕ) (turn : Turn) (due : Place) (hops : ℕ) (generations : List ℕ)
    → IsAccepted t a (candidates_of (rolls h.events a)) iface now (told_of t.profile (router_window h a) now (key_at (parse bytes) (parse bytes).current)) bytes turn hops generations
    → has t a ≡ true → IsDue t due → Inv t h now step → Inv t (left t step h a bytes turn due (take hops generations)).history now step
unfolding left
inv_left t h now step a iface bytes turn due hops generations acc known due_is inv =
    let p = parse bytes in
    let x : Emission = record { place = due; bytes = spelling (packet_after t a turn p) } in
    let gs = take hops generations in
    let number = length h.emissions + 1 in
    let issues = same_issues h step a number p.current gs x in
    let sends = same_sends h step a number p.current gs x (lawful_there h inv.sound.lawful) in
    record {
      sound = left_sound t step now h a iface bytes turn due hops generations acc known inv.sound;
      once = left_once t step now h a iface bytes inv.sound.lawful inv.once turn due hops generations acc;
      sends = λ n s at. (let was = inv.sends n s (ap (λ l. slice_get l n) (sym sends) ∙ at) in
          record {
            routed = subst (λ is. IsRouted is s) (sym issues) was.routed;
            due = emission_at-append h.emissions (x ∷ []) s.emission (subst (λ (o : Option Emission). IsSome o) (sym was.due) refl) ∙ was.due;
          });
      past = subst (ArePast now) (sym issues) inv.past;
      in_range = subst AreInRange (sym issues) inv.in_range;
      chained = subst (λ is. AreChained (beacons_in t is)) (sym issues) inv.chained;
      places = All-push (λ (e : Emission). IsDue t e.place) h.emissions x inv.places due_is;
      begin = left_begins t step now h a iface bytes turn due hops generations acc (lawful_there h inv.sound.lawful) inv.begin;
    }

pub inv_turns : InvTurns
inv_turns t h now step a iface bytes topology known read inv =
    after_turn t step now h a iface bytes (λ g. Inv t g now step) read inv
    (λ turn due hops generations acc from. inv_left t h now step a iface bytes turn due hops generations acc known (due_known t a due topology known from) inv)

-- ---- arrivals

pub inv_arrivals : InvArrivals
unfolding arrives as_issue as_send
inv_arrivals t h now step d bytes inv =
    let p = parse bytes in
    after_arrival t step now h d bytes (λ g. NoneTwice g → Inv t g now step) (λ _. inv)
    (λ answer checked _ _ once. inv_event t h now step (event.Arrive step d p.src p.ts (hop_count p) checked) refl (λ es. refl) (λ b s k g number is. absurd (cc))
    (one_arrival t h step d p.src p.ts (hop_count p) checked inv.sound) once inv)
    (arrivals_stay_once t step now h d bytes inv.once)

-- ---- emissions

pub inv_passes : InvPasses
unfolding pass_at
inv_passes t h now step (Router a iface) bytes topology due read inv = inv_turns t h now step a iface bytes topology due read inv
inv_passes t h now step (Host d) bytes topology due read inv = inv_arrivals t h now step d bytes inv

-- an emission that is there is due in the topology, and spells a packet
pub there_fits : (t : Network) (h : History) (number : ℕ) (e : Emission) → All IsEmission h.emissions → All (λ x. IsDue t x.place) h.emissions
    → emission_at h.emissions number ≡ Some e → IsDue t e.place × IsRead e.bytes
unfolding emission_at
there_fits t h number e packets places at =
    ⊎_elim
    (λ z. (let none = sym (cond-true (number == 0) None (slice_get h.emissions (number - 1)) z) ∙ at in absurd (cc)))
    (λ nz. (let there = sym (cond-false (number == 0) None (slice_get h.emissions (number - 1)) nz) ∙ at in
    let inside = slice_get_within h.emissions (number - 1) e there in
    let same = get_or_from_slice_get h.emissions (number - 1) e e there in (
      subst (λ (x : Emission). IsDue t x.place) same (places (number - 1) e inside),
      λ _. (subst IsEmission same (packets (number - 1) e inside)).packet,
    )))
    (cases_Bool (number == 0))

inv_passed : (t : Network) (h : History) (now step number : ℕ) → IsTopology t → Inv t h now step → Inv t (passed_on t step now h number).history now step
unfolding passed_on
inv_passed t h now step number topology inv = by (emission_at h.emissions number) refl
  where
    by : (o : Option Emission) → emission_at h.emissions number ≡ o → Inv t (option_map_or (λ e. pass_at t step now h e.place e.bytes) o (nothing h Full)).history now step
    by None e = inv
    by (Some x) e =
        let fits = there_fits t h number x inv.sound.lawful.packets inv.places e in
        inv_passes t h now step x.place x.bytes topology fits.0 fits.1 inv

pub inv_carries : InvCarries
unfolding carried
inv_carries t now step zero h number topology inv = inv
inv_carries t now step (suc most) h number topology inv =
    let d = passed_on t step now h number in
    let next = inv_passed t h now step number topology inv in
    cond_both (d.emission == 0) [] (carried t step now most d.history d.emission) (λ ds. Inv t (last_history d.history ds) now step)
    (λ _. next) (λ _. inv_carries t now step most d.history d.emission topology next)
