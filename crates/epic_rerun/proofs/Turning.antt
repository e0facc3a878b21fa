-- What a router's turn on bytes tells.
use Rattle.std.proofs.Common.{◌≡◌, ℕ, zero, suc, ◌+◌, ◌-◌, ◌<◌, ◌≤◌, ◌⊎◌, ◌^◌, inl, inr, true, List, [], ◌∷◌, ◌++◌, length, map, take, get_or, slice_get, Option, None, Some, refl, sym, ap, subst, ◌∙◌, ⊎_elim, append-nil, append_assoc, length-take, get_or-take, arith}
use Rattle.std.specs.Prelude.{◌==◌, ◌&&◌, is_none, nat_lt, slice_index, Contains, IsSome, IfSome}
use Rattle.std.specs.List.{All}
use Rattle.std.specs.Option.{option_map_or}
use Rattle.std.proofs.lemmas.Bool.{and_from, cases_Bool, cases_lt, cond_both, eq-eqb}
use Rattle.std.proofs.lemmas.Bool.Decides.{nat_tests}
use Rattle.std.proofs.lemmas.List.{get_or_default, length_push}
use Rattle.std.proofs.lemmas.Option.{get_or_from_slice_get, slice_get_within}
use Rattle.epic_num.specs.declared.name.AsId.{AsId}
use Rattle.epic_num.specs.declared.passed.PassResult.TheVariants.{Full}
use Rattle.epic_num.specs.declared.passed.Place.{Place}
use Rattle.epic_num.specs.declared.passed.Place.TheVariants.{Host, Router}
use Rattle.epic_num.specs.declared.turn.Turn.{Turn}
use Rattle.epic_num.specs.declared.turn.Turn.TheVariants.{Deliver, Forward, Refused}
use Rattle.epic_num.specs.Levels.{is_updated}
use Rattle.epic_num.specs.Windows.{Told as Remembered}
use Rattle.epic_layout.specs.Contents.{HoldsBytes, IsBytes, field, hop_count}
use Rattle.epic_layout.specs.Layout.{parse}
use Rattle.epic_layout.specs.Route.{Route}
use Rattle.epic_layout.specs.Spelling.{spelling}
use Rattle.epic_layout.proofs.Limits.{HoldsBytes-parse}
use Rattle.epic_layout.proofs.OneSpelling.{bytes_are_read}
use Rattle.epic_topo.specs.declared.link_kind.LinkKind.{LinkKind}
use Rattle.epic_topo.specs.Lawful.{IsLinked, IsTopology}
use Rattle.epic_topo.specs.Network.{Network, has, neighbour}
use Rattle.epic_topo.proofs.Linked.{links_lead_back}
use Rattle.epic_fields.specs.HopChecks.{has_field, has_link, hop_name}
use Rattle.epic_router.specs.Candidates.{candidates_of}
use Rattle.epic_router.specs.Leaving.{packet_after}
use Rattle.epic_router.specs.Remembering.{key_at}
use Rattle.epic_router.specs.RightTurns.{IsAccepted, IsRightTurn}
use Rattle.epic_router.proofs.Right.{turns_are_right}
use Rattle.epic_window.specs.Entries.{told_of}
use Rattle.epic_ledger.specs.declared.event.Event.{Event}
use Rattle.epic_ledger.specs.declared.event.Event.TheVariants as event
use Rattle.epic_ledger.specs.Facts.{facts_of, packet_at}
use Rattle.epic_ledger.specs.History.{Emission, History, emitted}
use Rattle.epic_ledger.specs.Lawful.{IsEmission}
use Rattle.epic_audit.specs.Laws as laws
use Rattle.epic_model.specs.Keeping.{Inv, IsDue}
use Rattle.epic_model.specs.Passing as passing
use Rattle.epic_model.specs.Passing.{Happened, answer_at, due_behind, left, most_emitted, nothing, passes_from, rolls, turned_at, turned_by}
use Rattle.epic_model.specs.Windows.{router_window}
use Rattle.epic_model.proofs.Grown.{emission_next, packet_next, parse-spelling}
use Rattle.epic_record.specs.declared.item.Item.TheVariants as items
use Rattle.epic_record.specs.LedgerFile.{due_as, is_event_placed, is_newest, is_packet}
use Rattle.epic_record.specs.Passing.{accepted_items, generations_of, hops_from, new_items, pass_items}
use Rattle.epic_reread.specs.Fitting.{HeldVerdictsFit, OtherHopsAreThere, VerdictsCanBeTold}
use Rattle.epic_reread.specs.LedgerFitting.{EventFits, ItemFits, PlaceFits}
use Rattle.epic_reread.proofs.PacketBytes.{hop_fits}
use Rattle.epic_rerun.proofs.Arriving.{accepted_hops}
use Rattle.epic_rerun.proofs.Fitted.{Fitted, emission_all}
use Rattle.epic_rerun.proofs.Happening.{new_some, nothing_told, rolls_few, told_emission, told_event, told_then}
use Rattle.epic_rerun.proofs.Placing.{Told, told_both, told_none}
use Rattle.epic_rerun.proofs.SpelledBytes.{spelling_is}
use Rattle.epic_rerun.proofs.TagBytes.{update_is}

-- ---- places

pub due_known : (t : Network) (due : Place) → IsDue t due → has t (due_as due) ≡ true
due_known t (Router a iface) is = is
due_known t (Host d) is = is

far_fits : (t : Network) (a : AsId) (out : ℕ) (o : Option (AsId × ℕ × LinkKind)) → IfSome o (IsLinked t a out) → IsSome o
    → PlaceFits (option_map_or (λ far. Router far.0 far.1) o (Router a out))
far_fits t a out None linked some = absurd (cc)
far_fits t a out (Some far) linked some = (let small = linked.far_end.iface in omega (arith, small))

behind_fits : (t : Network) (a : AsId) (out : ℕ) → IsTopology t → IsSome (neighbour t a out) → PlaceFits (due_behind t a out)
unfolding due_behind
behind_fits t a out topology some = far_fits t a out (neighbour t a out) (links_lead_back t topology a out) some

-- ---- generations

candidate_small : (present g : ℕ) → Contains (candidates_of present) g → g ≤ present
unfolding candidates_of
candidate_small present g within =
    cond_both (present == 0) (0 ∷ []) (present ∷ (present - 1) ∷ []) (λ xs. Contains xs g → g ≤ present)
    (λ _ (k, below, is). one k below is)
    (λ _ (k, below, is). two k below is)
    within
  where
    one : (k : ℕ) → k < 1 → get_or (0 ∷ []) k g ≡ g → g ≤ present
    one zero below is = omega (arith, is)
    one (suc k) below is = absurd (omega (arith, below))

    two : (k : ℕ) → k < 2 → get_or (present ∷ (present - 1) ∷ []) k g ≡ g → g ≤ present
    two zero below is = omega (arith, is)
    two (suc zero) below is = omega (arith, is)
    two (suc (suc k)) below is = absurd (omega (arith, below))

-- ---- the passes of hops

module _ (t : Network) (step : ℕ) (a : AsId) (number : ℕ) (es : List Emission) (known : has t a ≡ true) (newest : is_newest es number ≡ true)
    (most : hop_count (packet_at es number) ≤ 32) (early : step < 2 ^ 32) (few : number < 2 ^ 32) where
  pass_told : (events : List Event) (j g : ℕ) → j < hop_count (packet_at es number) → g < 2 ^ 32
      → Told t (record { events = events; emissions = es }) (items.Event (event.Pass step a j g number) ∷ []) []
      (record { events = events ++ event.Pass step a j g number ∷ []; emissions = es })
  unfolding EventFits is_event_placed
  pass_told events j g within small =
      let there : nat_lt j (hop_count (packet_at es number)) ≡ true = grind (arith, nat_tests) in
      told_event t (record { events = events; emissions = es }) (event.Pass step a j g number)
      (early, omega (arith, within, most), small, few)
      (and_from (has t a && is_newest es number) (nat_lt j (hop_count (packet_at es number))) (and_from (has t a) (is_newest es number) known newest) there)

  passes_told : (events : List Event) (j : ℕ) (gs : List ℕ) → j + length gs ≤ hop_count (packet_at es number)
      → ((i g : ℕ) → slice_get gs i ≡ Some g → g < 2 ^ 32)
      → Told t (record { events = events; emissions = es }) (map (λ e. items.Event e) (passes_from step a number j gs)) []
      (record { events = events ++ passes_from step a number j gs; emissions = es })
  passes_told events j [] within small =
      subst (λ vs. Told t (record { events = events; emissions = es }) [] [] (record { events = vs; emissions = es })) (sym (append-nil events))
      (told_none t (record { events = events; emissions = es }))
  passes_told events j (g ∷ gs) within small =
      let e = event.Pass step a j g number in
      let h : History = record { events = events; emissions = es } in
      let more = passes_from step a number (j + 1) gs in
      subst (λ vs. Told t h (items.Event e ∷ map (λ d. items.Event d) more) [] (record { events = vs; emissions = es })) (append_assoc events (e ∷ []) more)
      (told_both t h (record { events = events ++ e ∷ []; emissions = es }) (record { events = (events ++ e ∷ []) ++ more; emissions = es })
      (items.Event e ∷ []) (map (λ d. items.Event d) more) [] []
      (pass_told events j g (omega (arith, within)) (small 0 g refl))
      (passes_told (events ++ e ∷ []) (j + 1) gs (omega (arith, within)) (λ i k at. small (suc i) k at)))

-- ---- turns

module _ (t : Network) (topology : IsTopology t) (fit : HeldVerdictsFit) (others : OtherHopsAreThere) (tell : VerdictsCanBeTold)
    (step now : ℕ) (h : History) (bytes : List ℕ) (are : IsBytes bytes)
    (inv : Inv t h now step) (fitted : Fitted h) (few : length h.events < 2 ^ 31) (few_packets : length h.emissions < 2 ^ 31) (early : step < 2 ^ 32)
    (a : AsId) (iface : ℕ) (known : has t a ≡ true) where
  abbrev knows : Remembered
  knows = told_of t.profile (router_window h a) now (key_at (parse bytes) (parse bytes).current)

  module _ (turn : Turn) (due : Place) (hops : ℕ) (generations : List ℕ)
      (acc : IsAccepted t a (candidates_of (rolls h.events a)) iface now knows bytes turn hops generations) where
    -- the hops' generations, and that each was accepted
    each : (i g : ℕ) → slice_get (take hops generations) i ≡ Some g → (g < 2 ^ 32) × laws.IsAccepted t a g (parse bytes) ((parse bytes).current + i)
    each i g at =
        let p = parse bytes in
        let gs = take hops generations in
        let small : i < hops = (let inside = slice_get_within gs i g at in omega (arith, inside, length-take hops generations)) in
        let is : slice_index generations i ≡ g = sym (get_or-take hops generations i 0 small) ∙ get_or_from_slice_get gs i g 0 at in
        let right = acc.each i small in
        let low = candidate_small (rolls h.events a) (slice_index generations i) right.candidate in
        let rolled = rolls_few h.events a in (
          omega (arith, low, rolled, few, is),
          record {
            packet = bytes_are_read bytes are acc.faultless;
            within = omega (arith, small, acc.there);
            field_right = subst (λ k. has_field t (hop_name a k p (p.current + i)) p (p.current + i) ≡ true) is right.field_is;
            link_right = subst (λ k. has_link t (hop_name a k p (p.current + i)) p (p.current + i) ≡ true) is right.link_is;
          },
        )

    -- the fields of the packet that leaves are bytes
    field_left : (k : ℕ) → k < hop_count (parse bytes) → IsBytes (field (packet_after t a turn (parse bytes)) k)
    unfolding hop_name field
    field_left k below =
        let p = parse bytes in
        let q = packet_after t a turn p in
        let held = HoldsBytes-parse bytes are in
        let packet = bytes_are_read bytes are acc.faultless in
        let old : IsBytes (field p k) = held.field_bytes k [] (omega (arith, below, packet.counted)) in
        ⊎_elim
        (λ updated.
        ⊎_elim
        (λ outside. subst IsBytes (sym (acc.goes_on.others k outside)) old)
        (λ inside. (let i = k - p.current in
        let at : p.current + i ≡ k = omega (arith, inside.0) in
        let here : i < hops = omega (arith, inside.0, inside.1) in
        let fits = hop_fits p (p.current + i) packet held (omega (arith, at, below)) in
        let x = hop_name a (slice_index generations i) p (p.current + i) in
        subst (λ n. IsBytes (field q n)) at
        (subst IsBytes (sym (acc.goes_on.updates updated i here))
        (update_is t topology x p (p.current + i) fits.0 fits.1 (omega (arith, at, below, packet.route.few_hops))))))
        (where_is k))
        (λ plain. subst (λ fs. IsBytes (get_or fs k [])) (sym (acc.goes_on.same_fields plain)) old)
        (cases_Bool (is_updated p.first))
      where
        where_is : (n : ℕ) → ((n < (parse bytes).current) ⊎ ((parse bytes).current + hops ≤ n)) ⊎ (((parse bytes).current ≤ n) × (n < (parse bytes).current + hops))
        where_is n =
            ⊎_elim (λ low. inl (inl low)) (λ high. ⊎_elim (λ inside. inr (high, inside)) (λ past. inl (inr past)) (cases_lt n ((parse bytes).current + hops)))
            (cases_lt n (parse bytes).current)

    gone : HoldsBytes (packet_after t a turn (parse bytes))
    unfolding field
    gone =
        let p = parse bytes in
        let q = packet_after t a turn p in
        let held = HoldsBytes-parse bytes are in
        record {
          links = subst (λ (r : Route). All (λ l. IsBytes l.link) r.hops) (sym acc.goes_on.route) held.links;
          field_bytes = λ k d below. (
              let same : hop_count q ≡ hop_count p = ap (λ (r : Route). length r.hops) acc.goes_on.route in
              let within : k < hop_count p = omega (arith, below, acc.goes_on.packet.counted, same) in
              subst IsBytes (get_or_default q.fields k [] d below) (field_left k within));
          dest_bytes = subst IsBytes (sym acc.goes_on.dest_field) held.dest_bytes;
          payload_bytes = subst IsBytes (sym acc.goes_on.payload) held.payload_bytes;
        }

    emission : Emission
    emission = record { place = due; bytes = spelling (packet_after t a turn (parse bytes)) }

    module _ (due_fits : PlaceFits due) (after : Inv t (left t step h a bytes turn due (take hops generations)).history now step) where
      emission_told : Told t h (items.Emission (length h.emissions + 1) due (spelling (packet_after t a turn (parse bytes))) ∷ []) []
          (record { events = h.events; emissions = h.emissions ++ record { place = due; bytes = spelling (packet_after t a turn (parse bytes)) } ∷ [] })
      unfolding ItemFits left
      emission_told =
          let q = packet_after t a turn (parse bytes) in
          let x : Emission = record { place = due; bytes = spelling q } in
          let es = h.emissions ++ x ∷ [] in
          let there = due_known t due (emission_all (λ e. IsDue t e.place) es after.places (length h.emissions + 1) x (emission_next h.emissions x)) in
          let spelled = (emission_all IsEmission es after.sound.lawful.packets (length h.emissions + 1) x (emission_next h.emissions x)).faultless in
          told_emission t h (length h.emissions + 1) due (spelling q)
          (omega (arith, few_packets), due_fits, spelling_is q acc.goes_on.packet gone)
          (and_from (length h.emissions + 1 == length h.emissions + 1 && has t (due_as due)) (is_packet (spelling q))
          (and_from (length h.emissions + 1 == length h.emissions + 1) (has t (due_as due)) (eq-eqb (length h.emissions + 1) (length h.emissions + 1) refl) there)
          (ap is_none spelled))

      events_told :
          Told t
          (record { events = h.events; emissions = h.emissions ++ record { place = due; bytes = spelling (packet_after t a turn (parse bytes)) } ∷ [] })
          (map (λ e. items.Event e) (passes_from step a (length h.emissions + 1) (parse bytes).current (take hops generations))) []
          (left t step h a bytes turn due (take hops generations)).history
      unfolding left
      events_told =
          let p = parse bytes in
          let q = packet_after t a turn p in
          let x : Emission = record { place = due; bytes = spelling q } in
          let es = h.emissions ++ x ∷ [] in
          let number = length h.emissions + 1 in
          let says : packet_at es number ≡ q = packet_next h.emissions x ∙ parse-spelling q acc.goes_on.packet in
          let count : hop_count (packet_at es number) ≡ hop_count p = ap hop_count says ∙ ap (λ (r : Route). length r.hops) acc.goes_on.route in
          let long : length es ≡ number = length_push h.emissions x in
          let newest : is_newest es number ≡ true = grind (arith, nat_tests) in
          let packet = bytes_are_read bytes are acc.faultless in
          passes_told t step a number es known newest (omega (arith, count, packet.route.few_hops)) early (omega (arith, few_packets))
          h.events p.current (take hops generations)
          (omega (arith, count, acc.there, length-take hops generations))
          (λ i g at. (each i g at).0)

      pub left_told : Told t h (hops_from a (parse bytes).current bytes (take hops generations) ++ new_items h (left t step h a bytes turn due (take hops generations)).history)
          (left t step h a bytes turn due (take hops generations)).verdicts (left t step h a bytes turn due (take hops generations)).history
      unfolding left
      left_told =
          let p = parse bytes in
          let x : Emission = record { place = due; bytes = spelling (packet_after t a turn p) } in
          let gs = take hops generations in
          let number = length h.emissions + 1 in
          let passes = passes_from step a number p.current gs in
          let mid : History = record { events = h.events; emissions = h.emissions ++ x ∷ [] } in
          let g : History = record { events = h.events ++ passes; emissions = h.emissions ++ x ∷ [] } in
          let told = told_both t h mid g (items.Emission number due (spelling (packet_after t a turn p)) ∷ []) (map (λ e. items.Event e) passes) [] [] emission_told events_told in
          told_then t h h g (hops_from a p.current bytes gs) (new_items h g) (passing.hop_verdicts t (facts_of h) a p p.current gs)
          (accepted_hops t topology fit others tell step now h bytes are inv fitted few early a p.current gs known acc.faultless each)
          (subst (λ is. Told t h is [] g) (sym (new_some h g (x ∷ []) passes refl refl)) told)

  -- what becomes of the bytes is told, where the ledger after it keeps what ledgers keep
  abbrev AtRouter : Happened → Type 0
  AtRouter x = Inv t x.history now step → Told t h (pass_items h (Router a iface) bytes x.result x.history) x.verdicts x.history

  answered : (turn : Turn) → IsRightTurn t a (candidates_of (rolls h.events a)) iface now knows bytes turn → AtRouter (turned_by t step h a bytes turn)
  unfolding turned_by pass_items accepted_items generations_of left
  answered (Forward out hops generations) right after =
      left_told (Forward out hops generations) (due_behind t a out) hops generations right.0 (behind_fits t a out topology right.1.linked) after
  answered (Deliver host hops generations) right after =
      let dst = (bytes_are_read bytes are right.0.faultless).dst in
      left_told (Deliver host hops generations) (Host (record { asn = a; host = host })) hops generations right.0
      (record {
        asn = subst (λ (b : AsId). b.0 < 2 ^ 64) right.1.destination dst.asn;
        host = subst (λ n. n < 2 ^ 32) right.1.host_is dst.host;
      })
      after
  answered (Refused check hop) right after = nothing_told t h

  pub turned_told : AtRouter (turned_at t step now h a iface bytes)
  unfolding turned_at answer_at pass_items accepted_items
  turned_told =
      cond_both (nat_lt most_emitted (emitted h.emissions + length bytes)) (nothing h Full) (turned_by t step h a bytes (answer_at t now h a iface bytes)) AtRouter
      (λ _ _. nothing_told t h)
      (λ _. answered (answer_at t now h a iface bytes)
      (turns_are_right t a (candidates_of (rolls h.events a)) iface now knows bytes (bytes_are_read bytes are)))
