-- The windows of routers and hosts go on to stand for what the ledger tells.
use Rattle.std.proofs.Common.{◌≡◌, ◌≢◌, ℕ, zero, suc, ◌+◌, ◌<◌, ◌≤◌, Bool, true, false, cond, List, [], ◌∷◌, ◌++◌, length, take, Option, None, Some, refl, ap, sym, subst, ◌∙◌, ⊎_elim, arith, length-take}
use Rattle.std.specs.Prelude.{◌==◌, ◌&&◌, nat_lt, slice_get, filter_map, if◌then◌else◌, is_some}
use Rattle.std.specs.List.{cons_option}
use Rattle.std.specs.Map.{lookup}
use Rattle.std.proofs.lemmas.Bool.{and_parts, and_from, and_left, both_ways, and_right, cases_Bool, cond-true, cond-false, cond_both, eqb-true, eq-eqb}
use Rattle.std.proofs.lemmas.List.{append-nil}
use Rattle.std.proofs.lemmas.List.Elements.{filter_map-append}
use Rattle.std.proofs.lemmas.List.Sorted.{IsPermutation-append_comm}
use Rattle.std.proofs.lemmas.Option.{same_Some}
use Rattle.epic_num.specs.declared.arrival.Arrival.{Arrival}
use Rattle.epic_num.specs.declared.arrival.Arrival.TheVariants as arrival
use Rattle.epic_num.specs.declared.name.AsId.{AsId}
use Rattle.epic_num.specs.declared.name.HostId.{HostId}
use Rattle.epic_num.specs.declared.passed.PassResult.TheVariants.{Full}
use Rattle.epic_num.specs.declared.passed.Place.{Place}
use Rattle.epic_num.specs.declared.passed.Place.TheVariants.{Host}
use Rattle.epic_num.specs.declared.profile.Profile.{Profile}
use Rattle.epic_num.specs.declared.turn.Turn.{Turn}
use Rattle.epic_num.specs.declared.turn.Turn.TheVariants.{Forward, Deliver, Refused}
use Rattle.epic_num.specs.Levels.{is_timed}
use Rattle.epic_num.specs.Moments.{is_live}
use Rattle.epic_num.specs.Same.{same_as, same_host}
use Rattle.epic_num.specs.Windows.{Told, was_here}
use Rattle.epic_num.proofs.SameLaws.{same_as-Decides, same_host-Decides}
use Rattle.epic_layout.specs.Contents.{Contents, hop_count}
use Rattle.epic_layout.specs.Layout.{parse}
use Rattle.epic_layout.specs.Reading.{IsRead}
use Rattle.epic_layout.specs.Spelling.{spelling}
use Rattle.epic_topo.specs.Network.{Network}
use Rattle.epic_window.specs.Entries.{Entries, Same, same_win_key, seen, told_of}
use Rattle.epic_window.specs.Offers.{Held}
use Rattle.epic_window.specs.declared.key.WinKey.{WinKey}
use Rattle.epic_window.proofs.SameEntries.{Same-trans, Same-later, Same-cons, Same-added, seen_by_key}
use Rattle.epic_router.specs.Candidates.{candidates_of}
use Rattle.epic_router.specs.Checks.{is_turn, has_second, handled_hops}
use Rattle.epic_router.specs.Leaving.{packet_after}
use Rattle.epic_router.specs.Remembering.{key_at, Remembers, Retains, is_accepted}
use Rattle.epic_router.specs.RightTurns.{IsAccepted, IsRightTurn}
use Rattle.epic_router.proofs.Right.{turns_are_right}
use Rattle.epic_ends.specs.Destinations.{end_key, is_accepted as is_taken}
use Rattle.epic_ends.specs.RightArrivals.{IsRightArrival}
use Rattle.epic_ends.proofs.Arrivals.{arrivals_are_right}
use Rattle.epic_ledger.specs.History.{History, Emission, emitted}
use Rattle.epic_ledger.specs.Facts.{packet_at, issues_in}
use Rattle.epic_ledger.specs.Lawful.{IsLawful}
use Rattle.epic_ledger.specs.declared.event.Event.{Event}
use Rattle.epic_ledger.specs.declared.event.Event.TheVariants as event
use Rattle.epic_audit.proofs.Lists.{same_answers}
use Rattle.epic_model.specs.Passing.{most_emitted, rolls, passes_from, nothing, left, due_behind, turned_by, answer_at, turned_at, arrives, arrived_by, arrival_at, arrived_at}
use Rattle.epic_model.specs.Standing.{StandsFor, WindowsTell, WindowsLast, RoutersStand, OthersStand, HostsStand, OtherHostsStand}
use Rattle.epic_model.specs.Windows.{router_entry, router_window, host_entry, host_window}
use Rattle.epic_model.proofs.Grown.{parse-spelling, packet_next, passes_at, entry_stays}
use Rattle.epic_model.proofs.Judging.{TellsTwo, turns_tell_two}
use Rattle.epic_model.proofs.Longer.{one_entry, window_more, none_behind, same_host_window}
use Rattle.epic_model.proofs.Once.{after_turn, after_arrival, later_no_turn, no_entry, turn_by_route}
use Rattle.epic_model.proofs.Remembered.{fresh_live}
use Rattle.epic_model.proofs.Riding.{lawful_there}

-- ---- what windows tell

pub windows_tell : WindowsTell
unfolding told_of
windows_tell t now window entries key s =
    ap (λ p. told_of p window.entries now key) s.profile
    ∙ (λ i. record { first = s.tells.seen_is now key (omega arith) i; live = s.tells.count_is now key.src.asn (omega arith) i })

pub windows_last : WindowsLast
windows_last t now later window entries more s = record {
  tells = Same-later t.profile now later window.entries entries more s.tells;
  profile = s.profile;
  latest = (let early = s.latest in omega (arith, early, more));
}

-- ---- one entry more, at either end

keys_are : (k l : WinKey) → same_win_key k l ≡ true → k ≡ l
unfolding same_win_key
keys_are k l e =
    let outer = and_parts (same_host k.src l.src) (k.ts == l.ts && k.hop == l.hop) e in
    let inner = and_parts (k.ts == l.ts) (k.hop == l.hop) outer.1 in
    let src = (same_host-Decides k.src l.src).0 outer.0 in
    let ts = eqb-true k.ts l.ts inner.0 in
    let hop = eqb-true k.hop l.hop inner.1 in
    λ i. record { src = src i; ts = ts i; hop = hop i }

own_key : (k : WinKey) → same_win_key k k ≡ true
unfolding same_win_key
own_key k = and_from _ _ ((same_host-Decides k.src k.src).1 refl) (and_from _ _ (eq-eqb k.ts k.ts refl) (eq-eqb k.hop k.hop refl))

found_behind : {K X : Type 0} (test : K → Bool) (xs ys : List (K × X)) → lookup test xs ≡ None → lookup test (xs ++ ys) ≡ lookup test ys
found_behind test [] ys none = refl
found_behind test (x ∷ xs) ys none =
    ⊎_elim
    (λ yes. (let some = sym (cond-true (test x.0) (Some x.1) (lookup test xs) yes) ∙ none in absurd (cc)))
    (λ no. cond-false (test x.0) (Some x.1) (lookup test (xs ++ ys)) no
    ∙ found_behind test xs ys (sym (cond-false (test x.0) (Some x.1) (lookup test xs) no) ∙ none))
    (cases_Bool (test x.0))

not_at_end : {K X : Type 0} (test : K → Bool) (xs : List (K × X)) (y : K × X) → test y.0 ≡ false → lookup test (xs ++ y ∷ []) ≡ lookup test xs
not_at_end test [] y misses = cond-false (test y.0) (Some y.1) None misses
not_at_end test (x ∷ xs) y misses = ap (cond (test x.0) (Some x.1)) (not_at_end test xs y misses)

at_end : (es : Entries) (key : WinKey) (step : ℕ) → lookup (same_win_key key) es ≡ None
    → (k : WinKey) → lookup (same_win_key k) (es ++ (key, step) ∷ []) ≡ cond (same_win_key key k) (Some step) (lookup (same_win_key k) es)
at_end es key step none k =
    ⊎_elim
    (λ same. (let is = keys_are key k same in
    subst (λ l. lookup (same_win_key l) (es ++ (key, step) ∷ []) ≡ cond (same_win_key key l) (Some step) (lookup (same_win_key l) es)) is
    (found_behind (same_win_key key) es ((key, step) ∷ []) none
    ∙ (cond-true (same_win_key key key) (Some step) None (own_key key) ∙ sym (cond-true (same_win_key key key) (Some step) (lookup (same_win_key key) es) (own_key key))))))
    (λ other. not_at_end (same_win_key k) es (key, step) (different other)
    ∙ sym (cond-false (same_win_key key k) (Some step) (lookup (same_win_key k) es) other))
    (cases_Bool (same_win_key key k))
  where
    different : same_win_key key k ≡ false → same_win_key k key ≡ false
    different other =
        ⊎_elim
        (λ yes. absurd (both_ways (same_win_key key k) other (ap (same_win_key key) (keys_are k key yes) ∙ own_key key)))
        (λ no. no)
        (cases_Bool (same_win_key k key))

-- a new key behind the entries or before them is the same
either_end : (profile : Profile) (from : ℕ) (es : Entries) (key : WinKey) (step : ℕ) → lookup (same_win_key key) es ≡ None
    → Same profile from (es ++ (key, step) ∷ []) ((key, step) ∷ es)
either_end profile from es key step none =
    Same-added profile from key step es (es ++ (key, step) ∷ []) (IsPermutation-append_comm ((key, step) ∷ []) es) (at_end es key step none)

-- a live key that isn't seen is no entry's
unfound_key : (profile : Profile) (es : Entries) (now : ℕ) (key : WinKey) → seen profile es now key ≡ None → is_live profile key.ts now ≡ true
    → lookup (same_win_key key) es ≡ None
unfound_key profile es now key none live =
    sym (cond-true (is_live profile key.ts now) (lookup (same_win_key key) es) None live) ∙ (sym (seen_by_key profile es now key) ∙ none)

-- ---- a window after a packet

-- it was kept, and the ledger tells of one more
kept_stands : (t : Network) (now step : ℕ) (old new : Held) (es : Entries) (key : WinKey) → StandsFor t now old es → Retains old new key now step true
    → lookup (same_win_key key) es ≡ None → StandsFor t now new (es ++ (key, step) ∷ [])
kept_stands t now step old new es key s r none = record {
  tells =
      Same-trans t.profile now new.entries ((key, step) ∷ old.entries) (es ++ (key, step) ∷ [])
      (subst (λ p. Same p now new.entries ((key, step) ∷ old.entries)) s.profile r.entries)
      (Same-trans t.profile now ((key, step) ∷ old.entries) ((key, step) ∷ es) (es ++ (key, step) ∷ [])
      (Same-cons t.profile now (key, step) old.entries es s.tells)
      (record {
        seen_is = λ n k le. sym ((either_end t.profile now es key step none).seen_is n k le);
        count_is = λ n a le. sym ((either_end t.profile now es key step none).count_is n a le);
      }));
  profile = r.profile ∙ s.profile;
  latest = r.latest;
}

-- it wasn't, and the ledger tells the same
same_stands : (t : Network) (now step : ℕ) (old new : Held) (es : Entries) (key : WinKey) → StandsFor t now old es → Retains old new key now step false
    → StandsFor t now new es
same_stands t now step old new es key s r = record {
  tells = Same-trans t.profile now new.entries old.entries es (subst (λ p. Same p now new.entries old.entries) s.profile r.entries) s.tells;
  profile = r.profile ∙ s.profile;
  latest = r.latest;
}

nothing_some : {X : Type 0} (o : Option X) → is_some o ≡ false → o ≡ None
nothing_some None e = refl
nothing_some (Some x) e = absurd (cc)

-- ---- turns

module _ (t : Network) (step now : ℕ) (h : History) (a : AsId) (iface : ℕ) (bytes : List ℕ) (lawful : IsLawful h) (turn : Turn) (due : Place) (hops : ℕ) (generations : List ℕ)
    (acc : IsAccepted t a (candidates_of (rolls h.events a)) iface now (told_of t.profile (router_window h a) now (key_at (parse bytes) (parse bytes).current)) bytes turn hops generations) where
  abbrev more : List Emission
  more = record { place = due; bytes = spelling (packet_after t a turn (parse bytes)) } ∷ []

  abbrev number : ℕ
  number = length h.emissions + 1

  new_packet : packet_at (h.emissions ++ more) number ≡ packet_after t a turn (parse bytes)
  new_packet =
      packet_next h.emissions (record { place = due; bytes = spelling (packet_after t a turn (parse bytes)) })
      ∙ parse-spelling (packet_after t a turn (parse bytes)) acc.goes_on.packet

  -- hops after the first aren't remembered
  later_none : (b : AsId) (gs : List ℕ) → suc (length gs) ≤ hops → (n : ℕ) (d : Event)
      → slice_get (passes_from step a number ((parse bytes).current + 1) gs) n ≡ Some d → router_entry (h.emissions ++ more) b d ≡ None
  later_none b gs few n d at =
      let p = parse bytes in
      let e = passes_at step a number (p.current + 1) gs n d at in
      let same : p.current + 1 + n ≡ p.current + suc n = omega arith in
      let route : (packet_at (h.emissions ++ more) number).route ≡ p.route = ap (λ (c : Contents). c.route) new_packet ∙ acc.goes_on.route in
      let no = turn_by_route p (packet_at (h.emissions ++ more) number) (p.current + 1 + n) route
      ∙ (ap (is_turn p) same ∙ later_no_turn p p.current n (omega (arith, few, e.0, acc.hops_are))) in
      ap (router_entry (h.emissions ++ more) b) e.1.1 ∙ no_entry (h.emissions ++ more) b step a (p.current + 1 + n) e.1.0 number no

  -- what the window of an AS's router has more: the pass of the first hop, where it is remembered
  window_left : (b : AsId) (gs : List ℕ) → 1 ≤ length gs → length gs ≤ hops
      → filter_map (router_entry (h.emissions ++ more) b) (h.events ++ passes_from step a number (parse bytes).current gs)
      ≡ router_window h b ++ one_entry (router_entry (h.emissions ++ more) b (event.Pass step a (parse bytes).current 0 number))
  unfolding router_entry
  window_left b [] some few = absurd (omega (arith, some))
  window_left b (g ∷ gs) some few =
      window_more h step a number (parse bytes).current g gs (record { place = due; bytes = spelling (packet_after t a turn (parse bytes)) }) b (lawful_there h lawful)
      (later_none b gs few)

  -- the router's own entry, if its packets are remembered
  own_entry : router_entry (h.emissions ++ more) a (event.Pass step a (parse bytes).current 0 number)
      ≡ (if is_timed (parse bytes).first then Some (key_at (parse bytes) (parse bytes).current, step) else None)
  unfolding router_entry key_at
  own_entry =
      let p = parse bytes in
      let q = packet_at (h.emissions ++ more) number in
      let first : q.first ≡ p.first = ap (λ (c : Contents). c.first) new_packet ∙ acc.goes_on.first in
      let src : q.src ≡ p.src = ap (λ (c : Contents). c.src) new_packet ∙ acc.goes_on.src in
      let ts : q.ts ≡ p.ts = ap (λ (c : Contents). c.ts) new_packet ∙ acc.goes_on.ts in
      let route : q.route ≡ p.route = ap (λ (c : Contents). c.route) new_packet ∙ acc.goes_on.route in
      let comes : is_turn q p.current ≡ true = turn_by_route p q p.current route ∙ acc.comes in
      let own : same_as a a ≡ true = (same_as-Decides a a).1 refl in
      let key : key_at q p.current ≡ key_at p p.current = λ i. record { src = src i; ts = ts i; hop = p.current } in
      ⊎_elim
      (λ timed. cond-true (same_as a a && is_timed q.first && is_turn q p.current) (Some (key_at q p.current, step)) None
      (and_from _ _ (and_from _ _ own (ap is_timed first ∙ timed)) comes)
      ∙ (ap (λ k. Some (k, step)) key ∙ sym (cond-true (is_timed p.first) (Some (key_at p p.current, step)) None timed)))
      (λ still. cond-false (same_as a a && is_timed q.first && is_turn q p.current) (Some (key_at q p.current, step)) None
      (and_left (same_as a a && is_timed q.first) (is_turn q p.current) (and_right (same_as a a) (is_timed q.first) (ap is_timed first ∙ still)))
      ∙ sym (cond-false (is_timed p.first) (Some (key_at p p.current, step)) None still))
      (cases_Bool (is_timed p.first))

  -- no entry of another AS's router
  no_entry_of : (b : AsId) → a ≢ b → router_entry (h.emissions ++ more) b (event.Pass step a (parse bytes).current 0 number) ≡ None
  unfolding router_entry
  no_entry_of b other =
      let q = packet_at (h.emissions ++ more) number in
      cond-false (same_as a b && is_timed q.first && is_turn q (parse bytes).current) (Some (key_at q (parse bytes).current, step)) None
      (and_left _ _ (and_left (same_as a b) (is_timed q.first) (⊎_elim (λ yes. absurd (other ((same_as-Decides a b).0 yes))) (λ no. no) (cases_Bool (same_as a b)))))

  some_hops : (p : Contents) (j : ℕ) → 1 ≤ handled_hops p j
  unfolding handled_hops
  some_hops p j = cond_both (has_second p j) 2 1 (λ n. 1 ≤ n) (λ _. omega arith) (λ _. omega arith)

  few_taken : length (take hops generations) ≤ hops
  few_taken = omega (arith, length-take hops generations)

  some_taken : hops ≤ length generations → 1 ≤ length (take hops generations)
  some_taken two = (let some = some_hops (parse bytes) (parse bytes).current in let are = acc.hops_are in omega (arith, length-take hops generations, two, some, are))

  pub left_stands : (old new : Held) → hops ≤ length generations → StandsFor t now old (router_window h a)
      → Remembers old new now step (parse bytes) true
      → StandsFor t now new (router_window (left t step h a bytes turn due (take hops generations)).history a)
  unfolding left one_entry was_here told_of key_at parse
  left_stands old new two s r =
      let p = parse bytes in
      let is = window_left a (take hops generations) (some_taken two) few_taken ∙ ap (λ o. router_window h a ++ one_entry o) own_entry in
      subst (StandsFor t now new) (sym is)
      (⊎_elim
      (λ timed. (let timely = acc.timely timed in
      let none = unfound_key t.profile (router_window h a) now (key_at p p.current) (nothing_some _ timely.unseen) (fresh_live t.profile p.ts now timely.not_stale) in
      subst (λ o. StandsFor t now new (router_window h a ++ one_entry o)) (sym (cond-true (is_timed p.first) (Some (key_at p p.current, step)) None timed))
      (kept_stands t now step old new (router_window h a) (key_at p p.current) s (subst (Retains old new (key_at p p.current) now step) timed r) none)))
      (λ still. subst (λ o. StandsFor t now new (router_window h a ++ one_entry o)) (sym (cond-false (is_timed p.first) (Some (key_at p p.current, step)) None still))
      (subst (StandsFor t now new) (sym (append-nil (router_window h a)))
      (same_stands t now step old new (router_window h a) (key_at p p.current) s (subst (Retains old new (key_at p p.current) now step) still r))))
      (cases_Bool (is_timed p.first)))

  pub left_others : hops ≤ length generations → (b : AsId) → a ≢ b
      → router_window (left t step h a bytes turn due (take hops generations)).history b ≡ router_window h b
  unfolding left one_entry
  left_others two b other =
      window_left b (take hops generations) (some_taken two) few_taken
      ∙ (ap (λ o. router_window h b ++ one_entry o) (no_entry_of b other) ∙ append-nil (router_window h b))

  pub left_hosts : (d : HostId) → host_window (left t step h a bytes turn due (take hops generations)).history d ≡ host_window h d
  unfolding left
  left_hosts d =
      same_host_window h step a number (parse bytes).current (take hops generations) (record { place = due; bytes = spelling (packet_after t a turn (parse bytes)) }) d

pub routers_stand : RoutersStand
unfolding turned_at turned_by answer_at
routers_stand t step now h a iface bytes old new read lawful room s r =
    subst (λ d. StandsFor t now new (router_window d.history a))
    (sym (cond-false (nat_lt most_emitted (emitted h.emissions + length bytes)) (nothing h Full) (turned_by t step h a bytes (answer_at t now h a iface bytes)) room))
    (by (answer_at t now h a iface bytes) (turns_are_right t a candidates iface now tells bytes read) (turns_tell_two t a candidates iface now tells bytes) r)
  where
    candidates : List ℕ
    candidates = candidates_of (rolls h.events a)

    tells : Told
    tells = told_of t.profile (router_window h a) now (key_at (parse bytes) (parse bytes).current)

    by : (turn : Turn) → IsRightTurn t a candidates iface now tells bytes turn → TellsTwo turn → Remembers old new now step (parse bytes) (is_accepted turn)
        → StandsFor t now new (router_window (turned_by t step h a bytes turn).history a)
    by (Forward out hops generations) right two r =
        left_stands t step now h a iface bytes lawful (Forward out hops generations) (due_behind t a out) hops generations right.0 old new two s r
    by (Deliver host hops generations) right two r =
        left_stands t step now h a iface bytes lawful (Deliver host hops generations) (Host (record { asn = a; host = host })) hops generations right.0 old new two s r
    by (Refused check hop) right two r = same_stands t now step old new (router_window h a) (key_at (parse bytes) (parse bytes).current) s r

pub others_stand : OthersStand
unfolding turned_at turned_by answer_at
others_stand t step now h a iface bytes read lawful = (
  λ b other. cond_both (nat_lt most_emitted (emitted h.emissions + length bytes)) (nothing h Full) (turned_by t step h a bytes (answer_at t now h a iface bytes))
      (λ d. router_window d.history b ≡ router_window h b) (λ _. refl)
      (λ _. by b other (answer_at t now h a iface bytes) (turns_are_right t a candidates iface now tells bytes read) (turns_tell_two t a candidates iface now tells bytes)),
  λ d. after_turn t step now h a iface bytes (λ g. host_window g d ≡ host_window h d) read refl
      (λ turn due hops generations acc _. left_hosts t step now h a iface bytes lawful turn due hops generations acc d),
)
  where
    candidates : List ℕ
    candidates = candidates_of (rolls h.events a)

    tells : Told
    tells = told_of t.profile (router_window h a) now (key_at (parse bytes) (parse bytes).current)

    by : (b : AsId) → a ≢ b → (turn : Turn) → IsRightTurn t a candidates iface now tells bytes turn → TellsTwo turn
        → router_window (turned_by t step h a bytes turn).history b ≡ router_window h b
    by b other (Forward out hops generations) right two =
        left_others t step now h a iface bytes lawful (Forward out hops generations) (due_behind t a out) hops generations right.0 two b other
    by b other (Deliver host hops generations) right two =
        left_others t step now h a iface bytes lawful (Deliver host hops generations) (Host (record { asn = a; host = host })) hops generations right.0 two b other
    by b other (Refused check hop) right two = refl

-- ---- arrivals

one_behind : {X Y : Type 0} (f : X → Option Y) (xs : List X) (x : X) → filter_map f (xs ++ x ∷ []) ≡ filter_map f xs ++ cons_option (f x) []
one_behind f xs x = filter_map-append f xs (x ∷ [])

arrive_of : (d : HostId) (p : Contents) (step : ℕ) → host_entry d (event.Arrive step d p.src p.ts (hop_count p) true) ≡ Some (key_at p (hop_count p), step)
unfolding host_entry key_at
arrive_of d p step = cond-true (same_host d d && true) (Some (record { src = p.src; ts = p.ts; hop = hop_count p }, step)) None (and_from _ _ ((same_host-Decides d d).1 refl) refl)

unchecked_of : (d e : HostId) (p : Contents) (step : ℕ) → host_entry e (event.Arrive step d p.src p.ts (hop_count p) false) ≡ None
unfolding host_entry
unchecked_of d e p step = cond-false (same_host d e && false) (Some (record { src = p.src; ts = p.ts; hop = hop_count p }, step)) None (and_right (same_host d e) false refl)

other_of : (d e : HostId) (p : Contents) (step : ℕ) (checked : Bool) → d ≢ e → host_entry e (event.Arrive step d p.src p.ts (hop_count p) checked) ≡ None
unfolding host_entry
other_of d e p step checked other =
    cond-false (same_host d e && checked) (Some (record { src = p.src; ts = p.ts; hop = hop_count p }, step)) None
    (and_left (same_host d e) checked (⊎_elim (λ yes. absurd (other ((same_host-Decides d e).0 yes))) (λ no. no) (cases_Bool (same_host d e))))

pub hosts_stand : HostsStand
unfolding arrived_at arrival_at arrived_by arrives end_key was_here told_of key_at parse
hosts_stand t step now h d bytes old new s r =
    by (arrival_at t now h d bytes) (arrivals_are_right t d now tells bytes) r
  where
    tells : Told
    tells = told_of t.profile (host_window h d) now (key_at (parse bytes) (hop_count (parse bytes)))

    by : (answer : Arrival) → IsRightArrival t d now tells bytes answer → Retains old new (key_at (parse bytes) (hop_count (parse bytes))) now step (is_taken answer)
        → StandsFor t now new (host_window (arrived_by t step h d bytes answer).history d)
    by arrival.Accepted right r =
        let q = parse bytes in
        let checked = right.1 in
        let none = unfound_key t.profile (host_window h d) now (key_at q (hop_count q)) (nothing_some _ checked.unseen) (fresh_live t.profile q.ts now checked.not_stale) in
        let is = one_behind (host_entry d) h.events (event.Arrive step d q.src q.ts (hop_count q) true) ∙ ap (λ o. host_window h d ++ cons_option o []) (arrive_of d q step) in
        subst (StandsFor t now new) (sym is) (kept_stands t now step old new (host_window h d) (key_at q (hop_count q)) s r none)
    by arrival.Unchecked right r =
        let q = parse bytes in
        let is = one_behind (host_entry d) h.events (event.Arrive step d q.src q.ts (hop_count q) false)
        ∙ (ap (λ o. host_window h d ++ cons_option o []) (unchecked_of d d q step) ∙ append-nil (host_window h d)) in
        subst (StandsFor t now new) (sym is) (same_stands t now step old new (host_window h d) (key_at q (hop_count q)) s r)
    by (arrival.Refused check) right r = same_stands t now step old new (host_window h d) (key_at (parse bytes) (hop_count (parse bytes))) s r

pub other_hosts_stand : OtherHostsStand
unfolding arrives router_entry
other_hosts_stand t step now h d bytes = (
  λ e other. after_arrival t step now h d bytes (λ g. host_window g e ≡ host_window h e) refl
      (λ answer checked _ _. one_behind (host_entry e) h.events (event.Arrive step d (parse bytes).src (parse bytes).ts (hop_count (parse bytes)) checked)
      ∙ (ap (λ o. host_window h e ++ cons_option o []) (other_of d e (parse bytes) step checked other) ∙ append-nil (host_window h e))),
  λ a. after_arrival t step now h d bytes (λ g. router_window g a ≡ router_window h a) refl
      (λ answer checked _ _. one_behind (router_entry h.emissions a) h.events (event.Arrive step d (parse bytes).src (parse bytes).ts (hop_count (parse bytes)) checked)
      ∙ append-nil (router_window h a)),
)
