-- A packet that its source sent, on its way through the ledgers of a carry.
use Rattle.std.proofs.Common.{◌≡◌, ℕ, zero, suc, ◌+◌, ◌*◌, ◌<◌, ◌≤◌, ◌⊎◌, inl, inr, Bool, true, false, List, [], ◌∷◌, ◌++◌, length, take, Option, None, Some, refl, ap, sym, subst, ◌∙◌, ⊎_elim, arith, add-one}
use Rattle.std.proofs.Math.Nat.{suc-mul}
use Rattle.std.specs.Prelude.{◌==◌, ◌&&◌, nat_lt, slice_get, IsSome, if◌then◌else◌}
use Rattle.std.proofs.lemmas.Bool.{cond-true, cond-false, and_left, and_from, or_right, cases_Bool, cases_lt, both_ways, not_from_false}
use Rattle.std.proofs.lemmas.Option.{same_Some}
use Rattle.epic_num.specs.declared.hop.HopName.{HopName}
use Rattle.epic_num.specs.declared.name.AsId.{AsId}
use Rattle.epic_num.specs.declared.name.HostId.{HostId}
use Rattle.epic_num.specs.declared.passed.Place.{Place}
use Rattle.epic_num.specs.declared.passed.Place.TheVariants.{Router, Host}
use Rattle.epic_num.specs.Levels.{is_timed, is_updated}
use Rattle.epic_num.specs.Same.{same_as}
use Rattle.epic_layout.specs.Contents.{Contents, IsPacket, hop_count, header_len}
use Rattle.epic_layout.specs.Route.{place, is_first, ingress, body}
use Rattle.epic_layout.specs.Spelling.{spelling}
use Rattle.epic_layout.proofs.Faultless.{length-spelling}
use Rattle.epic_layout.proofs.Joins.{segments_join}
use Rattle.epic_topo.specs.Network.{Network}
use Rattle.epic_window.specs.Entries.{seen, count, same_win_key}
use Rattle.epic_window.specs.declared.key.WinKey.{WinKey}
use Rattle.epic_router.specs.Checks.{is_turn, has_second, handled_hops, last_handled}
use Rattle.epic_router.proofs.Right.{two, one, some_hops, all_there, second_is}
use Rattle.epic_ends.specs.Ways.{IsRoad, IsMade, updates_of, on_way}
use Rattle.epic_ends.proofs.Ways.{on_packet, length-updates, count_updated, updates_wide}
use Rattle.epic_ledger.specs.History.{History, Emission, emission_at, emitted}
use Rattle.epic_ledger.specs.Facts.{Pass, as_pass, packet_at, issues_in, sends_in, reveals_in, pass_name}
use Rattle.epic_ledger.specs.Lawful.{Fits, IsLawful}
use Rattle.epic_ledger.specs.declared.event.Event.{Event}
use Rattle.epic_ledger.specs.declared.event.Event.TheVariants as event
use Rattle.epic_ledger.proofs.Growing.{emission_at-append, packet_at-append}
use Rattle.epic_audit.proofs.Lists.{answered}
use Rattle.epic_model.specs.Carried.{NoOtherPassed}
use Rattle.epic_model.specs.Honest.{count_below, is_turn_at}
use Rattle.epic_model.specs.Passing.{rolls, passes_from}
use Rattle.epic_model.specs.Windows.{router_entry, router_window, host_window}
use Rattle.epic_router.specs.Remembering.{key_at}
use Rattle.epic_model.proofs.Counting.{count_turn}
use Rattle.epic_model.proofs.Grown.{parse-spelling, emission_next, packet_next, passes_at}
use Rattle.epic_model.proofs.Longer.{IsThere, AreThere, longer, same_rolls, same_issues, same_reveals, same_host_window, same_sends, emitted_more, window_more, seen_more, count_more, keys_differ, one_entry, at_front, at_back, pass_stays}
use Rattle.epic_model.proofs.Once.{second_no_turn, turn_by_route, pass_entry, no_entry}
use Rattle.epic_model.proofs.Passable.{last_is}
use Rattle.epic_model.proofs.Remembered.{stands}

-- ---- lists of passes

pub front_or_back : {A : Type 0} (xs ys : List A) (n : ℕ) (x : A) → slice_get (xs ++ ys) n ≡ Some x
    → (slice_get xs n ≡ Some x) ⊎ ((m : ℕ) × (slice_get ys m ≡ Some x))
front_or_back [] ys n x at = inr (n, at)
front_or_back (y ∷ xs) ys zero x at = inl at
front_or_back (y ∷ xs) ys (suc n) x at = front_or_back xs ys n x at

-- a pass has the generation that stands at its place
pub passed_under : (step : ℕ) (a : AsId) (number j : ℕ) (gs : List ℕ) (n : ℕ) (e : Event) → slice_get (passes_from step a number j gs) n ≡ Some e
    → (g : ℕ) × ((slice_get gs n ≡ Some g) × (e ≡ event.Pass step a (j + n) g number))
passed_under step a number j [] n e at = absurd (cc)
passed_under step a number j (g ∷ gs) zero e at =
    let same : j + 0 ≡ j = omega arith in
    (g, (refl, subst (λ k. e ≡ event.Pass step a k g number) (sym same) cc))
passed_under step a number j (g ∷ gs) (suc n) e at =
    let rest = passed_under step a number (j + 1) gs n e at in
    let same : j + 1 + n ≡ j + suc n = omega arith in
    (rest.0, (rest.1.0, subst (λ k. e ≡ event.Pass step a k rest.0 number) same rest.1.1))

-- the generations of the hops that are handled from hop j on
unfoldable pub own_gens : (ℕ → HopName) → Contents → ℕ → List ℕ
own_gens x p j = (x j).generation ∷ (if has_second p j then (x (j + 1)).generation ∷ [] else [])

pub gens_two : (x : ℕ → HopName) (p : Contents) (j : ℕ) → has_second p j ≡ true → own_gens x p j ≡ (x j).generation ∷ (x (j + 1)).generation ∷ []
unfolding own_gens
gens_two x p j e = ap (λ gs. (x j).generation ∷ gs) (cond-true (has_second p j) ((x (j + 1)).generation ∷ []) [] e)

pub gens_one : (x : ℕ → HopName) (p : Contents) (j : ℕ) → has_second p j ≡ false → own_gens x p j ≡ (x j).generation ∷ []
unfolding own_gens
gens_one x p j e = ap (λ gs. (x j).generation ∷ gs) (cond-false (has_second p j) ((x (j + 1)).generation ∷ []) [] e)

pub there_more : (es more : List Emission) (e : Event) → IsThere es e → IsThere (es ++ more) e
there_more es more (event.Issue step number name parent) h = h
there_more es more (event.Fetch step source owner epoch) h = h
there_more es more (event.Send step emission segments) h = subst (λ (o : Option Emission). IsSome o) (sym (emission_at-append es more emission h)) h
there_more es more (event.Pass step a hop generation emission) h = subst (λ (o : Option Emission). IsSome o) (sym (emission_at-append es more emission h)) h
there_more es more (event.Arrive step host src ts hops checked) h = h
there_more es more (event.Reveal step holder) h = h
there_more es more (event.Roll step a generation) h = h

pub lawful_there : (h : History) → IsLawful h → AreThere h
lawful_there h lawful n e at = by e (lawful.fit n e at)
  where
    by : (d : Event) → Fits h.emissions (issues_in (take n h.events)) d → IsThere h.emissions d
    by (event.Issue step number name parent) f = tt
    by (event.Fetch step source owner epoch) f = tt
    by (event.Send step emission segments) f = f.there
    by (event.Pass step a hop generation emission) f = f.there
    by (event.Arrive step host src ts hops checked) f = tt
    by (event.Reveal step holder) f = tt
    by (event.Roll step a generation) f = tt

-- what a pass says of its name
pub name_of_pass : (es : List Emission) (step : ℕ) (a : AsId) (hop g number : ℕ) (w : Pass) (q : Contents) (y : HopName)
    → as_pass es (event.Pass step a hop g number) ≡ Some w → packet_at es number ≡ q → y.asn ≡ a → y.generation ≡ g → y.body ≡ body q.route hop
    → (w.hop ≡ hop) × (pass_name w ≡ y)
unfolding as_pass pass_name
name_of_pass es step a hop g number w q y is packet asn gen same =
    let v : Pass = record { asn = a; generation = g; hop = hop; emission = number; packet = packet_at es number } in
    let e = same_Some v w is in
    let name : pass_name v ≡ y = λ i. record { asn = sym asn i; generation = sym gen i; body = (ap (λ (c : Contents). body c.route hop) packet ∙ sym same) i } in
    (sym (ap (λ (u : Pass). u.hop) e), sym (ap pass_name e) ∙ name)

-- a router of another AS remembers nothing of a pass
other_none : (es : List Emission) (b : AsId) (step : ℕ) (a : AsId) (j g number : ℕ) → same_as a b ≡ false → router_entry es b (event.Pass step a j g number) ≡ None
unfolding router_entry
other_none es b step a j g number e =
    cond-false _ (Some (key_at (packet_at es number) j, step)) None (and_left _ _ (and_left _ _ e))

pub product_more : (n l : ℕ) → (n + 1) * l ≡ n * l + l
product_more n l = rw add-one (suc-mul n l)

-- the hop after the last that is handled is as many hops on
pub after_last : (p : Contents) (j : ℕ) → last_handled p j + 1 ≡ j + handled_hops p j
unfolding last_handled
after_last p j =
    ⊎_elim
    (λ s. (let z = cond-true (has_second p j) (j + 1) j s in omega (arith, z, two p j s)))
    (λ s. (let z = cond-false (has_second p j) (j + 1) j s in omega (arith, z, one p j s)))
    (cases_Bool (has_second p j))

-- ---- the ride

module _ (t : Network) (step now : ℕ) (h : History) (p : Contents) (x : ℕ → HopName) (road : IsRoad t p x) (made : IsMade t p x) (packet : IsPacket p) where
  abbrev pub us : List (List ℕ)
  us = updates_of t p x

  long_when : is_updated p.first ≡ true → length us ≡ hop_count p
  long_when e = length-updates t p x ∙ count_updated p.first (hop_count p) e

  unfoldable pub on : ℕ → Contents
  on j = on_way us p j

  pub spelled : (j : ℕ) → j ≤ hop_count p → IsPacket (on j)
  unfolding on
  spelled j h' = on_packet us p j packet h' (λ e. (long_when e, updates_wide t p x))

  -- where the packet is due at hop j
  unfoldable pub place_at : ℕ → Place
  place_at j = if nat_lt j (hop_count p) then Router (x j).asn (ingress p.route j) else Host p.dst

  -- the ledger has a pass of hop i of the packet
  pub record IsCoveredIn (g : History) (i : ℕ) : Type 0 where
    pub index : ℕ
    pub at_step : ℕ
    pub generation : ℕ
    pub number : ℕ
    pub hop : ℕ
    pub pass_there : slice_get g.events index ≡ Some (event.Pass at_step (x i).asn i generation number)
    pub generation_is : (x i).generation ≡ generation
    pub some : IsSome (emission_at g.emissions number)
    pub packet_is : packet_at g.emissions number ≡ on hop

  -- The packet has come to hop j, in this ledger as the emission of this number.
  pub record Rides (j : ℕ) (g : History) (number : ℕ) : Type 0 where
    pub there : AreThere g
    pub emission : emission_at g.emissions number ≡ Some (record { place = place_at j; bytes = spelling (on j) })
    pub within : j ≤ hop_count p
    pub comes : j < hop_count p → is_turn p j ≡ true
    pub rolls_are : (a : AsId) → rolls g.events a ≡ rolls h.events a
    pub issues_are : issues_in g.events ≡ issues_in h.events
    pub sends_are : sends_in g ≡ sends_in h
    pub reveals_are : reveals_in g.events ≡ reveals_in h.events
    pub hosts_are : (d : HostId) → host_window g d ≡ host_window h d
    pub unseen : is_timed p.first ≡ true → (k : ℕ) → j ≤ k → k < hop_count p → is_turn p k ≡ true
        → seen t.profile (router_window g (x k).asn) now (key_at p k) ≡ None
    pub counted : (a : AsId) → count t.profile (router_window g a) now p.src.asn ≤ count t.profile (router_window h a) now p.src.asn + count_below (is_turn_at p x a) j
    pub emitted_is : emitted g.emissions ≡ emitted h.emissions + count_below (is_turn p) j * length (spelling p)
    pub covered : (i : ℕ) → i < j → IsCoveredIn g i
    pub others : NoOtherPassed h p x → NoOtherPassed g p x

  on_route : (j : ℕ) → (on j).route ≡ p.route
  unfolding on on_way
  on_route j = refl

  same_header : (j : ℕ) → header_len (on j) + length (on j).payload ≡ header_len p + length p.payload
  unfolding on on_way header_len
  same_header j = refl

  pub same_length : (j : ℕ) → j ≤ hop_count p → length (spelling (on j)) ≡ length (spelling p)
  same_length j h' = length-spelling (on j) (spelled j h') ∙ (same_header j ∙ sym (length-spelling p packet))

  -- ---- the ledger after a turn at hop j

  module _ (j : ℕ) (g : History) (number : ℕ) (ride : Rides j g number) (within : j < hop_count p) where
    j' : ℕ
    j' = j + handled_hops p j

    gs : List ℕ
    gs = own_gens x p j

    number' : ℕ
    number' = length g.emissions + 1

    left_as : Emission
    left_as = record { place = place_at j'; bytes = spelling (on j') }

    g' : History
    g' = longer g step (x j).asn number' j gs left_as

    here : is_turn p j ≡ true
    here = ride.comes within

    within' : j' ≤ hop_count p
    unfolding j'
    within' = all_there p j within

    packet' : packet_at (g.emissions ++ left_as ∷ []) number' ≡ on j'
    unfolding left_as number'
    packet' = packet_next g.emissions left_as ∙ parse-spelling (on j') (spelled j' within')

    emission' : emission_at (g.emissions ++ left_as ∷ []) number' ≡ Some left_as
    unfolding number'
    emission' = emission_next g.emissions left_as

    -- the second hop is of the same AS
    second_as : has_second p j ≡ true → (x (j + 1)).asn ≡ (x j).asn
    second_as e = (let s = second_is p j e in let ne = s.1 in road.switches j (omega (arith, within, ne)) s.0)

    second_in : has_second p j ≡ true → j + 1 < hop_count p
    second_in e = (let ne = (second_is p j e).1 in omega (arith, within, ne))

    -- a pass of this turn is of a hop of the packet, under the name of the hop
    own_pass : (n : ℕ) (generation : ℕ) → slice_get gs n ≡ Some generation
        → (j + n < j') × (((x (j + n)).asn ≡ (x j).asn) × ((x (j + n)).generation ≡ generation))
    unfolding j' gs
    own_pass n generation at = ⊎_elim (λ s. by_two s n (ap (λ l. slice_get l n) (sym (gens_two x p j s)) ∙ at)) (λ s. by_one s n (ap (λ l. slice_get l n) (sym (gens_one x p j s)) ∙ at)) (cases_Bool (has_second p j))
      where
        first : 0 < handled_hops p j → (x j).generation ≡ generation → (j + 0 < j + handled_hops p j) × (((x (j + 0)).asn ≡ (x j).asn) × ((x (j + 0)).generation ≡ generation))
        first some e =
            let at0 : j + 0 ≡ j = omega arith in
            (omega (arith, some), (ap (λ k. (x k).asn) at0, ap (λ k. (x k).generation) at0 ∙ e))

        by_two : has_second p j ≡ true → (m : ℕ) → slice_get ((x j).generation ∷ (x (j + 1)).generation ∷ []) m ≡ Some generation
            → (j + m < j + handled_hops p j) × (((x (j + m)).asn ≡ (x j).asn) × ((x (j + m)).generation ≡ generation))
        by_two s zero e = first (some_hops p j) (same_Some (x j).generation generation e)
        by_two s (suc zero) e = (omega (arith, two p j s), (second_as s, same_Some (x (j + 1)).generation generation e))
        by_two s (suc (suc m)) e = absurd (cc)

        by_one : has_second p j ≡ false → (m : ℕ) → slice_get ((x j).generation ∷ []) m ≡ Some generation
            → (j + m < j + handled_hops p j) × (((x (j + m)).asn ≡ (x j).asn) × ((x (j + m)).generation ≡ generation))
        by_one s zero e = first (some_hops p j) (same_Some (x j).generation generation e)
        by_one s (suc m) e = absurd (cc)

    there' : AreThere g'
    unfolding g'
    there' n e at =
        elim (front_or_back g.events (passes_from step (x j).asn number' j gs) n e at) [
          | inl old ↦ there_more g.emissions (left_as ∷ []) e (ride.there n e old)
          | inr new ↦ (let is = passed_under step (x j).asn number' j gs new.0 e new.1 in
              subst (λ d. IsThere (g.emissions ++ left_as ∷ []) d) (sym is.1.1) (subst (λ (o : Option Emission). IsSome o) (sym emission') refl))
        ]

    -- ---- windows

    no_second_entry : (b : AsId) (n : ℕ) (e : Event) (rest : List ℕ) → has_second p j ≡ true ⊎ (rest ≡ [])
        → slice_get (passes_from step (x j).asn number' (j + 1) rest) n ≡ Some e → length rest ≤ 1 → router_entry (g.emissions ++ left_as ∷ []) b e ≡ None
    no_second_entry b n e rest why at few =
        let is = passes_at step (x j).asn number' (j + 1) rest n e at in
        let at1 : j + 1 + n ≡ j + 1 = omega (arith, is.0, few) in
        ap (router_entry (g.emissions ++ left_as ∷ []) b) is.1.1
        ∙ no_entry (g.emissions ++ left_as ∷ []) b step (x j).asn (j + 1 + n) is.1.0 number'
        (ap (is_turn (packet_at (g.emissions ++ left_as ∷ []) number')) at1
        ∙ (turn_by_route p (packet_at (g.emissions ++ left_as ∷ []) number') (j + 1) route'
        ∙ ⊎_elim (λ s. second_no_turn p j s) (λ none. absurd (omega (arith, is.0, ap length none))) why))
      where
        route' : (packet_at (g.emissions ++ left_as ∷ []) number').route ≡ p.route
        route' = ap (λ (c : Contents). c.route) packet' ∙ on_route j'

    entry : AsId → Option (WinKey × ℕ)
    entry b = router_entry (g.emissions ++ left_as ∷ []) b (event.Pass step (x j).asn j (x j).generation number')

    window' : (b : AsId) → router_window g' b ≡ router_window g b ++ one_entry (entry b)
    unfolding g' gs entry
    window' b =
        ⊎_elim
        (λ s. ap (λ l. router_window (longer g step (x j).asn number' j l left_as) b) (gens_two x p j s)
        ∙ window_more g step (x j).asn number' j (x j).generation ((x (j + 1)).generation ∷ []) left_as b ride.there
        (λ n e at. no_second_entry b n e ((x (j + 1)).generation ∷ []) (inl s) at (omega arith)))
        (λ s. ap (λ l. router_window (longer g step (x j).asn number' j l left_as) b) (gens_one x p j s)
        ∙ window_more g step (x j).asn number' j (x j).generation [] left_as b ride.there
        (λ n e at. no_second_entry b n e [] (inr refl) at (omega arith)))
        (cases_Bool (has_second p j))

    unseen' : is_timed p.first ≡ true → (k : ℕ) → j' ≤ k → k < hop_count p → is_turn p k ≡ true
        → seen t.profile (router_window g' (x k).asn) now (key_at p k) ≡ None
    unfolding entry j'
    unseen' timed k later h' turn =
        let some = some_hops p j in
        ap (λ es. seen t.profile es now (key_at p k)) (window' (x k).asn)
        ∙ seen_more t.profile (router_window g (x k).asn) (entry (x k).asn) now (key_at p k)
        (ride.unseen timed k (omega (arith, later, some)) h' turn)
        (λ y is. (let e = pass_entry (g.emissions ++ left_as ∷ []) (x k).asn step (x j).asn j (x j).generation number' y is in
        ap (same_win_key (key_at p k)) (sym (ap (λ (z : WinKey × ℕ). z.0) e.is))
        ∙ keys_differ p (packet_at (g.emissions ++ left_as ∷ []) number') j k (λ same. omega (arith, later, some, same))))

    counted' : (a : AsId) → count t.profile (router_window g' a) now p.src.asn
        ≤ count t.profile (router_window h a) now p.src.asn + count_below (is_turn_at p x a) j'
    unfolding entry j' is_turn_at
    counted' a =
        let test : ℕ → Bool = λ k. is_turn p k && same_as (x k).asn a in
        let grown = count_more t.profile (router_window g a) (entry a) now p.src.asn (test j)
        (λ no_turn. other_none (g.emissions ++ left_as ∷ []) a step (x j).asn j (x j).generation number'
        (⊎_elim (λ same. absurd (both_ways (test j) no_turn (and_from _ _ here same))) (λ other. other) (cases_Bool (same_as (x j).asn a)))) in
        let turns = count_turn test p j (λ s. and_left _ _ (second_no_turn p j s)) in
        let same = ap (λ es. count t.profile es now p.src.asn) (window' a) in
        let before = ride.counted a in
        omega (arith, grown, turns, same, before)

    emitted' : emitted g'.emissions ≡ emitted h.emissions + count_below (is_turn p) j' * length (spelling p)
    unfolding g' left_as j'
    emitted' =
        let more = emitted_more g step (x j).asn number' j gs left_as in
        let turns = count_turn (is_turn p) p j (λ s. second_no_turn p j s) in
        let one_turn : ◌≡◌ {A = ℕ} (if is_turn p j then 1 else 0) 1 = cond-true (is_turn p j) 1 0 here in
        let long = same_length j' within' in
        let before = ride.emitted_is in
        let product = product_more (count_below (is_turn p) j) (length (spelling p)) in
        let whole : count_below (is_turn p) (j + handled_hops p j) * length (spelling p) ≡ (count_below (is_turn p) j + 1) * length (spelling p)
        = ap (λ n. n * length (spelling p)) (turns ∙ ap (λ n. count_below (is_turn p) j + n) one_turn) in
        omega (arith, more, long, before, product, whole)

    -- ---- passes

    old_covered : (i : ℕ) → IsCoveredIn g i → IsCoveredIn g' i
    unfolding g'
    old_covered i c = record {
      index = c.index;
      at_step = c.at_step;
      generation = c.generation;
      number = c.number;
      hop = c.hop;
      pass_there = at_front g.events (passes_from step (x j).asn number' j gs) c.index (event.Pass c.at_step (x i).asn i c.generation c.number) c.pass_there;
      generation_is = c.generation_is;
      some = subst (λ (o : Option Emission). IsSome o) (sym (emission_at-append g.emissions (left_as ∷ []) c.number c.some)) c.some;
      packet_is = packet_at-append g.emissions (left_as ∷ []) c.number c.some ∙ c.packet_is;
    }

    new_covered : (i m : ℕ) → i ≡ j + m → (x i).asn ≡ (x j).asn
        → slice_get (passes_from step (x j).asn number' j gs) m ≡ Some (event.Pass step (x j).asn (j + m) (x i).generation number') → IsCoveredIn g' i
    unfolding g'
    new_covered i m same asn at = record {
      index = length g.events + m;
      at_step = step;
      generation = (x i).generation;
      number = number';
      hop = j';
      pass_there =
          at_back g.events (passes_from step (x j).asn number' j gs) m
          ∙ (at ∙ (λ k. Some (event.Pass step (sym asn k) (sym same k) (x i).generation number')));
      generation_is = refl;
      some = subst (λ (o : Option Emission). IsSome o) (sym emission') refl;
      packet_is = packet';
    }

    -- the pass of hop i of this turn
    pass_is : (i m : ℕ) (l : List ℕ) → gs ≡ l → i ≡ j + m → slice_get (passes_from step (x j).asn number' j l) m ≡ Some (event.Pass step (x j).asn i (x i).generation number')
        → slice_get (passes_from step (x j).asn number' j gs) m ≡ Some (event.Pass step (x j).asn (j + m) (x i).generation number')
    pass_is i m l same at e =
        ap (λ k. slice_get (passes_from step (x j).asn number' j k) m) same
        ∙ (e ∙ ap (λ k. Some (event.Pass step (x j).asn k (x i).generation number')) at)

    first_covered : IsCoveredIn g' j
    unfolding gs
    first_covered =
        let plain : j ≡ j + 0 = omega arith in
        ⊎_elim
        (λ s. new_covered j 0 plain refl (pass_is j 0 ((x j).generation ∷ (x (j + 1)).generation ∷ []) (gens_two x p j s) plain refl))
        (λ s. new_covered j 0 plain refl (pass_is j 0 ((x j).generation ∷ []) (gens_one x p j s) plain refl))
        (cases_Bool (has_second p j))

    second_covered : has_second p j ≡ true → IsCoveredIn g' (j + 1)
    unfolding gs
    second_covered s =
        new_covered (j + 1) 1 refl (second_as s)
        (pass_is (j + 1) 1 ((x j).generation ∷ (x (j + 1)).generation ∷ []) (gens_two x p j s) refl refl)

    covered' : (i : ℕ) → i < j' → IsCoveredIn g' i
    unfolding j'
    covered' i small =
        ⊎_elim
        (λ old. old_covered i (ride.covered i old))
        (λ new. ⊎_elim
        (λ s. ⊎_elim
        (λ first. (let at : j ≡ i = omega (arith, new, first) in subst (IsCoveredIn g') at first_covered))
        (λ second. (let at : j + 1 ≡ i = omega (arith, small, second, two p j s) in subst (IsCoveredIn g') at (second_covered s)))
        (cases_lt i (j + 1)))
        (λ s. (let at : j ≡ i = omega (arith, small, new, one p j s) in subst (IsCoveredIn g') at first_covered))
        (cases_Bool (has_second p j)))
        (cases_lt i j)

    -- of passes of these path bytes none is of another name
    others' : NoOtherPassed h p x → NoOtherPassed g' p x
    unfolding g'
    others' none n w at small path =
        let a = answered (as_pass (g.emissions ++ left_as ∷ [])) (g.events ++ passes_from step (x j).asn number' j gs) n w at in
        elim (front_or_back g.events (passes_from step (x j).asn number' j gs) a.index a.element a.there) [
          | inl old ↦
              (let is = stands (as_pass g.emissions) g.events a.index a.element w old
              (sym (pass_stays g.emissions (left_as ∷ []) a.element (ride.there a.index a.element old)) ∙ a.answer) in
              ride.others none is.0 w is.1 small path)
          | inr new ↦
              (let is = passed_under step (x j).asn number' j gs new.0 a.element new.1 in
              let own = own_pass new.0 is.0 is.1.0 in
              let k = j + new.0 in
              let inside : k < hop_count p = omega (arith, own.0, within') in
              let named = name_of_pass (g.emissions ++ left_as ∷ []) step (x j).asn k is.0 number' w (on j') (x k)
              (ap (as_pass (g.emissions ++ left_as ∷ [])) (sym is.1.1) ∙ a.answer) packet' own.1.0 own.1.1
              (road.bodies k inside ∙ ap (λ r. body r k) (sym (on_route j'))) in
              named.1 ∙ ap x (sym named.0))
        ]

    -- where the way goes on, the packet comes to the next router
    comes' : j' < hop_count p → is_turn p j' ≡ true
    unfolding j' is_turn
    comes' more =
        let z = last_handled p j in
        let last = last_is t p x road packet j within in
        let next : z + 1 ≡ j + handled_hops p j = after_last p j in
        ⊎_elim
        (λ goes. (let other = ((segments_join p.route.segments).behind_other z (let total = packet.route.counted in let inside = last.within in omega arith) goes).1 in
        or_right (j + handled_hops p j == 0) _ (not_from_false _ (ap (λ k. is_first (place p.route.segments k)) (sym next) ∙ other))))
        (λ ends. absurd (omega (arith, more, next, ends.0)))
        last.goes

    -- the ride goes on
    pub rides_on : Rides (j + handled_hops p j)
        (longer g step (x j).asn (length g.emissions + 1) j (own_gens x p j) (record { place = place_at (j + handled_hops p j); bytes = spelling (on (j + handled_hops p j)) }))
        (length g.emissions + 1)
    unfolding g' j' number' gs left_as
    rides_on = record {
      there = there';
      emission = emission';
      within = within';
      comes = comes';
      rolls_are = λ a. same_rolls g step (x j).asn number' j gs left_as a ∙ ride.rolls_are a;
      issues_are = same_issues g step (x j).asn number' j gs left_as ∙ ride.issues_are;
      sends_are = same_sends g step (x j).asn number' j gs left_as ride.there ∙ ride.sends_are;
      reveals_are = same_reveals g step (x j).asn number' j gs left_as ∙ ride.reveals_are;
      hosts_are = λ d. same_host_window g step (x j).asn number' j gs left_as d ∙ ride.hosts_are d;
      unseen = unseen';
      counted = counted';
      emitted_is = emitted';
      covered = covered';
      others = others';
    }
