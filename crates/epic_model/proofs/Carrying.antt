-- An honest packet is carried to its destination.
use Rattle.std.proofs.Common.{◌≡◌, ℕ, zero, suc, ◌+◌, ◌-◌, ◌*◌, ◌<◌, ◌≤◌, Bool, true, false, List, [], ◌∷◌, ◌++◌, length, take, Option, None, Some, refl, ap, sym, subst, ◌∙◌, ⊎_elim, arith}
use Rattle.std.proofs.Math.Nat.{mul-le-mul_right}
use Rattle.std.specs.Prelude.{◌==◌, ◌&&◌, nat_lt, is_some, IsSome, find, option_map, if◌then◌else◌}
use Rattle.std.specs.Option.{option_map_or}
use Rattle.std.specs.List.{All}
use Rattle.std.proofs.lemmas.List.Elements.{All-head}
use Rattle.std.proofs.lemmas.Slice.Eq.{bytes_eq-Decides}
use Rattle.std.proofs.lemmas.Bool.{not_from_true, cond-true, cond-false, and_from, cases_Bool, lt-ltb, le-ltb, lt-leb, eq-eqb, ne_eqb, eqb-true}
use Rattle.epic_num.specs.declared.arrival.Arrival.TheVariants as arrival
use Rattle.epic_num.specs.declared.arrival.DestCheck.TheVariants.{Layout}
use Rattle.epic_num.specs.declared.hop.HopName.{HopName}
use Rattle.epic_num.specs.declared.name.AsId.{AsId}
use Rattle.epic_num.specs.declared.passed.PassResult.TheVariants.{Full}
use Rattle.epic_num.specs.declared.passed.Place.{Place}
use Rattle.epic_num.specs.declared.passed.Place.TheVariants.{Router, Host}
use Rattle.epic_num.specs.declared.turn.Turn.{Turn}
use Rattle.epic_num.specs.declared.turn.Turn.TheVariants.{Forward, Deliver}
use Rattle.epic_num.specs.declared.verdict.Verdict.{Verdict}
use Rattle.epic_num.specs.Levels.{is_timed, is_tagged, level_of, level_number}
use Rattle.epic_num.specs.Same.{same_as}
use Rattle.epic_num.specs.Tables.{first_row}
use Rattle.epic_num.specs.Windows.{Told, was_here, has_no_room, fresh_rows, window_rows}
use Rattle.epic_num.proofs.MessageLaws.{at_tagged}
use Rattle.epic_num.proofs.SameLaws.{same_as-Decides, same_host-Decides, same_name-Decides}
use Rattle.epic_num.proofs.TableLaws.{first_row-behind}
use Rattle.epic_layout.specs.Contents.{Contents, IsPacket, IsSegment, hop_count}
use Rattle.epic_layout.specs.declared.head.SegmentHead.{SegmentHead}
use Rattle.epic_layout.proofs.HopPlaces.{hops_of-cons}
use Rattle.epic_layout.specs.Layout.{parse}
use Rattle.epic_layout.specs.Route.{place, is_last, ingress, egress, body, hops_of}
use Rattle.epic_layout.specs.Spelling.{spelling, path_bytes, dest_message}
use Rattle.epic_layout.specs.Updates.{own_updates}
use Rattle.epic_layout.proofs.Joins.{segments_join}
use Rattle.epic_layout.proofs.OneSpelling.{packets_are_spelled}
use Rattle.epic_topo.specs.Network.{Network, neighbour}
use Rattle.epic_window.specs.Entries.{seen, count, told_of}
use Rattle.epic_window.specs.declared.key.WinKey.{WinKey}
use Rattle.epic_fields.specs.HopChecks.{hop_name}
use Rattle.epic_fields.specs.Formulas.{dest_tag}
use Rattle.epic_fields.specs.PacketTags.{dest_name, dest_field_of}
use Rattle.epic_router.specs.Candidates.{candidates_of}
use Rattle.epic_router.specs.Checks.{is_turn, has_second, handled_hops, last_handled}
use Rattle.epic_router.specs.Handling.{onward, turn_of}
use Rattle.epic_router.specs.Leaving.{hop_on, hops_on, packet_after}
use Rattle.epic_router.proofs.Right.{two, one, some_hops, all_there, second_is}
use Rattle.epic_ends.specs.Arriving.{end_rows, dest_field_fits, tagged_rows, rows, unless, arrived, arrival_of}
use Rattle.epic_ends.specs.Ways.{IsRoad, IsMade, updates_of, on_way}
use Rattle.epic_ends.proofs.Ways.{on_stamp, on_start, on_next, at_end, length-updates, count_updated, update_at}
use Rattle.epic_ledger.specs.History.{History, Emission, emitted}
use Rattle.epic_ledger.specs.Facts.{Facts, Sent, Pass, as_pass, packet_at, facts_of, sent_name, pass_name}
use Rattle.epic_ledger.specs.Queries.{issue_of, is_pass_of, same_path}
use Rattle.epic_ledger.specs.declared.event.Event.TheVariants as event
use Rattle.epic_audit.specs.Clauses.{GoesOnFrom, higher, lower, is_sent_like, sent_as}
use Rattle.epic_audit.specs.Verdicts.{hop_verdict, dest_verdict, source_of, is_named}
use Rattle.epic_model.specs.Carried.{Each, IsWelcome, IsProvedHop, IsEndVerdict, welcome, IsEnd, IsCarriedBy, IsCarried, IsProvedAllAlong, NoOtherPassed, NoneFuture, IsReady, HonestPacketsArrive, HonestPacketsAreProved}
use Rattle.epic_model.specs.Honest.{Honest, count_below, is_turn_at}
use Rattle.epic_model.specs.Passing.{Happened, most_emitted, rolls, nothing, passes_from, hop_verdicts, left, due_behind, turned_by, answer_at, turned_at, arrives, arrived_by, arrival_at, arrived_at, pass_at, passed_on, carried}
use Rattle.epic_model.specs.Sends.{IsOnRecord}
use Rattle.epic_model.specs.Windows.{router_window, host_window}
use Rattle.epic_router.specs.Remembering.{key_at}
use Rattle.epic_model.proofs.Counting.{count_room}
use Rattle.epic_model.proofs.Grown.{parse-spelling}
use Rattle.epic_model.proofs.Longer.{longer}
use Rattle.epic_model.proofs.Passable.{first_hop, IsLastHandled, last_is, gens_of, answered}
use Rattle.epic_model.proofs.Riding.{own_gens, gens_two, gens_one, after_last, product_more, lawful_there, name_of_pass, on, spelled, place_at, same_length, Rides, rides_on}
use Rattle.epic_model.proofs.Remembered.{stands}
use Rattle.epic_ends.proofs.RightTags.{InForce, name_on}
use Rattle.epic_model.proofs.Welcome.{AllCovered, hop_welcome, hop_proved, chained_by, dest_welcome}

pass : {A : Type 0} (b : Bool) (o rest : Option A) → b ≡ false → rest ≡ None → (if b then o else rest) ≡ None
pass b o rest e none = cond-false b o rest e ∙ none

-- the generations that are taken
taken_gens : (x : ℕ → HopName) (p : Contents) (j : ℕ) → take (handled_hops p j) (gens_of x p j) ≡ own_gens x p j
unfolding handled_hops gens_of own_gens
taken_gens x p j =
    elim (has_second p j) as (λ b. take (if b then 2 else 1) ((x j).generation ∷ (if b then (x (j + 1)).generation else 0) ∷ [])
    ≡ (x j).generation ∷ (if b then (x (j + 1)).generation ∷ [] else [])) [
      | true ↦ refl
      | false ↦ refl
    ]

-- a packet within the limits has hops
has_hops : (p : Contents) → IsPacket p → 0 < hop_count p
has_hops p packet = some_hops_of p.route.segments packet.route.some_segment packet.route.segments packet.route.counted
  where
    some_hops_of : (ss : List SegmentHead) → 1 ≤ length ss → All IsSegment ss → hops_of ss ≡ hop_count p → 0 < hop_count p
    some_hops_of [] none all same = absurd (omega (arith, none))
    some_hops_of (s ∷ ss) some all same = (let least = (All-head IsSegment s ss all).least in omega (arith, hops_of-cons s ss, same, least))

-- and its first hop is entered from inside
inside_start : (t : Network) (p : Contents) (x : ℕ → HopName) (road : IsRoad t p x) (packet : IsPacket p) → 0 < hop_count p → ingress p.route 0 ≡ 0
inside_start t p x road packet some = eqb-true _ _ (sym (road.first_is 0 some) ∙ first_hop t p x road packet some)

not_zero : (n : ℕ) → (n + 1 == 0) ≡ false
not_zero n = ne_eqb (n + 1) 0 (λ e. omega (arith, e))

-- ---- what a packet on its way has from the packet that was sent

key_on : (us : List (List ℕ)) (p : Contents) (j : ℕ) → key_at (on_way us p j) (on_way us p j).current ≡ key_at p j
unfolding key_at on_way
key_on us p j = refl

count_on : (us : List (List ℕ)) (p : Contents) (j : ℕ) → hop_count (on_way us p j) ≡ hop_count p
unfolding on_way
count_on us p j = refl

current_is : (us : List (List ℕ)) (p : Contents) (j : ℕ) → (on_way us p j).current ≡ j
unfolding on_way
current_is us p j = refl

named_on : (a : AsId) (g : ℕ) (us : List (List ℕ)) (p : Contents) (j k : ℕ) → hop_name a g (on_way us p j) k ≡ hop_name a g p k
unfolding hop_name on_way
named_on a g us p j k = refl

dest_on : (t : Network) (us vs : List (List ℕ)) (p : Contents) (j : ℕ) → dest_field_of t (on_way us p j) vs ≡ dest_field_of t p vs
unfolding dest_field_of dest_name dest_tag dest_message on_way
dest_on t us vs p j = refl

route_on : (us : List (List ℕ)) (p : Contents) (j : ℕ) → (on_way us p j).route ≡ p.route
unfolding on_way
route_on us p j = refl

dest_field_on : (us : List (List ℕ)) (p : Contents) (j : ℕ) → (on_way us p j).dest_field ≡ p.dest_field
unfolding on_way
dest_field_on us p j = refl

same_welcome : (us : List (List ℕ)) (p : Contents) (j : ℕ) → (if is_tagged (on_way us p j).first then arrival.Accepted else arrival.Unchecked) ≡ welcome p
unfolding on_way
same_welcome us p j = refl

tagged_timed : (first : ℕ) → is_tagged first ≡ true → is_timed first ≡ true
unfolding is_timed level_of level_number
tagged_timed first tagged = at_tagged (λ f. is_timed f ≡ true) refl refl refl refl first tagged

-- a pass as a fact
pass_answer : (es : List Emission) (step : ℕ) (a : AsId) (hop g number : ℕ)
    → as_pass es (event.Pass step a hop g number) ≡ Some (record { asn = a; generation = g; hop = hop; emission = number; packet = packet_at es number })
unfolding as_pass
pass_answer es step a hop g number = refl

-- the source of a hop by the ledger's issues and sends
same_source : (f g : Facts) (x : HopName) (p : Contents) (j : ℕ) → f.issues ≡ g.issues → f.sends ≡ g.sends → source_of f x p j ≡ source_of g x p j
unfolding source_of
same_source f g x p j issues sends = λ i. find (λ s. is_sent_like p s && is_named x (sent_name (issues i) s j)) (sends i)

module _ (t : Network) (step now : ℕ) (h : History) (p : Contents) (x : ℕ → HopName) (road : IsRoad t p x) (made : IsMade t p x) (packet : IsPacket p)
    (honest : Honest t h now p x) (started : NoneFuture t now p) (recorded : IsOnRecord h p x) where
  abbrev Ride : ℕ → History → ℕ → Type 0
  Ride j g number = Rides t step now h p x road made packet j g number

  us : List (List ℕ)
  us = updates_of t p x

  q : ℕ → Contents
  q j = on_way us p j

  q_packet : (j : ℕ) → j ≤ hop_count p → IsPacket (q j)
  unfolding q us on
  q_packet j h' = spelled t step now h p x road made packet j h'

  -- ---- a turn

  module _ (j : ℕ) (g : History) (number : ℕ) (ride : Ride j g number) (within : j < hop_count p) where
    a : AsId
    a = (x j).asn

    bytes : List ℕ
    bytes = spelling (q j)

    in_limits : j ≤ hop_count p
    in_limits = omega (arith, within)

    read : parse bytes ≡ q j
    unfolding bytes
    read = parse-spelling (q j) (q_packet j in_limits)

    here : is_turn p j ≡ true
    here = ride.comes within

    told : Told
    told = told_of t.profile (router_window g a) now (key_at (parse bytes) (parse bytes).current)

    key_is : key_at (parse bytes) (parse bytes).current ≡ key_at p j
    unfolding q
    key_is = ap (λ (c : Contents). key_at c c.current) read ∙ key_on us p j

    unseen : is_timed p.first ≡ true → was_here told ≡ false
    unfolding told told_of was_here a
    unseen timed = ap (λ k. is_some (seen t.profile (router_window g (x j).asn) now k)) key_is ∙ ap is_some (ride.unseen timed j (omega arith) within here)

    src_is : (key_at (parse bytes) (parse bytes).current).src.asn ≡ p.src.asn
    unfolding key_at
    src_is = ap (λ (k : WinKey). k.src.asn) key_is

    room : is_timed p.first ≡ true → has_no_room t.profile told ≡ false
    unfolding told told_of has_no_room a is_turn_at
    room timed =
        let test : ℕ → Bool = λ k. is_turn p k && same_as (x k).asn (x j).asn in
        let more = count_room test j (hop_count p) within (and_from _ _ here ((same_as-Decides (x j).asn (x j).asn).1 refl)) in
        let most = honest.room timed j within here in
        let grown = ride.counted (x j).asn in
        let same = ap (count t.profile (router_window g (x j).asn) now) src_is in
        lt-leb _ _ (omega (arith, more, most, grown, same))

    force : (k : ℕ) → k < hop_count p → (x k).asn ≡ (x j).asn → InForce t (rolls g.events a) p (x k) k
    unfolding a
    force k h' same = subst (λ r. InForce t r p (x k) k) (ap (rolls h.events) same ∙ sym (ride.rolls_are (x j).asn)) (honest.in_force k h')

    turn : Turn
    turn = onward p (last_handled p j) (handled_hops p j) (gens_of x p j)

    answers : turn_of t a (candidates_of (rolls g.events a)) (ingress p.route j) now told bytes ≡ turn
    unfolding a bytes q us turn
    answers =
        answered t us p x road made packet now (rolls g.events a) j within here
        (λ e. (let all = length-updates t p x ∙ count_updated p.first (hop_count p) e in omega (arith, within, all)))
        started honest.valid force told honest.not_stale honest.not_early unseen room (q_packet j in_limits)

    few : emitted g.emissions + length bytes ≤ most_emitted
    unfolding bytes q us on
    few =
        let before = ride.emitted_is in
        let long = same_length t step now h p x road made packet j in_limits in
        let turns = count_room (is_turn p) j (hop_count p) within here in
        let product = product_more (count_below (is_turn p) j) (length (spelling p)) in
        let grown : (count_below (is_turn p) j + 1) * length (spelling p) ≤ count_below (is_turn p) (hop_count p) * length (spelling p)
        = mul-le-mul_right (length (spelling p)) turns in
        let most = honest.emissions in
        omega (arith, before, long, product, grown, most)

    turned : turned_at t step now g a (ingress p.route j) bytes ≡ turned_by t step g a bytes turn
    unfolding turned_at answer_at told
    turned =
        cond-false (nat_lt most_emitted (emitted g.emissions + length bytes)) (nothing g Full) (turned_by t step g a bytes (answer_at t now g a (ingress p.route j) bytes))
        (le-ltb most_emitted (emitted g.emissions + length bytes) few)
        ∙ ap (turned_by t step g a bytes) answers

    passed : passed_on t step now g number ≡ turned_by t step g a bytes turn
    unfolding passed_on pass_at place_at a bytes q us on
    passed =
        ap (λ o. option_map_or (λ e. pass_at t step now g e.place e.bytes) o (nothing g Full)) ride.emission
        ∙ (ap (λ due. pass_at t step now g due (spelling (on_way us p j)))
        (cond-true (nat_lt j (hop_count p)) (Router (x j).asn (ingress p.route j)) (Host p.dst) (lt-ltb j (hop_count p) within))
        ∙ turned)

    z : ℕ
    z = last_handled p j

    j' : ℕ
    j' = j + handled_hops p j

    next_is : z + 1 ≡ j'
    unfolding z j'
    next_is = after_last p j

    last : IsLastHandled t p x road packet j z
    unfolding z
    last = last_is t p x road packet j within

    gens : List ℕ
    gens = take (handled_hops p j) (gens_of x p j)

    -- the packet goes on over the egress of its last hop that is handled
    forwards : (egress p.route z == 0) ≡ false
        → passed_on t step now g number ≡ left t step g a bytes (Forward (egress p.route z) (handled_hops p j) (gens_of x p j)) (due_behind t a (egress p.route z)) gens
    unfolding turned_by onward turn z gens
    forwards e =
        passed ∙ ap (turned_by t step g a bytes) (cond-false (egress p.route z == 0) (Deliver p.dst.host (handled_hops p j) (gens_of x p j)) (Forward (egress p.route z) (handled_hops p j) (gens_of x p j)) e)

    -- or is delivered
    delivers : (egress p.route z == 0) ≡ true
        → passed_on t step now g number ≡ left t step g a bytes (Deliver p.dst.host (handled_hops p j) (gens_of x p j)) (Host (record { asn = a; host = p.dst.host })) gens
    unfolding turned_by onward turn z gens
    delivers e =
        passed ∙ ap (turned_by t step g a bytes) (cond-true (egress p.route z == 0) (Deliver p.dst.host (handled_hops p j) (gens_of x p j)) (Forward (egress p.route z) (handled_hops p j) (gens_of x p j)) e)

    -- ---- the ledger after it

    one_on : (k : ℕ) → k < hop_count p → (x k).asn ≡ a → hop_on t a (x k).generation (on_way us p k) ≡ on_way us p (k + 1)
    unfolding us
    one_on k h' same =
        on_next t a (x k).generation us p k (x k) (ap (λ b. hop_name b (x k).generation p k) (sym same) ∙ name_on t p x k road h') h' packet.counted
        (λ e. (length-updates t p x ∙ count_updated p.first (hop_count p) e, update_at t p x k e h'))

    second_in : has_second p j ≡ true → j + 1 < hop_count p
    second_in e = (let ne = (second_is p j e).1 in omega (arith, within, ne))

    second_as : has_second p j ≡ true → (x (j + 1)).asn ≡ a
    unfolding a
    second_as e = road.switches j (second_in e) (second_is p j e).0

    moved : hops_on t a (own_gens x p j) (q j) ≡ q j'
    unfolding q j' a
    moved =
        ⊎_elim
        (λ s. (let at : j + 1 + 1 ≡ j + handled_hops p j = omega (arith, two p j s) in
        ap (λ l. hops_on t (x j).asn l (on_way us p j)) (gens_two x p j s)
        ∙ (ap (λ c. hop_on t (x j).asn (x (j + 1)).generation c) (one_on j within refl) ∙ (one_on (j + 1) (second_in s) (second_as s) ∙ ap (on_way us p) at))))
        (λ s. (let at : j + 1 ≡ j + handled_hops p j = omega (arith, one p j s) in
        ap (λ l. hops_on t (x j).asn l (on_way us p j)) (gens_one x p j s) ∙ (one_on j within refl ∙ ap (on_way us p) at)))
        (cases_Bool (has_second p j))

    g' : History
    g' = longer g step a (length g.emissions + 1) j (own_gens x p j) (record { place = place_at t step now h p x road made packet j'; bytes = spelling (q j') })

    history_is : (answer : Turn) (due : Place) → packet_after t a answer (parse bytes) ≡ hops_on t a gens (parse bytes)
        → due ≡ place_at t step now h p x road made packet j'
        → (left t step g a bytes answer due gens).history ≡ g'
    unfolding left g' q gens
    history_is answer due after due_is =
        let current : (parse bytes).current ≡ j = ap (λ (c : Contents). c.current) read ∙ current_is us p j in
        let taken = taken_gens x p j in
        let gone : packet_after t a answer (parse bytes) ≡ on_way us p j' = after ∙ (ap (hops_on t a gens) read ∙ (ap (λ l. hops_on t a l (on_way us p j)) taken ∙ moved)) in
        λ i. record {
          events = g.events ++ passes_from step a (length g.emissions + 1) (current i) (taken i);
          emissions = g.emissions ++ record { place = due_is i; bytes = spelling (gone i) } ∷ [];
        }

    ride' : Ride j' g' (length g.emissions + 1)
    unfolding g' j' a q us on
    ride' = rides_on t step now h p x road made packet j g number ride within

    -- ---- the verdicts

    module _ (V : Verdict → Type 0)
        (good : (k : ℕ) → j ≤ k → k < j + handled_hops p j → V (hop_verdict t (facts_of g) (x k) (on_way us p j) k)) where
      verdicts_are : hop_verdicts t (facts_of g) a (parse bytes) (parse bytes).current gens ≡ hop_verdicts t (facts_of g) a (q j) j (own_gens x p j)
      unfolding q gens
      verdicts_are =
          let current : (parse bytes).current ≡ j = ap (λ (c : Contents). c.current) read ∙ current_is us p j in
          λ i. hop_verdicts t (facts_of g) a (read i) (current i) (taken_gens x p j i)

      one_good : (k : ℕ) → k < hop_count p → (x k).asn ≡ a → j ≤ k → k < j + handled_hops p j
          → V (hop_verdict t (facts_of g) (hop_name a (x k).generation (q j) k) (q j) k)
      unfolding q
      one_good k h' same from to =
          subst (λ y. V (hop_verdict t (facts_of g) y (on_way us p j) k))
          (sym (named_on a (x k).generation us p j k ∙ (ap (λ b. hop_name b (x k).generation p k) (sym same) ∙ name_on t p x k road h')))
          (good k from to)

      all_good : Each V (hop_verdicts t (facts_of g) a (q j) j (own_gens x p j))
      unfolding a
      all_good =
          ⊎_elim
          (λ s. subst (λ l. Each V (hop_verdicts t (facts_of g) a (q j) j l)) (sym (gens_two x p j s)) (
            one_good j within refl (omega arith) (omega (arith, two p j s)),
            (one_good (j + 1) (second_in s) (second_as s) (omega arith) (omega (arith, two p j s)), tt),
          ))
          (λ s. subst (λ l. Each V (hop_verdicts t (facts_of g) a (q j) j l)) (sym (gens_one x p j s))
          (one_good j within refl (omega arith) (omega (arith, one p j s)), tt))
          (cases_Bool (has_second p j))

      welcomed : (answer : Turn) (due : Place) → Each V (left t step g a bytes answer due gens).verdicts
      unfolding left
      welcomed answer due = subst (Each V) (sym verdicts_are) all_good

    -- ---- where it goes

    due_next : is_last (place p.route.segments z) ≡ false → due_behind t a (egress p.route z) ≡ place_at t step now h p x road made packet j'
    unfolding due_behind place_at a
    due_next goes =
        let inside : z < hop_count p = last.within in
        let leads = road.leads z inside goes in
        let more : j' < hop_count p = (let total = packet.route.counted in
        let behind = ((segments_join p.route.segments).behind_other z (omega (arith, inside, total)) goes).0 in omega (arith, behind, total, next_is)) in
        ap (λ b. option_map_or (λ far. Router far.0 far.1) (neighbour t b (egress p.route z)) (Router b (egress p.route z))) (sym last.asn_is)
        ∙ (ap (λ o. option_map_or (λ far. Router far.0 far.1) o (Router (x z).asn (egress p.route z))) leads.linked
        ∙ (ap (λ k. Router (x k).asn (ingress p.route k)) next_is
        ∙ sym (cond-true (nat_lt j' (hop_count p)) (Router (x j').asn (ingress p.route j')) (Host p.dst) (lt-ltb j' (hop_count p) more))))

    due_host : z + 1 ≡ hop_count p → ◌≡◌ {A = Place} (Host (record { asn = a; host = p.dst.host })) (place_at t step now h p x road made packet j')
    unfolding place_at a
    due_host ends =
        let asn : (x j).asn ≡ p.dst.asn = sym last.asn_is ∙ road.ends z ends in
        (λ i. Host (record { asn = asn i; host = p.dst.host }))
        ∙ sym (cond-false (nat_lt j' (hop_count p)) (Router (x j').asn (ingress p.route j')) (Host p.dst) (le-ltb j' (hop_count p) (omega (arith, ends, next_is))))

  -- ---- the arrival

  module _ (g : History) (number : ℕ) (ride : Ride (hop_count p) g number) where
    n : ℕ
    n = hop_count p

    letter : List ℕ
    letter = spelling (q n)

    opened : parse letter ≡ q n
    unfolding letter n
    opened = parse-spelling (q (hop_count p)) (q_packet (hop_count p) (omega arith))

    told_there : Told
    told_there = told_of t.profile (host_window g p.dst) now (key_at (parse letter) (hop_count (parse letter)))

    key_there : key_at (parse letter) (hop_count (parse letter)) ≡ key_at p (hop_count p)
    unfolding key_at q n on_way
    key_there = ap (λ (c : Contents). key_at c (hop_count c)) opened

    unseen_there : is_tagged p.first ≡ true → was_here told_there ≡ false
    unfolding told_there told_of was_here
    unseen_there tagged =
        ap is_some (ap (λ k. seen t.profile (host_window g p.dst) now k) key_there
        ∙ (ap (λ w. seen t.profile w now (key_at p (hop_count p))) (ride.hosts_are p.dst) ∙ honest.unseen_there tagged))

    room_there : is_tagged p.first ≡ true → has_no_room t.profile told_there ≡ false
    unfolding told_there told_of has_no_room key_at
    room_there tagged =
        let same : count t.profile (host_window g p.dst) now (key_at (parse letter) (hop_count (parse letter))).src.asn ≡ count t.profile (host_window h p.dst) now p.src.asn
        = ap (λ (k : WinKey). count t.profile (host_window g p.dst) now k.src.asn) key_there ∙ ap (λ w. count t.profile w now p.src.asn) (ride.hosts_are p.dst) in
        let most = honest.room_there tagged in
        lt-leb _ _ (omega (arith, same, most))

    field_fits_there : is_tagged p.first ≡ true → dest_field_fits t (q n) ≡ true
    unfolding dest_field_fits q n us
    field_fits_there tagged =
        let updates : own_updates (on_way (updates_of t p x) p (hop_count p)) ≡ updates_of t p x
        = at_end (updates_of t p x) p (length-updates t p x) packet.counted in
        (bytes_eq-Decides _ _).1
        (dest_same ∙ (made.dest_field tagged
        ∙ (sym (dest_on t (updates_of t p x) (updates_of t p x) p (hop_count p))
        ∙ ap (dest_field_of t (on_way (updates_of t p x) p (hop_count p))) (sym updates))))
      where
        dest_same : (on_way (updates_of t p x) p (hop_count p)).dest_field ≡ p.dest_field
        dest_same = dest_field_on (updates_of t p x) p (hop_count p)

    ends_none : first_row (end_rows p.dst (q n)) ≡ None
    unfolding end_rows q n on_way
    ends_none =
        pass _ _ _ (not_from_true _ ((same_host-Decides p.dst p.dst).1 refl))
        (pass _ _ _ (not_from_true _ (eq-eqb (hop_count p) (hop_count p) refl)) refl)

    tagged_none : is_tagged p.first ≡ true → first_row (tagged_rows t now told_there (q n)) ≡ None
    unfolding tagged_rows fresh_rows window_rows q n on_way
    tagged_none tagged =
        let timed = tagged_timed p.first tagged in
        pass _ _ _ (honest.not_stale timed)
        (pass _ _ _ (honest.not_early timed)
        (pass _ _ _ (not_from_true _ (field_fits_there tagged))
        (pass _ _ _ (unseen_there tagged) (pass _ _ _ (room_there tagged) refl))))

    rest_none : first_row (if is_tagged p.first then tagged_rows t now told_there (q n) else []) ≡ None
    rest_none =
        ⊎_elim
        (λ tagged. ap first_row (cond-true (is_tagged p.first) (tagged_rows t now told_there (q n)) [] tagged) ∙ tagged_none tagged)
        (λ plain. ap first_row (cond-false (is_tagged p.first) (tagged_rows t now told_there (q n)) [] plain))
        (cases_Bool (is_tagged p.first))

    rows_there : first_row (rows t p.dst now told_there (q n)) ≡ None
    unfolding rows q on_way
    rows_there =
        first_row-behind (end_rows p.dst (q n)) (if is_tagged p.first then tagged_rows t now told_there (q n) else []) ends_none ∙ rest_none

    spelled_there : IsPacket (q n)
    unfolding n
    spelled_there = q_packet (hop_count p) (omega arith)

    welcomes : arrival_at t now g p.dst letter ≡ welcome p
    unfolding arrival_at arrival_of arrived letter told_there q on_way
    welcomes =
        let s = packets_are_spelled (q n) spelled_there in
        let told' = told_of t.profile (host_window g p.dst) now (key_at (parse (spelling (q n))) (hop_count (parse (spelling (q n))))) in
        ap (λ f. unless (option_map (λ e. Layout e) f) (arrived t p.dst now told' (parse (spelling (q n))))) s.faultless
        ∙ (ap (arrived t p.dst now told') s.says
        ∙ (ap (λ o. unless o (if is_tagged (q n).first then arrival.Accepted else arrival.Unchecked)) rows_there ∙ same_welcome us p n))

    arrives_there : passed_on t step now g number ≡ arrives t step g p.dst (parse letter) (welcome p) (is_tagged p.first)
    unfolding passed_on pass_at place_at letter q us on arrived_at arrived_by n
    arrives_there =
        ap (λ o. option_map_or (λ e. pass_at t step now g e.place e.bytes) o (nothing g Full)) ride.emission
        ∙ (ap (λ due. pass_at t step now g due (spelling (on_way us p (hop_count p))))
        (cond-false (nat_lt (hop_count p) (hop_count p)) (Router (x (hop_count p)).asn (ingress p.route (hop_count p))) (Host p.dst) (le-ltb (hop_count p) (hop_count p) (omega arith)))
        ∙ (ap (arrived_by t step g p.dst (spelling (on_way us p (hop_count p)))) welcomes
        ∙ by_level (spelling (on_way us p (hop_count p))) (is_tagged p.first)))
      where
        by_level : (letters : List ℕ) (b : Bool)
            → arrived_by t step g p.dst letters (if b then arrival.Accepted else arrival.Unchecked)
            ≡ arrives t step g p.dst (parse letters) (if b then arrival.Accepted else arrival.Unchecked) b
        by_level letters true = refl
        by_level letters false = refl

    -- the passes are on record
    all_covered : AllCovered (facts_of g) p x
    unfolding facts_of q us on is_pass_of
    all_covered i h' =
        let c = ride.covered i h' in
        let w : Pass = record { asn = (x i).asn; generation = c.generation; hop = i; emission = c.number; packet = packet_at g.emissions c.number } in
        let there = stands (as_pass g.emissions) g.events c.index (event.Pass c.at_step (x i).asn i c.generation c.number) w c.pass_there (pass_answer g.emissions c.at_step (x i).asn i c.generation c.number) in
        let name = name_of_pass g.emissions c.at_step (x i).asn i c.generation c.number w (on_way us p c.hop) (x i)
        (pass_answer g.emissions c.at_step (x i).asn i c.generation c.number) c.packet_is refl c.generation_is (road.bodies i h' ∙ ap (λ r. body r i) (sym (route_on us p c.hop))) in
        let stamp = on_stamp us p c.hop in (
          there.0,
          w,
          there.1,
          and_from _ _ (and_from _ _ (and_from _ _ (and_from _ _
              (eq-eqb w.packet.first p.first (ap (λ (k : Contents). k.first) c.packet_is ∙ stamp.first))
              ((same_name-Decides (pass_name w) (x i)).1 name.1))
              ((same_host-Decides w.packet.src p.src).1 (ap (λ (k : Contents). k.src) c.packet_is ∙ stamp.src)))
              (eq-eqb w.packet.ts p.ts (ap (λ (k : Contents). k.ts) c.packet_is ∙ stamp.ts)))
              (eq-eqb i i refl),
        )

    proved_there : IsEndVerdict p (dest_verdict t (facts_of g) (parse letter))
    unfolding facts_of q us n
    proved_there =
        subst (λ c. IsEndVerdict p (dest_verdict t (facts_of g) c)) (sym opened)
        (dest_welcome t (facts_of g) us p x (hop_count p) recorded.send
        (ap (λ ss. sent_as ss p) ride.sends_are ∙ recorded.first_as) recorded.packet_is
        (λ i h'. ap (λ is. sent_name is recorded.send i) ride.issues_are ∙ recorded.named i h') all_covered)

    -- the packet is taken, and there is no further pass
    ends : (most : ℕ) → IsEnd p (carried t step now (suc most) g number)
    unfolding carried arrives
    ends most =
        subst (λ (d : Happened). IsEnd p (d ∷ (if d.emission == 0 then [] else carried t step now most d.history d.emission))) (sym arrives_there)
        (refl, (proved_there, tt))

  -- ---- the carry

  module _ (V : Verdict → Type 0)
      (good : (j : ℕ) (g : History) (number : ℕ) → Ride j g number → (k : ℕ) → j ≤ k → k < j + handled_hops p j → k < hop_count p
      → V (hop_verdict t (facts_of g) (x k) (on_way (updates_of t p x) p j) k)) where
    -- what is to be shown of the passes that begin with this one
    Goes : ℕ → Happened → Type 0
    Goes most d = IsCarriedBy V p (d ∷ (if d.emission == 0 then [] else carried t step now most d.history d.emission))

    after_it : (j : ℕ) (g : History) (number : ℕ) → Ride j g number → j < hop_count p → History
    after_it j g number ride within = g' j g number ride within

    still : (j : ℕ) (g : History) (number : ℕ) (ride : Ride j g number) (within : j < hop_count p) → Ride (j + handled_hops p j) (after_it j g number ride within) (length g.emissions + 1)
    unfolding after_it j'
    still j g number ride within = ride' j g number ride within

    verdicts_good : (j : ℕ) (g : History) (number : ℕ) (ride : Ride j g number) (within : j < hop_count p) (k : ℕ) → j ≤ k → k < j + handled_hops p j
        → V (hop_verdict t (facts_of g) (x k) (on_way us p j) k)
    unfolding us
    verdicts_good j g number ride within k from to = good j g number ride k from to (omega (arith, to, all_there p j within))

    forward : (most j : ℕ) (g : History) (number : ℕ) (ride : Ride j g number) (within : j < hop_count p)
        → (egress p.route (last_handled p j) == 0) ≡ false → is_last (place p.route.segments (last_handled p j)) ≡ false
        → IsCarriedBy V p (carried t step now most (after_it j g number ride within) (length g.emissions + 1))
        → Goes most (passed_on t step now g number)
    unfolding Goes after_it left z gens a
    forward most j g number ride within e goes rest =
        let due = due_next j g number ride within goes in
        let answer : Turn = Forward (egress p.route (last_handled p j)) (handled_hops p j) (gens_of x p j) in
        let history = history_is j g number ride within answer (due_behind t (x j).asn (egress p.route (last_handled p j))) refl due in
        subst (Goes most) (sym (forwards j g number ride within e)) (
          welcomed j g number ride within V (verdicts_good j g number ride within) answer (due_behind t (x j).asn (egress p.route (last_handled p j))),
          subst (IsCarriedBy V p) (sym (cond-false (length g.emissions + 1 == 0) [] _ (not_zero (length g.emissions))))
              (subst (λ f. IsCarriedBy V p (carried t step now most f (length g.emissions + 1))) (sym history) rest),
        )

    deliver : (most j : ℕ) (g : History) (number : ℕ) (ride : Ride j g number) (within : j < hop_count p)
        → (egress p.route (last_handled p j) == 0) ≡ true → last_handled p j + 1 ≡ hop_count p → 1 ≤ most
        → Goes most (passed_on t step now g number)
    unfolding Goes after_it left z gens a
    deliver zero j g number ride within e ends_there some = absurd (omega (arith, some))
    deliver (suc most) j g number ride within e ends_there some =
        let due = due_host j g number ride within ends_there in
        let host : Place = Host (record { asn = (x j).asn; host = p.dst.host }) in
        let answer : Turn = Deliver p.dst.host (handled_hops p j) (gens_of x p j) in
        let history = history_is j g number ride within answer host refl due in
        let end : j + handled_hops p j ≡ hop_count p = omega (arith, ends_there, after_last p j) in
        let last_ride : Ride (hop_count p) (after_it j g number ride within) (length g.emissions + 1)
        = subst (λ k. Ride k (after_it j g number ride within) (length g.emissions + 1)) end (still j g number ride within) in
        subst (Goes (suc most)) (sym (delivers j g number ride within e)) (
          welcomed j g number ride within V (verdicts_good j g number ride within) answer host,
          subst (IsEnd p) (sym (cond-false (length g.emissions + 1 == 0) [] _ (not_zero (length g.emissions))))
              (subst (λ f. IsEnd p (carried t step now (suc most) f (length g.emissions + 1))) (sym history) (ends (after_it j g number ride within) (length g.emissions + 1) last_ride most)),
        )

    carry : (most j : ℕ) (g : History) (number : ℕ) → Ride j g number → j < hop_count p → hop_count p + 1 ≤ j + most
        → IsCarriedBy V p (carried t step now most g number)
    unfolding carried Goes
    carry zero j g number ride within fuel = absurd (omega (arith, within, fuel))
    carry (suc most) j g number ride within fuel =
        ⊎_elim
        (λ goes. (let e : (egress p.route (last_handled p j) == 0) ≡ false = sym (road.last_is (last_handled p j) inside) ∙ goes in
        let more = (segments_join p.route.segments).behind_other (last_handled p j) (omega (arith, inside, total)) goes in
        let some = some_hops p j in
        forward most j g number ride within e goes
        (carry most (j + handled_hops p j) (after_it j g number ride within) (length g.emissions + 1) (still j g number ride within)
        (omega (arith, more.0, total, after_last p j)) (omega (arith, fuel, some)))))
        (λ ends_there. (let e : (egress p.route (last_handled p j) == 0) ≡ true = sym (road.last_is (last_handled p j) inside) ∙ ends_there.1 in
        deliver most j g number ride within e ends_there.0 (omega (arith, fuel, within))))
        (last_is t p x road packet j within).goes
      where
        inside : last_handled p j < hop_count p
        inside = (last_is t p x road packet j within).within

        total : hops_of p.route.segments ≡ hop_count p
        total = packet.route.counted

-- ---- the laws

module _ (t : Network) (step now : ℕ) (h : History) (p : Contents) (x : ℕ → HopName) (number : ℕ) (ready : IsReady t h now p x number) (honest : Honest t h now p x) where
  first_ride : Rides t step now h p x ready.road ready.made ready.packet 0 h number
  unfolding place_at on us count_below is_turn
  first_ride = record {
    there = lawful_there h ready.lawful;
    emission = ready.there ∙ ap (λ e. Some e) (ready.at_start ∙ start_is);
    within = omega arith;
    comes = λ _. refl;
    rolls_are = λ a. refl;
    issues_are = refl;
    sends_are = refl;
    reveals_are = refl;
    hosts_are = λ d. refl;
    unseen = λ timed k _ h' turn. honest.unseen timed k h' turn;
    counted = λ a. omega arith;
    emitted_is = omega arith;
    covered = λ i small. absurd (omega (arith, small));
    others = λ none. none;
  }
    where
      some_hop : 0 < hop_count p
      some_hop = has_hops p ready.packet

      start_is : ◌≡◌ {A = Emission} (record { place = Router p.src.asn 0; bytes = spelling p })
          (record { place = if nat_lt 0 (hop_count p) then Router (x 0).asn (ingress p.route 0) else Host p.dst; bytes = spelling (on_way (updates_of t p x) p 0) })
      start_is = λ i. record {
        place = (ap (λ a. Router a 0) (sym ready.road.starts) ∙ (ap (Router (x 0).asn) (sym (inside_start t p x ready.road ready.packet some_hop))
            ∙ sym (cond-true (nat_lt 0 (hop_count p)) (Router (x 0).asn (ingress p.route 0)) (Host p.dst) (lt-ltb 0 (hop_count p) some_hop)))) i;
        bytes = ap spelling (sym (on_start (updates_of t p x) p ready.made.begins)) i;
      }

  begins : (V : Verdict → Type 0)
      → ((j : ℕ) (g : History) (n : ℕ) → Rides t step now h p x ready.road ready.made ready.packet j g n → (k : ℕ) → j ≤ k → k < j + handled_hops p j → k < hop_count p
      → V (hop_verdict t (facts_of g) (x k) (on_way (updates_of t p x) p j) k))
      → IsCarriedBy V p (carried t step now 33 h number)
  begins V good =
      let few = ready.packet.route.few_hops in
      carry t step now h p x ready.road ready.made ready.packet honest ready.started ready.recorded V good 33 0 h number first_ride
      (has_hops p ready.packet) (omega (arith, few))

  -- a hop's issue and source, over the ledger at hand
  issued_now : (j : ℕ) (g : History) (n : ℕ) → Rides t step now h p x ready.road ready.made ready.packet j g n → (k : ℕ) → k < hop_count p → IsSome (issue_of (facts_of g).issues (x k))
  unfolding facts_of
  issued_now j g n ride k h' = subst (λ is. IsSome (issue_of is (x k))) (sym ride.issues_are) (ready.recorded.issued k h')

  sourced_now : (j : ℕ) (g : History) (n : ℕ) → Rides t step now h p x ready.road ready.made ready.packet j g n → (k : ℕ) → k < hop_count p → IsSome (source_of (facts_of g) (x k) p k)
  unfolding facts_of
  sourced_now j g n ride k h' =
      subst (λ (o : Option Sent). IsSome o) (sym (same_source (facts_of g) (facts_of h) (x k) p k ride.issues_are ride.sends_are)) (ready.recorded.sourced k h')

  pub arrives_whole : IsCarried p (carried t step now 33 h number)
  arrives_whole =
      begins IsWelcome (λ j g n ride k from to h'. hop_welcome t (facts_of g) (x k) (updates_of t p x) p j k (issued_now j g n ride k h') (sourced_now j g n ride k h'))

  pub proved_whole : NoOtherPassed h p x → IsProvedAllAlong p (carried t step now 33 h number)
  unfolding facts_of same_path
  proved_whole none =
      begins IsProvedHop
      (λ j g n ride k from to h'. hop_proved t (facts_of g) (x k) (updates_of t p x) p j k (issued_now j g n ride k h') (sourced_now j g n ride k h')
      (chained_by (facts_of g) x (updates_of t p x) p j k
      (λ first. subst (λ is. GoesOnFrom is (higher (x (k - 1)) (x k)) (lower (x (k - 1)) (x k))) (sym ride.issues_are) (ready.recorded.chained k h' first))
      (λ m w at hop path. ride.others none m w at (omega (arith, hop, h')) ((bytes_eq-Decides (path_bytes w.packet.route) (path_bytes p.route)).1 path) ∙ ap x hop)))

pub honest_packets_arrive : HonestPacketsArrive
honest_packets_arrive t step now h p x number ready honest = arrives_whole t step now h p x number ready honest

pub honest_packets_are_proved : HonestPacketsAreProved
honest_packets_are_proved t step now h p x number ready honest none = proved_whole t step now h p x number ready honest none
