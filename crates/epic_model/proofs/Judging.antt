-- The verdicts of a passage are right.
use Rattle.std.proofs.Common.{◌≡◌, ℕ, zero, suc, ◌+◌, ◌<◌, ◌≤◌, true, List, [], ◌∷◌, length, take, Option, None, Some, refl, ap, sym, subst, ◌∙◌, arith, add-zero, length-take, get_or-take}
use Rattle.std.specs.Prelude.{◌==◌, nat_lt, option_map, slice_get, slice_index}
use Rattle.std.proofs.lemmas.Bool.{cond_both, both_ways}
use Rattle.std.proofs.lemmas.Option.{same_Some, slice_get_within, get_or_from_slice_get}
use Rattle.epic_num.specs.declared.arrival.Arrival.{Arrival}
use Rattle.epic_num.specs.declared.arrival.Arrival.TheVariants as arrival
use Rattle.epic_num.specs.declared.name.AsId.{AsId}
use Rattle.epic_num.specs.declared.name.HostId.{HostId}
use Rattle.epic_num.specs.declared.passed.PassResult.TheVariants.{Full}
use Rattle.epic_num.specs.declared.passed.Place.{Place}
use Rattle.epic_num.specs.declared.passed.Place.TheVariants.{Router, Host}
use Rattle.epic_num.specs.declared.turn.Check.{Check}
use Rattle.epic_num.specs.declared.turn.Turn.{Turn}
use Rattle.epic_num.specs.declared.turn.Turn.TheVariants.{Forward, Deliver, Refused}
use Rattle.epic_num.specs.declared.verdict.Verdict.{Verdict}
use Rattle.epic_num.specs.Levels.{is_first_byte, is_tagged}
use Rattle.epic_num.specs.Tables.{first_row}
use Rattle.epic_num.specs.Windows.{Told}
use Rattle.epic_layout.specs.Contents.{Contents, IsPacket, hop_count}
use Rattle.epic_layout.specs.Layout.{fault, parse}
use Rattle.epic_layout.specs.Reading.{IsRead}
use Rattle.epic_layout.specs.Route.{egress}
use Rattle.epic_topo.specs.Network.{Network}
use Rattle.epic_fields.specs.HopChecks.{hop_name, has_field, has_link}
use Rattle.epic_router.specs.Candidates.{candidates_of}
use Rattle.epic_router.specs.Checks.{has_second, handled_hops, last_handled, rows}
use Rattle.epic_router.specs.Handling.{generations_from, onward, unless, handled, turn_of}
use Rattle.epic_router.specs.Remembering.{key_at}
use Rattle.epic_router.specs.RightTurns.{IsAccepted, IsRightTurn}
use Rattle.epic_router.proofs.Right.{turns_are_right}
use Rattle.epic_ends.specs.RightArrivals.{IsRightArrival}
use Rattle.epic_ends.proofs.Arrivals.{arrivals_are_right}
use Rattle.epic_window.specs.Entries.{told_of}
use Rattle.epic_ledger.specs.History.{History, emitted}
use Rattle.epic_ledger.specs.Facts.{Facts, facts_of}
use Rattle.epic_audit.specs.Kept.{ArePackets, Kept}
use Rattle.epic_audit.specs.Laws as laws
use Rattle.epic_audit.specs.Verdicts.{hop_verdict, dest_verdict}
use Rattle.epic_audit.proofs.Hop.{hop_verdicts}
use Rattle.epic_audit.proofs.Dest.{dest_verdicts}
use Rattle.epic_audit.proofs.Growth.{lawful_packets}
use Rattle.epic_model.specs.Judged.{IsRightHopVerdict, AreJudged, IsRightEndVerdict, IsJudgedAt, IsJudged}
use Rattle.epic_model.specs.Passing as passing
use Rattle.epic_model.specs.Passing.{Happened, most_emitted, rolls, left, nothing, due_behind, turned_by, answer_at, turned_at, arrives, arrived_by, arrival_at, arrived_at, pass_at}
use Rattle.epic_model.specs.Sound.{IsSound}
use Rattle.epic_model.specs.Windows.{router_window, host_window}

-- ---- how many generations an answer tells

-- as many as it may handle hops, and it handles no more
abbrev pub TellsTwo : Turn → Type 0
TellsTwo (Forward out hops generations) = hops ≤ length generations
TellsTwo (Deliver host hops generations) = hops ≤ length generations
TellsTwo (Refused check hop) = Unit {0}

two_unless : (o : Option (Check × ℕ)) (answer : Turn) → TellsTwo answer → TellsTwo (unless o answer)
two_unless None answer two = two
two_unless (Some row) answer two = tt

two_hops : (p : Contents) (j : ℕ) → handled_hops p j ≤ 2
unfolding handled_hops
two_hops p j = cond_both (has_second p j) 2 1 (λ n. n ≤ 2) (λ _. omega arith) (λ _. omega arith)

two_onward : (p : Contents) (last hops : ℕ) (generations : List ℕ) → hops ≤ length generations → TellsTwo (onward p last hops generations)
unfolding onward
two_onward p last hops generations two =
    cond_both (egress p.route last == 0) (Deliver p.dst.host hops generations) (Forward (egress p.route last) hops generations) TellsTwo
    (λ _. two) (λ _. two)

two_generations : (t : Network) (a : AsId) (candidates : List ℕ) (p : Contents) (j : ℕ) → handled_hops p j ≤ length (generations_from t a candidates p j)
unfolding generations_from
two_generations t a candidates p j = two_hops p j

pub turns_tell_two : (t : Network) (a : AsId) (candidates : List ℕ) (iface now : ℕ) (told : Told) (bytes : List ℕ)
    → TellsTwo (turn_of t a candidates iface now told bytes)
unfolding turn_of handled
turns_tell_two t a candidates iface now told bytes =
    let p = parse bytes in
    two_unless (option_map _ (fault is_first_byte bytes)) _
    (two_unless (first_row (rows t a candidates iface now told p)) _
    (two_onward p (last_handled p p.current) (handled_hops p p.current) (generations_from t a candidates p p.current)
    (two_generations t a candidates p p.current)))

-- ---- hops

as_many : (t : Network) (f : Facts) (a : AsId) (p : Contents) (j : ℕ) (gs : List ℕ) → length (passing.hop_verdicts t f a p j gs) ≡ length gs
as_many t f a p j [] = refl
as_many t f a p j (g ∷ gs) = ap suc (as_many t f a p (j + 1) gs)

-- each verdict is of the hop at its place, under the generation there
right_at : (t : Network) (f : Facts) (a : AsId) (p : Contents) (j : ℕ) (gs : List ℕ) → ArePackets f → Kept t f
    → ((i g : ℕ) → slice_get gs i ≡ Some g → laws.IsAccepted t a g p (j + i))
    → (i : ℕ) (v : Verdict) → slice_get (passing.hop_verdicts t f a p j gs) i ≡ Some v
    → (g : ℕ) × ((slice_get gs i ≡ Some g) × IsRightHopVerdict t f a g p (j + i) v)
right_at t f a p j [] packets kept each i v at = absurd (cc)
right_at t f a p j (g ∷ gs) packets kept each zero v at =
    let accepted = subst (λ k. laws.IsAccepted t a g p k) (add-zero j) (each 0 g refl) in
    let law = hop_verdicts t f a g p j packets kept accepted in
    let right : IsRightHopVerdict t f a g p j (hop_verdict t f (hop_name a g p j) p j) = record { exact = law.0; holds = law.1 } in
    (g, (refl, subst (λ k. IsRightHopVerdict t f a g p k v) (sym (add-zero j)) (subst (IsRightHopVerdict t f a g p j) (same_Some _ v at) right)))
right_at t f a p j (g ∷ gs) packets kept each (suc i) v at =
    let later : (k h : ℕ) → slice_get gs k ≡ Some h → laws.IsAccepted t a h p (j + 1 + k)
    = λ k h there. (let same : j + suc k ≡ j + 1 + k = omega arith in subst (λ n. laws.IsAccepted t a h p n) same (each (suc k) h there)) in
    let rest = right_at t f a p (j + 1) gs packets kept later i v at in
    let same : j + 1 + i ≡ j + suc i = omega arith in
    (rest.0, (rest.1.0, subst (λ n. IsRightHopVerdict t f a rest.0 p n v) same rest.1.1))

module _ (t : Network) (step now : ℕ) (h : History) (a : AsId) (iface : ℕ) (bytes : List ℕ) (read : IsRead bytes) (sound : IsSound t h step) where
  told : Told
  told = told_of t.profile (router_window h a) now (key_at (parse bytes) (parse bytes).current)

  handled_judged : (turn : Turn) (hops : ℕ) (generations : List ℕ) → hops ≤ length generations
      → IsAccepted t a (candidates_of (rolls h.events a)) iface now told bytes turn hops generations
      → (let p = parse bytes in
      AreJudged t (facts_of h) a p hops generations (passing.hop_verdicts t (facts_of h) a p p.current (take hops generations)))
  handled_judged turn hops generations two acc =
      let p = parse bytes in
      let packet : IsPacket p = read acc.faultless in
      let gs = take hops generations in
      let within : (i g : ℕ) → slice_get gs i ≡ Some g → i < hops
      = λ i g at. (let inside = slice_get_within gs i g at in omega (arith, inside, length-take hops generations)) in
      let is : (i g : ℕ) → slice_get gs i ≡ Some g → slice_index generations i ≡ g
      = λ i g at. sym (get_or-take hops generations i 0 (within i g at)) ∙ get_or_from_slice_get gs i g 0 at in
      let accepted : (i g : ℕ) → slice_get gs i ≡ Some g → laws.IsAccepted t a g p (p.current + i)
      = λ i g at. (let small = within i g at in
      let right = acc.each i small in
      record {
        packet = packet;
        within = omega (arith, small, acc.there);
        field_right = subst (λ k. has_field t (hop_name a k p (p.current + i)) p (p.current + i) ≡ true) (is i g at) right.field_is;
        link_right = subst (λ k. has_link t (hop_name a k p (p.current + i)) p (p.current + i) ≡ true) (is i g at) right.link_is;
      }) in
      record {
        count = as_many t (facts_of h) a p p.current gs ∙ (let long = length-take hops generations in omega (arith, long, two));
        each = λ i v at. (let found = right_at t (facts_of h) a p p.current gs (lawful_packets h sound.lawful) sound.kept accepted i v at in
            subst (λ k. IsRightHopVerdict t (facts_of h) a k p (p.current + i) v) (sym (is i found.0 found.1.0)) found.1.1);
      }

  -- what becomes of the bytes is judged
  abbrev pub AtRouter : Happened → Type 0
  AtRouter d = IsJudgedAt t (facts_of h) (parse bytes) d.verdicts (Router a iface) d.result

  turn_judged : (turn : Turn) → IsRightTurn t a (candidates_of (rolls h.events a)) iface now told bytes turn → TellsTwo turn
      → AtRouter (turned_by t step h a bytes turn)
  unfolding turned_by left
  turn_judged (Forward out hops generations) right two = handled_judged (Forward out hops generations) hops generations two right.0
  turn_judged (Deliver host hops generations) right two = handled_judged (Deliver host hops generations) hops generations two right.0
  turn_judged (Refused check hop) right two = refl

  pub turned_judged : AtRouter (turned_at t step now h a iface bytes)
  unfolding turned_at answer_at told
  turned_judged =
      cond_both (nat_lt most_emitted (emitted h.emissions + length bytes)) (nothing h Full) (turned_by t step h a bytes (answer_at t now h a iface bytes)) AtRouter
      (λ _. refl)
      (λ _. turn_judged (answer_at t now h a iface bytes)
      (turns_are_right t a (candidates_of (rolls h.events a)) iface now told bytes read)
      (turns_tell_two t a (candidates_of (rolls h.events a)) iface now told bytes))

-- ---- destinations

module _ (t : Network) (step now : ℕ) (h : History) (d : HostId) (bytes : List ℕ) (read : IsRead bytes) (sound : IsSound t h step) where
  end_judged : laws.IsArrived t (parse bytes) → IsRightEndVerdict t (facts_of h) (parse bytes) (dest_verdict t (facts_of h) (parse bytes) ∷ [])
  end_judged arrived =
      let law = dest_verdicts t (facts_of h) (parse bytes) (lawful_packets h sound.lawful) sound.kept arrived in
      record { verdict = dest_verdict t (facts_of h) (parse bytes); one = refl; exact = law.0; holds = law.1 }

  abbrev pub AtHost : Happened → Type 0
  AtHost x = IsJudgedAt t (facts_of h) (parse bytes) x.verdicts (Host d) x.result

  arrival_judged : (tells : Told) (answer : Arrival) → IsRightArrival t d now tells bytes answer → AtHost (arrived_by t step h d bytes answer)
  unfolding arrived_by arrives
  arrival_judged tells arrival.Accepted right =
      end_judged (record { packet = read right.0.faultless; dest_field_right = λ _. right.1.dest_field_right })
  arrival_judged tells arrival.Unchecked right =
      end_judged (record { packet = read right.0.faultless; dest_field_right = λ tagged. absurd (both_ways (is_tagged (parse bytes).first) right.1 tagged) })
  arrival_judged tells (arrival.Refused check) right = refl

  pub arrived_judged : AtHost (arrived_at t step now h d bytes)
  unfolding arrived_at arrival_at
  arrived_judged =
      let tells = told_of t.profile (host_window h d) now (key_at (parse bytes) (hop_count (parse bytes))) in
      arrival_judged tells (arrival_at t now h d bytes) (arrivals_are_right t d now tells bytes)

-- ---- places

pub passed_judged : (t : Network) (step now : ℕ) (h : History) (place : Place) (bytes : List ℕ) → IsRead bytes → IsSound t h step
    → IsJudged t (record { before = h; place = place; came = bytes; happened = pass_at t step now h place bytes })
unfolding pass_at
passed_judged t step now h (Router a iface) bytes read sound = turned_judged t step now h a iface bytes read sound
passed_judged t step now h (Host d) bytes read sound = arrived_judged t step now h d bytes read sound
