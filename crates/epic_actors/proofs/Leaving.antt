-- A packet that a router accepted: its verdicts, its emission and its passes.
use Rattle.std.proofs.Common.{◌≡◌, ℕ, ◌+◌, ◌<◌, ◌≤◌, List, [], ◌∷◌, ◌++◌, length, take, Option, None, refl, ap, sym, subst, ◌∙◌, arith}
use Rattle.std.specs.Prelude.{slice_index, IsSome}
use Rattle.std.proofs.lemmas.List.Elements.{All-push}
use Rattle.epic_num.specs.declared.name.AsId.{AsId}
use Rattle.epic_num.specs.declared.passed.Place.{Place}
use Rattle.epic_num.specs.declared.turn.Turn.{Turn}
use Rattle.epic_num.specs.Levels.{is_first_byte}
use Rattle.epic_layout.specs.Contents.{Contents, hop_count}
use Rattle.epic_layout.specs.Layout.{fault, parse}
use Rattle.epic_layout.specs.Route.{Route}
use Rattle.epic_layout.specs.Spelling.{spelling}
use Rattle.epic_layout.proofs.OneSpelling.{packets_are_spelled}
use Rattle.epic_topo.specs.Network.{Network}
use Rattle.epic_fields.specs.HopChecks.{hop_name}
use Rattle.epic_router.specs.Leaving.{packet_after}
use Rattle.epic_router.proofs.Right.{some_hops, few_hops}
use Rattle.epic_ledger.specs.History.{History, Emission, emission_at, step_of}
use Rattle.epic_ledger.specs.Facts.{Facts, packet_at}
use Rattle.epic_ledger.specs.Lawful.{IsLast}
use Rattle.epic_ledger.specs.declared.event.Event.{Event}
use Rattle.epic_ledger.specs.declared.event.Event.TheVariants as event
use Rattle.epic_audit.specs.Verdicts.{hop_verdict}
use Rattle.epic_model.specs.Passing.{hop_verdicts, passes_from}
use Rattle.epic_model.proofs.Grown.{parse-spelling, emission_next, packet_next}
use Rattle.epic_actors.specs.Telling.{IsAcceptedAt, IsHopAccepted}

-- ---- steps

pub last_more : (events : List Event) (e : Event) (step : ℕ) → IsLast events step → step_of e ≡ step → IsLast (events ++ e ∷ []) step
last_more events e step all same = All-push (λ d. step_of d ≤ step) events e all (omega (arith, same))

-- ---- one hop or two

both_of : (gs : List ℕ) → length gs ≡ 2 → gs ≡ slice_index gs 0 ∷ slice_index gs 1 ∷ []
both_of [] e = absurd (omega (arith, e))
both_of (x ∷ []) e = absurd (omega (arith, e))
both_of (x ∷ y ∷ []) e = refl
both_of (x ∷ y ∷ z ∷ zs) e = absurd (omega (arith, e))

one_taken : (hops : ℕ) (gs : List ℕ) → length gs ≡ 2 → 1 ≤ hops → hops ≤ 1 → take hops gs ≡ slice_index gs 0 ∷ []
one_taken hops gs e some few =
    let one : hops ≡ 1 = omega (arith, some, few) in
    ap (λ n. take n gs) one ∙ ap (take 1) (both_of gs e)

two_taken : (hops : ℕ) (gs : List ℕ) → length gs ≡ 2 → 1 < hops → hops ≤ 2 → take hops gs ≡ slice_index gs 0 ∷ slice_index gs 1 ∷ []
two_taken hops gs e more few =
    let two : hops ≡ 2 = omega (arith, more, few) in
    ap (λ n. take n gs) two ∙ ap (take 2) (both_of gs e)

pub one_verdict : (t : Network) (f : Facts) (a : AsId) (p : Contents) (j hops : ℕ) (gs : List ℕ) → length gs ≡ 2 → 1 ≤ hops → hops ≤ 1
    → hop_verdicts t f a p j (take hops gs) ≡ hop_verdict t f (hop_name a (slice_index gs 0) p j) p j ∷ []
one_verdict t f a p j hops gs e some few = ap (hop_verdicts t f a p j) (one_taken hops gs e some few)

pub two_verdicts : (t : Network) (f : Facts) (a : AsId) (p : Contents) (j hops : ℕ) (gs : List ℕ) → length gs ≡ 2 → 1 < hops → hops ≤ 2
    → hop_verdicts t f a p j (take hops gs)
    ≡ hop_verdict t f (hop_name a (slice_index gs 0) p j) p j ∷ hop_verdict t f (hop_name a (slice_index gs 1) p (j + 1)) p (j + 1) ∷ []
two_verdicts t f a p j hops gs e more few = ap (hop_verdicts t f a p j) (two_taken hops gs e more few)

pub one_pass : (step : ℕ) (a : AsId) (number j hops : ℕ) (gs : List ℕ) → length gs ≡ 2 → 1 ≤ hops → hops ≤ 1
    → passes_from step a number j (take hops gs) ≡ event.Pass step a j (slice_index gs 0) number ∷ []
one_pass step a number j hops gs e some few = ap (passes_from step a number j) (one_taken hops gs e some few)

pub two_passes : (step : ℕ) (a : AsId) (number j hops : ℕ) (gs : List ℕ) → length gs ≡ 2 → 1 < hops → hops ≤ 2
    → passes_from step a number j (take hops gs)
    ≡ event.Pass step a j (slice_index gs 0) number ∷ event.Pass step a (j + 1) (slice_index gs 1) number ∷ []
two_passes step a number j hops gs e more few = ap (passes_from step a number j) (two_taken hops gs e more few)

-- ---- an accepted packet

module _ (t : Network) (now : ℕ) (h : History) (a : AsId) (iface : ℕ) (bytes : List ℕ) (turn : Turn) (hops : ℕ) (generations : List ℕ)
    (acc : IsAcceptedAt t now h a iface bytes turn hops generations) where
  pub hop_accepted : (i : ℕ) → i < hops → IsHopAccepted t a (slice_index generations i) (parse bytes) ((parse bytes).current + i)
  hop_accepted i small = record { field_right = (acc.each i small).field_is; link_right = (acc.each i small).link_is }

  pub hops_some : 1 ≤ hops
  hops_some = (let some = some_hops (parse bytes) (parse bytes).current in omega (arith, acc.hops_are, some))

  pub hops_few : hops ≤ 2
  hops_few = (let few = few_hops (parse bytes) (parse bytes).current in omega (arith, acc.hops_are, few))

  pub leaves_faultless : fault is_first_byte (spelling (packet_after t a turn (parse bytes))) ≡ None
  leaves_faultless = (packets_are_spelled (packet_after t a turn (parse bytes)) acc.goes_on.packet).faultless

  pub hops_fit : (parse bytes).current + hops < 256
  hops_fit =
      let few = acc.goes_on.packet.route.few_hops in
      let same : hop_count (packet_after t a turn (parse bytes)) ≡ hop_count (parse bytes) = ap (λ (r : Route). length r.hops) acc.goes_on.route in
      omega (arith, few, same, acc.there)

  -- in the emission that it makes
  pub leaves_there : (due : Place) (es : List Emission) → IsSome (emission_at (es ++ record { place = due; bytes = spelling (packet_after t a turn (parse bytes)) } ∷ []) (length es + 1))
  leaves_there due es = subst (λ (o : Option Emission). IsSome o) (sym (emission_next es (record { place = due; bytes = spelling (packet_after t a turn (parse bytes)) }))) refl

  pub leaves_within : (due : Place) (es : List Emission)
      → (parse bytes).current + hops ≤ hop_count (packet_at (es ++ record { place = due; bytes = spelling (packet_after t a turn (parse bytes)) } ∷ []) (length es + 1))
  leaves_within due es =
      let x : Emission = record { place = due; bytes = spelling (packet_after t a turn (parse bytes)) } in
      let is = packet_next es x ∙ parse-spelling (packet_after t a turn (parse bytes)) acc.goes_on.packet in
      let route = ap (λ (c : Contents). c.route) is ∙ acc.goes_on.route in
      subst (λ (r : Route). (parse bytes).current + hops ≤ length r.hops) (sym route) acc.there
