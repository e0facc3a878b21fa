-- What an acceptance tells, and what becomes of bytes at a host.
use Rattle.std.proofs.Common.{◌≡◌, ℕ, suc, ◌+◌, ◌<◌, ◌≤◌, ◌^◌, Bool, true, false, List, [], ◌∷◌, ◌++◌, length, slice_get, None, Some, refl, sym, ap, subst, add-zero, arith}
use Rattle.std.specs.Prelude.{◌&&◌, is_none, nat_le, nat_lt}
use Rattle.std.specs.List.{All}
use Rattle.std.proofs.lemmas.Bool.{and_from, both_ways}
use Rattle.std.proofs.lemmas.Bool.Decides.{nat_tests}
use Rattle.std.proofs.lemmas.List.Elements.{All-cons, All-head, All-nil}
use Rattle.std.proofs.lemmas.List.Sums.{sum_by-cons}
use Rattle.epic_num.specs.declared.arrival.Arrival.{Arrival}
use Rattle.epic_num.specs.declared.arrival.Arrival.TheVariants as arrival
use Rattle.epic_num.specs.declared.name.AsId.{AsId}
use Rattle.epic_num.specs.declared.name.HostId.{HostId}
use Rattle.epic_num.specs.declared.passed.Place.TheVariants.{Host}
use Rattle.epic_num.specs.declared.verdict.Verdict.{Verdict}
use Rattle.epic_num.specs.Levels.{is_first_byte, is_tagged}
use Rattle.epic_num.specs.Messages.{IsHost}
use Rattle.epic_num.specs.Same.{same_host}
use Rattle.epic_num.specs.Windows.{Told as Remembered}
use Rattle.epic_num.proofs.SameLaws.{same_host-Decides}
use Rattle.epic_layout.specs.declared.head.SegmentHead.{SegmentHead}
use Rattle.epic_layout.specs.Contents.{IsBytes, IsPacket, IsSegment, hop_count}
use Rattle.epic_layout.specs.Layout.{fault, parse}
use Rattle.epic_layout.specs.Route.{hops_of}
use Rattle.epic_layout.proofs.Limits.{HoldsBytes-parse}
use Rattle.epic_layout.proofs.OneSpelling.{bytes_are_read}
use Rattle.epic_topo.specs.Lawful.{IsTopology}
use Rattle.epic_topo.specs.Network.{Network, has}
use Rattle.epic_fields.specs.HopChecks.{hop_name}
use Rattle.epic_router.specs.Remembering.{key_at}
use Rattle.epic_ends.specs.RightArrivals.{IsAtEnd, IsRightArrival}
use Rattle.epic_ends.proofs.Arrivals.{arrivals_are_right}
use Rattle.epic_window.specs.Entries.{told_of}
use Rattle.epic_ledger.specs.declared.event.Event.TheVariants as event
use Rattle.epic_ledger.specs.Facts.{facts_of}
use Rattle.epic_ledger.specs.History.{History}
use Rattle.epic_audit.specs.Holds.{AtDest, AtHop, Holds, Subject}
use Rattle.epic_audit.specs.Laws as laws
use Rattle.epic_audit.specs.Verdicts.{dest_verdict, hop_verdict}
use Rattle.epic_audit.proofs.Dest.{dest_verdicts}
use Rattle.epic_audit.proofs.Growth.{lawful_packets}
use Rattle.epic_audit.proofs.Hop.{hop_verdicts}
use Rattle.epic_model.specs.Keeping.{Inv}
use Rattle.epic_model.specs.Passing as passing
use Rattle.epic_model.specs.Passing.{Happened, arrival_at, arrived_at, arrived_by, arrives}
use Rattle.epic_model.specs.Windows.{host_window}
use Rattle.epic_text.specs.VerdictText.{IsTellable}
use Rattle.epic_record.specs.declared.item.Item.TheVariants as items
use Rattle.epic_record.specs.LedgerFile.{is_event_placed, is_packet}
use Rattle.epic_record.specs.Passing.{accepted_items, hops_from, new_items, pass_items}
use Rattle.epic_reread.specs.Fitting.{HeldVerdictsFit, IsSubjectOf, OtherHopsAreThere, VerdictsCanBeTold}
use Rattle.epic_reread.specs.JudgedYes.{IsGivenOf}
use Rattle.epic_reread.specs.LedgerFitting.{EventFits, ItemFits}
use Rattle.epic_reread.specs.WholeFile.{IsIndexed}
use Rattle.epic_rerun.proofs.Fitted.{Fitted, ledger_fits}
use Rattle.epic_rerun.proofs.Happening.{event_told, nothing_told, told_then}
use Rattle.epic_rerun.proofs.Placing.{Told, told_both, told_none}
use Rattle.epic_rerun.proofs.ToldVerdicts.{dest_told, hops_told}

two_hops : (segments : List SegmentHead) → All IsSegment segments → 1 ≤ length segments → 2 ≤ hops_of segments
unfolding hops_of
two_hops [] all some = absurd (omega (arith, some))
two_hops (s ∷ segments) all some =
    let least = (All-head IsSegment s segments all).least in
    omega (arith, least, sum_by-cons (λ (r : SegmentHead). r.count) s segments)

module _ (t : Network) (topology : IsTopology t) (fit : HeldVerdictsFit) (others : OtherHopsAreThere) (tell : VerdictsCanBeTold)
    (step now : ℕ) (h : History) (bytes : List ℕ) (are : IsBytes bytes)
    (inv : Inv t h now step) (fitted : Fitted h) (few : length h.events < 2 ^ 31) (early : step < 2 ^ 32) where
  -- a verdict that holds of the bytes' packet is given so
  given : (subject : Subject) (v : Verdict) → fault is_first_byte bytes ≡ None → IsSubjectOf (parse bytes) subject → IsIndexed subject
      → IsTellable t (parse bytes) v → Holds t (facts_of h) (parse bytes) subject v
      → IsGivenOf t (facts_of h) (record { packet = parse bytes; subject = subject }) v
  given subject v faultless of indexed tellable holds =
      let packet = bytes_are_read bytes are faultless in
      let held = HoldsBytes-parse bytes are in
      let fits = ledger_fits t h step inv.sound fitted (omega (arith, few)) in
      record {
        holds = holds;
        indexed = indexed;
        can_be_told = tell t (parse bytes) v (record {
          topology = topology;
          packet = packet;
          bytes = held;
          tellable = tellable;
          fits = fit t (facts_of h) (parse bytes) subject v topology packet held fits of holds;
          other_there = others t (facts_of h) (parse bytes) subject v inv.sound.kept (lawful_packets h inv.sound.lawful) packet of tellable holds;
        });
      }

  -- ---- hops

  one_hop : (a : AsId) (g j : ℕ) → has t a ≡ true → fault is_first_byte bytes ≡ None → g < 2 ^ 32 → laws.IsAccepted t a g (parse bytes) j
      → Told t h (items.AcceptHop a g j bytes ∷ []) (hop_verdict t (facts_of h) (hop_name a g (parse bytes) j) (parse bytes) j ∷ []) h
  unfolding ItemFits
  one_hop a g j known faultless small accepted =
      let p = parse bytes in
      let f = facts_of h in
      let v = hop_verdict t f (hop_name a g p j) p j in
      let within = accepted.within in
      let low : j < 256 = omega (arith, within, accepted.packet.route.few_hops) in
      let holds = (hop_verdicts t f a g p j (lawful_packets h inv.sound.lawful) inv.sound.kept accepted).1 in
      let tellable = All-head (IsTellable t p) v [] (hops_told t f a p j (g ∷ []) inv.sound.kept known (omega (arith, within))) in
      let there : nat_lt j (hop_count p) ≡ true = grind (arith, nat_tests) in
      record {
        placed = (
          and_from (has t a && is_packet bytes) (nat_lt j (hop_count p))
              (and_from (has t a) (is_packet bytes) known (ap is_none faultless)) there,
          tt,
        );
        fits = All-cons ItemFits (items.AcceptHop a g j bytes) [] (small, low, are) (All-nil ItemFits);
        given = (given (AtHop a g j) v faultless (small, within) low tellable holds, tt);
        ends = refl;
      }

  -- each under its generation
  pub accepted_hops : (a : AsId) (j : ℕ) (gs : List ℕ) → has t a ≡ true → fault is_first_byte bytes ≡ None
      → ((i g : ℕ) → slice_get gs i ≡ Some g → (g < 2 ^ 32) × laws.IsAccepted t a g (parse bytes) (j + i))
      → Told t h (hops_from a j bytes gs) (passing.hop_verdicts t (facts_of h) a (parse bytes) j gs) h
  accepted_hops a j [] known faultless each = told_none t h
  accepted_hops a j (g ∷ gs) known faultless each =
      let p = parse bytes in
      let first = each 0 g refl in
      let later : (i k : ℕ) → slice_get gs i ≡ Some k → (k < 2 ^ 32) × laws.IsAccepted t a k p (j + 1 + i)
      = λ i k at. (let same : j + suc i ≡ j + 1 + i = omega arith in
      let e = each (suc i) k at in (e.0, subst (λ n. laws.IsAccepted t a k p n) same e.1)) in
      told_both t h h h (items.AcceptHop a g j bytes ∷ []) (hops_from a (j + 1) bytes gs)
      (hop_verdict t (facts_of h) (hop_name a g p j) p j ∷ []) (passing.hop_verdicts t (facts_of h) a p (j + 1) gs)
      (one_hop a g j known faultless first.0 (subst (λ n. laws.IsAccepted t a g p n) (add-zero j) first.1))
      (accepted_hops a (j + 1) gs known faultless later)

  -- ---- destinations

  module _ (d : HostId) (known : has t d.asn ≡ true) (host : IsHost d) where
    accepted_end : IsAtEnd d bytes → laws.IsArrived t (parse bytes)
        → Told t h (items.AcceptDest d bytes ∷ []) (dest_verdict t (facts_of h) (parse bytes) ∷ []) h
    unfolding ItemFits
    accepted_end end arrived =
        let p = parse bytes in
        let f = facts_of h in
        let v = dest_verdict t f p in
        let packets = lawful_packets h inv.sound.lawful in
        let there : has t p.dst.asn ≡ true = subst (λ (e : HostId). has t e.asn ≡ true) (sym end.host_is) known in
        let holds = (dest_verdicts t f p packets inv.sound.kept arrived).1 in
        let tellable = dest_told t f p packets inv.sound.kept arrived.packet there in
        record {
          placed = (
            and_from (has t d.asn && is_packet bytes) (same_host p.dst d)
                (and_from (has t d.asn) (is_packet bytes) known (ap is_none end.faultless)) ((same_host-Decides p.dst d).1 end.host_is),
            tt,
          );
          fits = All-cons ItemFits (items.AcceptDest d bytes) [] (host, are) (All-nil ItemFits);
          given = (given AtDest v end.faultless tt tt tellable holds, tt);
          ends = refl;
        }

    arrive_told : IsPacket (parse bytes) → (checked : Bool)
        → (let e = event.Arrive step d (parse bytes).src (parse bytes).ts (hop_count (parse bytes)) checked in
        EventFits e × (is_event_placed t h e ≡ true))
    unfolding EventFits is_event_placed
    arrive_told packet checked =
        let p = parse bytes in
        let some = two_hops p.route.segments packet.route.segments packet.route.some_segment in
        let counted = packet.route.counted in
        let most = packet.route.few_hops in
        let low : nat_le 2 (hop_count p) ≡ true = (let least : 2 ≤ hop_count p = omega (arith, some, counted) in grind (arith, nat_tests)) in
        let high : nat_le (hop_count p) 32 ≡ true = (let small : hop_count p ≤ 32 = omega (arith, most) in grind (arith, nat_tests)) in (
          (early, host, packet.src, packet.ts, omega (arith, most)),
          and_from (has t d.asn && nat_le 2 (hop_count p)) (nat_le (hop_count p) 32) (and_from (has t d.asn) (nat_le 2 (hop_count p)) known low) high,
        )

    -- what becomes of the bytes is told
    abbrev AtHost : Happened → Type 0
    AtHost x = Told t h (pass_items h (Host d) bytes x.result x.history) x.verdicts x.history

    taken : (checked : Bool) → IsAtEnd d bytes → laws.IsArrived t (parse bytes)
        → (let e = event.Arrive step d (parse bytes).src (parse bytes).ts (hop_count (parse bytes)) checked in
        let g : History = record h { events = h.events ++ e ∷ [] } in
        Told t h (items.AcceptDest d bytes ∷ new_items h g) (dest_verdict t (facts_of h) (parse bytes) ∷ []) g)
    taken checked end arrived =
        let e = event.Arrive step d (parse bytes).src (parse bytes).ts (hop_count (parse bytes)) checked in
        let g : History = record h { events = h.events ++ e ∷ [] } in
        let told = arrive_told arrived.packet checked in
        told_then t h h g (items.AcceptDest d bytes ∷ []) (new_items h g) (dest_verdict t (facts_of h) (parse bytes) ∷ [])
        (accepted_end end arrived) (event_told t h e told.0 told.1)

    answered : (knows : Remembered) (answer : Arrival) → IsRightArrival t d now knows bytes answer → AtHost (arrived_by t step h d bytes answer)
    unfolding arrived_by arrives pass_items accepted_items
    answered knows arrival.Accepted right =
        taken true right.0 (record { packet = bytes_are_read bytes are right.0.faultless; dest_field_right = λ _. right.1.dest_field_right })
    answered knows arrival.Unchecked right =
        taken false right.0
        (record { packet = bytes_are_read bytes are right.0.faultless; dest_field_right = λ tagged. absurd (both_ways (is_tagged (parse bytes).first) right.1 tagged) })
    answered knows (arrival.Refused check) right = nothing_told t h

    pub arrived_told : AtHost (arrived_at t step now h d bytes)
    unfolding arrived_at arrival_at
    arrived_told =
        let knows = told_of t.profile (host_window h d) now (key_at (parse bytes) (hop_count (parse bytes))) in
        answered knows (arrival_at t now h d bytes) (arrivals_are_right t d now knows bytes)
