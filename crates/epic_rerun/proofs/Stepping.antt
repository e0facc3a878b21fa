-- What each step tells.
use Rattle.std.proofs.Common.{◌≡◌, ℕ, ◌+◌, ◌<◌, ◌≤◌, ◌^◌, inl, inr, Bool, true, false, not, List, [], ◌∷◌, ◌++◌, length, Option, None, Some, Result, Ok, Err, refl, sym, ap, subst, ◌∙◌, append-nil, arith}
use Rattle.std.specs.Prelude.{◌==◌, flat_map, nat_lt, if◌then◌else◌}
use Rattle.std.specs.Option.{option_map_or}
use Rattle.std.proofs.lemmas.Bool.{and_from, cond_both, ltb-false}
use Rattle.std.proofs.lemmas.List.{length_push}
use Rattle.std.proofs.lemmas.List.Sums.{sum_by_push}
use Rattle.arrayvec.specs.ArrayVec.{ArrayVec}
use Rattle.epic_num.specs.declared.answer.Answer.{Answer}
use Rattle.epic_num.specs.declared.answer.Answer.TheVariants.{Fetched, Known, Paths, Revealed, Rolled, Sent as SentAnswer}
use Rattle.epic_num.specs.declared.answer.Refusal.TheVariants.{UnknownAs, UnknownEmission, TooManyPaths, Full as FullRefusal}
use Rattle.epic_num.specs.declared.beacon_error.BeaconError.{BeaconError}
use Rattle.epic_num.specs.declared.command.Command.{Command}
use Rattle.epic_num.specs.declared.command.Command.TheVariants as command
use Rattle.epic_num.specs.declared.hop.Level.{Level}
use Rattle.epic_num.specs.declared.key_name.Holder.{Holder}
use Rattle.epic_num.specs.declared.key_name.Holder.TheVariants as holder
use Rattle.epic_num.specs.declared.name.AsId.{AsId}
use Rattle.epic_num.specs.declared.name.HostId.{HostId}
use Rattle.epic_num.specs.declared.passed.Place.{Place}
use Rattle.epic_num.specs.declared.passed.Place.TheVariants.{Host, Router}
use Rattle.epic_num.specs.declared.path_error.PathError.{PathError}
use Rattle.epic_num.specs.declared.path_ref.PathRef.{PathRef}
use Rattle.epic_num.specs.declared.segment.Leg.{Leg}
use Rattle.epic_num.specs.declared.segment.Segment.{Segment}
use Rattle.epic_num.specs.declared.send_error.SendError.{SendError}
use Rattle.epic_num.specs.Chains.{issue_at}
use Rattle.epic_num.specs.Messages.{IsHost}
use Rattle.epic_num.proofs.ChainLaws.{issue_at-next}
use Rattle.epic_layout.specs.Contents.{Contents, IsBytes, unfilled}
use Rattle.epic_layout.specs.Spelling.{spelling}
use Rattle.epic_layout.proofs.OneSpelling.{bytes_are_read}
use Rattle.epic_topo.specs.Lawful.{IsTopology}
use Rattle.epic_topo.specs.Network.{Network, has}
use Rattle.epic_topo.proofs.Linked.{links_lead_back}
use Rattle.epic_keys.specs.Fetches.{is_known}
use Rattle.epic_beacon.specs.declared.beacon.Beacon.{Beacon}
use Rattle.epic_beacon.specs.Chained.{AreChained}
use Rattle.epic_beacon.specs.Issuing.{beacon_of, extended, first_name, next_name, originated}
use Rattle.epic_beacon.specs.Laws.{IsIssued}
use Rattle.epic_beacon.specs.Segments.{segments}
use Rattle.epic_beacon.specs.Told.{beacons_in}
use Rattle.epic_beacon.proofs.GoingOn.{issues_chain}
use Rattle.epic_beacon.proofs.Grown.{beacon_at-next}
use Rattle.epic_beacon.proofs.Issued.{extended_ok, originated_ok}
use Rattle.epic_path.specs.Joins.{joined}
use Rattle.epic_path.specs.Routes.{all_lawful}
use Rattle.epic_ends.specs.Sending.{sent_packet, packet_over}
use Rattle.epic_ledger.specs.declared.event.Event.{Event}
use Rattle.epic_ledger.specs.declared.event.Event.TheVariants as event
use Rattle.epic_ledger.specs.Facts.{as_issue, facts_of, issues_in, reveals_in}
use Rattle.epic_ledger.specs.History.{Emission, emission_at, emitted}
use Rattle.epic_ledger.specs.OneMore.{with_event}
use Rattle.epic_audit.specs.Reveals.{is_revealed}
use Rattle.epic_model.specs.Keeping.{IsDue, sent_at, store_in}
use Rattle.epic_model.specs.Passing.{carried, last_history, most_emitted, pass_at, passed_on, rolls}
use Rattle.epic_model.specs.State.{State, is_fetched_in}
use Rattle.epic_model.specs.Steps.{admission, as_of, carrying, emitted_by, found, issued, most_paths, next, next_arrive, next_at, next_carry, next_extend, next_fetch, next_originate, next_pass, next_paths, next_reveal, next_roll, next_send, next_turn, over_path, over_segments, passages_of, passing, segments_of, sent_by}
use Rattle.epic_model.specs.Traces.{Stepped, answered, recorded, refused}
use Rattle.epic_model.specs.World.{Fits, IsWorld}
use Rattle.epic_model.proofs.Stepping.{later}
use Rattle.epic_text.specs.RunScript.{HolderFits}
use Rattle.epic_record.specs.declared.item.Item.{Item}
use Rattle.epic_record.specs.LedgerFile.{holder_as, is_event_placed}
use Rattle.epic_record.specs.Passing.{new_items, pass_items}
use Rattle.epic_record.specs.VerdictLines.{acceptances, verdict_text}
use Rattle.epic_reread.specs.Fitting.{HeldVerdictsFit, HopFits, OtherHopsAreThere, VerdictsCanBeTold}
use Rattle.epic_reread.specs.LedgerFitting.{EventFits}
use Rattle.epic_rerun.specs.Ledgers.{passage_items, passage_verdicts, passages_items}
use Rattle.epic_rerun.specs.Rerun.{NamesFit}
use Rattle.epic_rerun.proofs.Carrying.{EndFits, all_carried, end_fits, pass_told, passage, passages_are, verdicts_of}
use Rattle.epic_rerun.proofs.Counting.{Counted, few_events, few_packets, passage_adds}
use Rattle.epic_rerun.proofs.Counting as counting
use Rattle.epic_rerun.proofs.Fitted.{EmissionFits, Fitted, emission_all, few_parts, issue_all, issues_fit}
use Rattle.epic_rerun.proofs.Happening.{event_told, issue_placed, link_bytes, nothing_told, parent_early, rolls_few}
use Rattle.epic_rerun.proofs.Lines.{no_lines, none_lined, one_lined}
use Rattle.epic_rerun.proofs.Placing.{Told, one_more}
use Rattle.epic_rerun.proofs.Sending.{sent_told}

-- ---- small facts

not-true : (b : Bool) → not b ≡ false → b ≡ true
not-true true h = refl
not-true false h = absurd (cc)

holder_same : (t : Network) (who : Holder) → has t (as_of who) ≡ true → has t (holder_as who) ≡ true
unfolding as_of
holder_same t (holder.As a) is = is
holder_same t (holder.Host host) is = is

-- what a step tells, and how many events there are after it
pub record StepTold (t : Network) (s : State) (n : Stepped) : Type 0 where
  pub told : Told t s.history (passages_items n.passages (new_items s.history n.state.history)) (verdicts_of n.passages) n.state.history
  pub lined : flat_map (passage_verdicts t) n.passages
      ≡ verdict_text t (acceptances (passages_items n.passages (new_items s.history n.state.history))) (verdicts_of n.passages)
  pub counted : Counted (s.steps + 1) n.state.history

module _ (t : Network) (topology : IsTopology t) (fit : HeldVerdictsFit) (others : OtherHopsAreThere) (tell : VerdictsCanBeTold)
    (s : State) (w : IsWorld t s) (fitted : Fitted s.history) (c : Counted s.steps s.history) (small : s.steps + 1 < 2 ^ 30) where
  few : length s.history.events < 2 ^ 31
  few = few_events s.steps s.history w.inv.sound.lawful c (omega (arith, small))

  -- ---- steps that record nothing, or one event

  nothing : (answer : Answer) → StepTold t s (answered s answer)
  nothing answer = record { told = nothing_told t s.history; lined = no_lines t s.history s.history; counted = counting.later s.steps s.history c }

  one_event : (e : Event) (answer : Answer) → EventFits e → is_event_placed t s.history e ≡ true → StepTold t s (recorded s e answer)
  one_event e answer fits placed = record {
    told = event_told t s.history e fits placed;
    lined = no_lines t s.history (with_event s.history e);
    counted = record { events = (let events = c.events in omega (arith, events, length_push s.history.events e)); bytes = c.bytes };
  }

  at_told : (moment : ℕ) → StepTold t s (next_at s moment)
  unfolding next_at
  at_told moment = record { told = nothing_told t s.history; lined = no_lines t s.history s.history; counted = counting.later s.steps s.history c }

  -- ---- issues

  generation_small : (out exp now : ℕ) (b : Beacon) → IsIssued t (store_in t s.history) out exp now b → b.name.generation < 2 ^ 32
  unfolding store_in beacon_of first_name next_name
  generation_small out exp now b (inl (a, is)) =
      let o = originated_ok t (store_in t s.history) a out exp now b is in
      let same = ap (λ (k : Beacon). k.name.generation) o.is in
      omega (arith, same, rolls_few s.history.events a, few)
  generation_small out exp now b (inr (number, is)) =
      let o = extended_ok t (store_in t s.history) number out exp now b is in
      let same = ap (λ (k : Beacon). k.name.generation) o.is in
      omega (arith, same, rolls_few s.history.events (next_name t (store_in t s.history) o.parent.name out exp).asn, few)

  position_small : (out exp now : ℕ) (b : Beacon) → IsIssued t (store_in t s.history) out exp now b → b.name.body.pos ≤ 16
  unfolding store_in
  position_small out exp now b is =
      let beacons = beacons_in t (issues_in s.history.events) in
      let chained : AreChained (beacons ++ b ∷ []) = issues_chain t (store_in t s.history) out exp now b (links_lead_back t topology) w.inv.chained is in
      elim (chained.each (length beacons + 1) b (beacon_at-next beacons b)) [
        | inl first ↦ (let one = first.position in omega (arith, one))
        | inr onward ↦ onward.few
      ]

  issue_told : (out exp : ℕ) (b : Beacon) (answer : Answer) → IsIssued t (store_in t s.history) out exp s.moment b
      → IsWorld t (recorded s (event.Issue (s.steps + 1) (length (issues_in s.history.events) + 1) b.name b.parent) answer).state
      → StepTold t s (recorded s (event.Issue (s.steps + 1) (length (issues_in s.history.events) + 1) b.name b.parent) answer)
  unfolding EventFits facts_of as_issue
  issue_told out exp b answer is after =
      let h = s.history in
      let issues = issues_in h.events in
      let number = length issues + 1 in
      let kept = after.inv.sound.kept.issues in
      let low = position_small out exp s.moment b is in
      let issue_fits = issue_all (λ i. HopFits i.name) issues (issues_fit t h s.steps w.inv.sound fitted) in
      let at = ap (λ is. issue_at is number) (one_more as_issue h.events (event.Issue (s.steps + 1) number b.name b.parent) (record { name = b.name; parent = b.parent }) refl)
      ∙ issue_at-next issues (record { name = b.name; parent = b.parent }) in
      let parts = few_parts as_issue h.events in
      let early = parent_early t h (s.steps + 1) b.name b.parent kept low in
      one_event (event.Issue (s.steps + 1) number b.name b.parent) answer (
        omega (arith, small),
        omega (arith, parts, few),
        record {
          generation = generation_small out exp s.moment b is;
          body = after.inv.in_range number (record { name = b.name; parent = b.parent }) at;
          link = link_bytes t h (s.steps + 1) b.name b.parent kept low topology issue_fits;
        },
        omega (arith, early, parts, few),
      )
      (issue_placed t h (s.steps + 1) b.name b.parent kept low)

  issued_told : (out exp : ℕ) (told : Result Beacon BeaconError) → ((b : Beacon) → told ≡ Ok b → IsIssued t (store_in t s.history) out exp s.moment b)
      → IsWorld t (issued s told).state → StepTold t s (issued s told)
  issued_told out exp (Ok b) is after = issue_told out exp b _ (is b refl) after
  issued_told out exp (Err e) is after = nothing _

  originate_told : (a : AsId) (out exp : ℕ) → IsWorld t (next_originate t s a out exp).state → StepTold t s (next_originate t s a out exp)
  unfolding next_originate
  originate_told a out exp =
      cond_both (not (has t a)) (refused s (UnknownAs a)) (issued s (originated t (store_in t s.history) a out exp s.moment))
      (λ n. IsWorld t n.state → StepTold t s n)
      (λ _ _. nothing _)
      (λ _. issued_told out exp (originated t (store_in t s.history) a out exp s.moment) (λ b e. inl (a, e)))

  extend_told : (parent out exp : ℕ) → IsWorld t (next_extend t s parent out exp).state → StepTold t s (next_extend t s parent out exp)
  unfolding next_extend
  extend_told parent out exp = issued_told out exp (extended t (store_in t s.history) parent out exp s.moment) (λ b e. inr (parent, e))

  -- ---- keys, paths, reveals and rolls

  fetch_told : (source owner : AsId) (epoch : ℕ) → epoch < 2 ^ 64 → StepTold t s (next_fetch t s source owner epoch)
  unfolding next_fetch EventFits is_event_placed
  fetch_told source owner epoch fits =
      by (has t source) (has t owner) (is_known (is_fetched_in s.history.events) (record { source = source; owner = owner; epoch = epoch })) refl refl
    where
      by : (a b k : Bool) → has t source ≡ a → has t owner ≡ b
          → StepTold t s (if not a then refused s (UnknownAs source)
          else if not b then refused s (UnknownAs owner)
          else if k then answered s Known
          else recorded s (event.Fetch (s.steps + 1) source owner epoch) Fetched)
      by false b k from to = nothing _
      by true false k from to = nothing _
      by true true true from to = nothing _
      by true true false from to =
          one_event (event.Fetch (s.steps + 1) source owner epoch) Fetched (omega (arith, small), fits) (and_from (has t source) (has t owner) from to)

  paths_told : (from to : AsId) → StepTold t s (next_paths t s from to)
  unfolding next_paths
  paths_told from to = by (has t from) (has t to) (all_lawful (segments (beacons_in t (issues_in s.history.events))) from to)
    where
      by : (a b : Bool) (paths : List PathRef)
          → StepTold t s (if not a then refused s (UnknownAs from) else if not b then refused s (UnknownAs to) else found s paths)
      by false b paths = nothing _
      by true false paths = nothing _
      by true true paths =
          cond_both (nat_lt most_paths (length paths)) (refused s TooManyPaths) (answered s (Paths paths)) (StepTold t s) (λ _. nothing _) (λ _. nothing _)

  reveal_told : (who : Holder) → HolderFits who → StepTold t s (next_reveal t s who)
  unfolding next_reveal EventFits is_event_placed
  reveal_told who fits = by (has t (as_of who)) (is_revealed (reveals_in s.history.events) who) refl
    where
      by : (a b : Bool) → has t (as_of who) ≡ a
          → StepTold t s (if not a then refused s (UnknownAs (as_of who))
          else if b then answered s Known
          else recorded s (event.Reveal (s.steps + 1) who) Revealed)
      by false b known = nothing _
      by true true known = nothing _
      by true false known = one_event (event.Reveal (s.steps + 1) who) Revealed (omega (arith, small), fits) (holder_same t who known)

  roll_told : (a : AsId) → StepTold t s (next_roll t s a)
  unfolding next_roll EventFits is_event_placed
  roll_told a =
      let generation = rolls s.history.events a + 1 in
      cond_both (not (has t a)) (refused s (UnknownAs a)) (recorded s (event.Roll (s.steps + 1) a generation) (Rolled generation)) (StepTold t s)
      (λ _. nothing _)
      (λ known. one_event (event.Roll (s.steps + 1) a generation) (Rolled generation)
      (omega (arith, small), omega (arith, rolls_few s.history.events a, few)) (not-true (has t a) known))

  -- ---- sends

  sent_counted : (numbers : ArrayVec ℕ) (p : Contents) → nat_lt most_emitted (emitted s.history.emissions + length (spelling p)) ≡ false
      → Counted (s.steps + 1) (sent_at (s.steps + 1) s.history numbers p)
  unfolding sent_at emitted
  sent_counted numbers p room =
      let h = s.history in
      let x : Emission = record { place = Router p.src.asn 0; bytes = spelling p } in
      let events = c.events in
      let long = ltb-false _ _ room in
      record {
        events = omega (arith, events, length_push h.events (event.Send (s.steps + 1) (length h.emissions + 1) numbers), length_push h.emissions x);
        bytes = omega (arith, long, sum_by_push (λ (e : Emission). length e.bytes) h.emissions x);
      }

  emitted_told : (numbers : ArrayVec ℕ) (p : Contents) → IsBytes p.payload → IsWorld t (emitted_by s numbers p).state → StepTold t s (emitted_by s numbers p)
  unfolding emitted_by
  emitted_told numbers p payload =
      cond_both (nat_lt most_emitted (emitted s.history.emissions + length (spelling p))) (refused s FullRefusal)
      (record { answer = SentAnswer (length s.history.emissions + 1) p.ts; state = record s { steps = s.steps + 1; history = sent_at (s.steps + 1) s.history numbers p }; passages = [] })
      (λ n. IsWorld t n.state → StepTold t s n)
      (λ _ _. nothing _)
      (λ room after. (let packets = few_packets s.steps s.history w.inv.sound.lawful c in
      record {
        told = sent_told t topology (s.steps + 1) s.moment s.history numbers p payload (later t s w) after.inv fitted few (omega (arith, packets)) (omega (arith, small));
        lined = no_lines t s.history (sent_at (s.steps + 1) s.history numbers p);
        counted = sent_counted numbers p room;
      }))

  module _ (version : ℕ) (level : Level) (src dst : HostId) (numbers : ArrayVec ℕ) (payload : List ℕ) (payload_is : IsBytes payload) where
    sent_by_told : (legs : List Leg) (r : Result ℕ SendError) → IsWorld t (sent_by t s version level src dst numbers payload legs r).state
        → StepTold t s (sent_by t s version level src dst numbers payload legs r)
    unfolding sent_packet packet_over unfilled
    sent_by_told legs (Ok ts) after = emitted_told numbers (sent_packet t legs version level src dst ts payload) payload_is after
    sent_by_told legs (Err e) after = nothing _

    path_told : (r : Result (List Leg) PathError) → IsWorld t (over_path t s version level src dst numbers payload r).state
        → StepTold t s (over_path t s version level src dst numbers payload r)
    path_told (Ok legs) after = sent_by_told legs (admission t s version level src dst payload legs) after
    path_told (Err e) after = nothing _

    segments_told : (r : Result (List Segment) ℕ) → IsWorld t (over_segments t s version level src dst numbers payload r).state
        → StepTold t s (over_segments t s version level src dst numbers payload r)
    segments_told (Ok all) after = path_told (joined src.asn all) after
    segments_told (Err n) after = nothing _

    abbrev sent : Bool → Bool → Stepped
    sent a b =
        if not a then refused s (UnknownAs src.asn)
        else if not b then refused s (UnknownAs dst.asn)
        else over_segments t s version level src dst numbers payload (segments_of (beacons_in t (issues_in s.history.events)) numbers.items)

    send_told : IsWorld t (next_send t s version level src dst numbers payload).state → StepTold t s (next_send t s version level src dst numbers payload)
    unfolding next_send
    send_told = by (has t src.asn) (has t dst.asn)
      where
        by : (a b : Bool) → IsWorld t (sent a b).state → StepTold t s (sent a b)
        by false b after = nothing _
        by true false after = nothing _
        by true true after = segments_told (segments_of (beacons_in t (issues_in s.history.events)) numbers.items) after

  -- ---- passages

  passing_told : (place : Place) (bytes : List ℕ) → IsDue t place → EndFits place → IsBytes bytes → StepTold t s (passing t s place bytes)
  unfolding passing
  passing_told place bytes due place_fits are =
      let d = pass_at t (s.steps + 1) s.moment s.history place bytes in
      let told = pass_told t topology fit others tell (s.steps + 1) s.moment s.steps (omega (arith, small)) (omega (arith, small)) s.history place bytes due place_fits are (later t s w) fitted c in
      record {
        told = subst (λ is. Told t s.history is (d.verdicts ++ []) d.history) (sym (append-nil (pass_items s.history place bytes d.result d.history)))
            (subst (λ vs. Told t s.history (pass_items s.history place bytes d.result d.history) vs d.history) (sym (append-nil d.verdicts)) told);
        lined = one_lined t s.history d.history (record { before = s.history; place = place; came = bytes; happened = d }) [] told (none_lined t);
        counted = (passage_adds t (s.steps + 1) s.moment s.steps s.history place bytes (bytes_are_read bytes are) c).more;
      }

  turn_told : (a : AsId) (iface : ℕ) (bytes : List ℕ) → IsBytes bytes → StepTold t s (next_turn t s a iface bytes)
  unfolding next_turn
  turn_told a iface bytes are =
      cond_both (not (has t a)) (refused s (UnknownAs a)) (passing t s (Router a iface) bytes) (StepTold t s)
      (λ _. nothing _) (λ known. passing_told (Router a iface) bytes (not-true (has t a) known) tt are)

  arrive_told : (d : HostId) (bytes : List ℕ) → IsHost d → IsBytes bytes → StepTold t s (next_arrive t s d bytes)
  unfolding next_arrive
  arrive_told d bytes host are =
      cond_both (not (has t d.asn)) (refused s (UnknownAs d.asn)) (passing t s (Host d) bytes) (StepTold t s)
      (λ _. nothing _) (λ known. passing_told (Host d) bytes (not-true (has t d.asn) known) host are)

  emission_told : (number : ℕ) → StepTold t s (next_pass t s number)
  unfolding next_pass
  emission_told number = by (emission_at s.history.emissions number) refl
    where
      by : (o : Option Emission) → emission_at s.history.emissions number ≡ o
          → StepTold t s (option_map_or (λ e. passing t s e.place e.bytes) o (refused s (UnknownEmission number)))
      by None e = nothing _
      by (Some x) e =
          let due = emission_all (λ k. IsDue t k.place) s.history.emissions w.inv.places number x e in
          let own = emission_all EmissionFits s.history.emissions fitted.emissions number x e in
          passing_told x.place x.bytes due (end_fits x.place own.0) own.1

  -- a carry of an emission that is there has a passage
  some_items : (number : ℕ) (x : Emission) → emission_at s.history.emissions number ≡ Some x → (rest : List Item)
      → (let xs = passages_of s.history number (carried t (s.steps + 1) s.moment 33 s.history number) in passages_items xs rest ≡ flat_map passage_items xs)
  unfolding carried
  some_items number x there rest =
      let d = passed_on t (s.steps + 1) s.moment s.history number in
      let ds = if d.emission == 0 then [] else carried t (s.steps + 1) s.moment 32 d.history d.emission in
      let is : passages_of s.history number (d ∷ ds) ≡ passage s.history x d ∷ passages_of d.history d.emission ds
      = passages_are t topology fit others tell (s.steps + 1) s.moment s.steps (omega (arith, small)) (omega (arith, small)) s.history number x d ds there in
      ap (λ xs. passages_items xs rest) is ∙ sym (ap (flat_map passage_items) is)

  carry_told : (number : ℕ) → StepTold t s (next_carry t s number)
  unfolding next_carry carrying
  carry_told number = by (emission_at s.history.emissions number) refl
    where
      by : (o : Option Emission) → emission_at s.history.emissions number ≡ o
          → StepTold t s (option_map_or (λ e. carrying t s number) o (refused s (UnknownEmission number)))
      by None e = nothing _
      by (Some x) e =
          let ds = carried t (s.steps + 1) s.moment 33 s.history number in
          let xs = passages_of s.history number ds in
          let g = last_history s.history ds in
          let all = all_carried t topology fit others tell (s.steps + 1) s.moment s.steps (omega (arith, small)) (omega (arith, small)) 33 s.history number (later t s w) fitted c in
          record {
            told = subst (λ is. Told t s.history is (verdicts_of xs) g) (sym (some_items number x e (new_items s.history g))) all.told;
            lined = all.lined ∙ ap (λ is. verdict_text t (acceptances is) (verdicts_of xs)) (sym (some_items number x e (new_items s.history g)));
            counted = all.counted;
          }

  -- ---- all

  pub next_told : (k : Command) → Fits k → NamesFit k → IsWorld t (next t s k).state → StepTold t s (next t s k)
  unfolding next
  next_told (command.At moment) fits names after = at_told moment
  next_told (command.Originate a out exp) fits names after = originate_told a out exp after
  next_told (command.Extend parent out exp) fits names after = extend_told parent out exp after
  next_told (command.Fetch source owner epoch) fits names after = fetch_told source owner epoch names
  next_told (command.Paths from to) fits names after = paths_told from to
  next_told (command.Send version level src dst segments payload) fits names after = send_told version level src dst segments payload fits.1.1.1 after
  next_told (command.Turn a iface bytes) fits names after = turn_told a iface bytes fits
  next_told (command.Arrive host bytes) fits names after = arrive_told host bytes names fits
  next_told (command.Pass emission) fits names after = emission_told emission
  next_told (command.Carry emission) fits names after = carry_told emission
  next_told (command.Reveal who) fits names after = reveal_told who names
  next_told (command.Roll a) fits names after = roll_told a
