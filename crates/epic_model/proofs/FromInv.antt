-- A packet that was sent has all that it takes to be carried, by what every ledger keeps.
use Rattle.std.proofs.Common.{◌≡◌, ℕ, suc, ◌+◌, ◌-◌, ◌*◌, Bool, true, List, length, take, Option, None, Some, refl, ap, sym, subst, ◌∙◌, ⊎_elim, arith}
use Rattle.std.specs.Prelude.{◌==◌, ◌&&◌, find, position, slice_get, option_map, IsSome, if◌then◌else◌}
use Rattle.std.proofs.lemmas.Bool.{le-ltb, and_from, both_ways, cond-true, cond-false, cases_Bool}
use Rattle.std.proofs.lemmas.Option.{same_Some}
use Rattle.epic_num.specs.declared.hop.HopName.{HopName}
use Rattle.epic_num.specs.Chains.{Issue, issue_at, name_of}
use Rattle.epic_num.specs.Moments.{is_path_future}
use Rattle.epic_num.specs.Same.{same_name}
use Rattle.epic_num.proofs.SameLaws.{same_name-Decides}
use Rattle.epic_num.specs.declared.passed.Place.TheVariants.{Router}
use Rattle.epic_layout.specs.Contents.{IsPacket}
use Rattle.epic_layout.specs.Route.{body}
use Rattle.epic_layout.specs.Spelling.{spelling}
use Rattle.epic_topo.specs.Lawful.{IsTopology, LinksLeadBack}
use Rattle.epic_topo.specs.Network.{Network}
use Rattle.epic_topo.proofs.Linked.{links_lead_back}
use Rattle.epic_ledger.specs.History.{History, Emission}
use Rattle.epic_ledger.specs.Facts.{Sent, as_send, facts_of, issues_in, sends_in, sent_issue, sent_name}
use Rattle.epic_ledger.specs.Lawful.{Fits}
use Rattle.epic_ledger.specs.Queries.{issue_of}
use Rattle.epic_ledger.specs.declared.event.Event.{Event}
use Rattle.epic_ledger.specs.declared.event.Event.TheVariants as event
use Rattle.epic_audit.specs.Clauses.{is_sent_like, is_sent_as, sent_as}
use Rattle.epic_audit.specs.Kept.{IsKeptSend}
use Rattle.epic_audit.specs.Verdicts.{source_of, is_named}
use Rattle.epic_audit.proofs.Decided.{is_sent_as-Decides, is_sent_like-Decides}
use Rattle.epic_audit.proofs.Finds.{found_only, missing, missing_at}
use Rattle.epic_audit.proofs.Growth.{lawful_packets}
use Rattle.epic_audit.proofs.Lists.{answered}
use Rattle.epic_model.specs.Carried.{IsReady, NoneFuture}
use Rattle.epic_model.specs.Keeping.{Inv, HonestSendsArrive, HonestSendsAreProved, InvTwice}
use Rattle.epic_model.specs.Sends.{names_of, IsOnRecord}
use Rattle.epic_model.proofs.Carrying.{honest_packets_arrive, honest_packets_are_proved}
use Rattle.epic_model.proofs.SoundPasses.{none_twice_by_emissions}
use Rattle.epic_model.proofs.Travelled.{road, made, chained_hops, named_hops, issue_there, named_issue}

-- a sent packet has as many segments as issues are named
counts_by : (es : List Emission) (issues : List Issue) (e : Event) (s : Sent) → Fits es issues e → as_send es e ≡ Some s
    → length s.segments ≡ length s.packet.route.segments
unfolding as_send
counts_by es issues (event.Issue step number name parent) s h is = absurd (cc)
counts_by es issues (event.Fetch step source owner epoch) s h is = absurd (cc)
counts_by es issues (event.Send step emission segments) s h is =
    subst (λ (r : Sent). length r.segments ≡ length r.packet.route.segments) (same_Some _ s is) h.count
counts_by es issues (event.Pass step a hop generation emission) s h is = absurd (cc)
counts_by es issues (event.Arrive step host src ts hops checked) s h is = absurd (cc)
counts_by es issues (event.Reveal step holder) s h is = absurd (cc)
counts_by es issues (event.Roll step a generation) s h is = absurd (cc)

-- one that stands in a list and meets a test is found, or an earlier one is
pub find_some : {A : Type 0} (test : A → Bool) (xs : List A) (n : ℕ) (x : A) → slice_get xs n ≡ Some x → test x ≡ true → IsSome (find test xs)
find_some test xs n x at e = by (find test xs) refl
  where
    by : (o : Option _) → find test xs ≡ o → IsSome o
    by (Some y) is = refl
    by None is = absurd (both_ways (test x) (missing test xs is n x at) e)

-- an issue that is there has a number
issue_of_some : (issues : List Issue) (number : ℕ) (x : HopName) → name_of issues number ≡ Some x → IsSome (issue_of issues x)
unfolding issue_of name_of issue_at
issue_of_some issues number x named =
    let i = named_issue issues number x named in
    by (position (λ k. same_name k.name x) issues) refl (at_place number i.0 i.1.0) ((same_name-Decides i.0.name x).1 i.1.1)
  where
    at_place : (n : ℕ) (i : Issue) → (if n == 0 then None else slice_get issues (n - 1)) ≡ Some i → (m : ℕ) × (slice_get issues m ≡ Some i)
    at_place n i e = ⊎_elim
        (λ z. (let none = sym (cond-true (n == 0) None (slice_get issues (n - 1)) z) ∙ e in absurd (cc)))
        (λ nz. (n - 1, sym (cond-false (n == 0) None (slice_get issues (n - 1)) nz) ∙ e))
        (cases_Bool (n == 0))

    by : {i : Issue} (o : Option ℕ) → position (λ k. same_name k.name x) issues ≡ o → (m : ℕ) × (slice_get issues m ≡ Some i) → same_name i.name x ≡ true → IsSome (option_map suc o)
    by (Some k) is there e = refl
    by {i} None is there e = absurd (both_ways (same_name i.name x) (missing (λ k. same_name k.name x) issues (missing_at (λ k. same_name k.name x) issues is) there.0 i there.1) e)

module _ (t : Network) (h : History) (now step n : ℕ) (s : Sent) (topology : IsTopology t) (inv : Inv t h now step) (at : slice_get (sends_in h) n ≡ Some s) where
  issues : List Issue
  issues = issues_in h.events

  kept : IsKeptSend t (issues_in h.events) s
  unfolding facts_of
  kept = inv.sound.kept.sends.each n s at

  packet : IsPacket s.packet
  unfolding facts_of
  packet = (lawful_packets h inv.sound.lawful).sent n s at

  counts : length s.segments ≡ length s.packet.route.segments
  counts =
      let a = answered (as_send h.emissions) h.events n s at in
      counts_by h.emissions (issues_in (take a.index h.events)) a.element s (inv.sound.lawful.fit a.index a.element a.there) a.answer

  back : LinksLeadBack t
  back = links_lead_back t topology

  started : NoneFuture t now s.packet
  unfolding is_path_future facts_of
  started j within =
      let is_road = road t (issues_in h.events) s back inv.sound.kept.issues packet kept (inv.sends n s at).routed counts in
      let named = issue_there t (issues_in h.events) s back inv.sound.kept.issues packet kept (inv.sends n s at).routed counts j within in
      let i = named_issue (issues_in h.events) (sent_issue (issues_in h.events) s j) (names_of (issues_in h.events) s j) named in
      let past = inv.past (sent_issue (issues_in h.events) s j) i.0 i.1.0 in
      let same : i.0.name.body.ts_path ≡ (body s.packet.route j).ts_path = ap (λ (y : HopName). y.body.ts_path) i.1.1 ∙ ap (λ b. b.ts_path) (is_road.bodies j within) in
      let product : i.0.name.body.ts_path * 1000000 ≡ (body s.packet.route j).ts_path * 1000000 = ap (λ m. m * 1000000) same in
      le-ltb _ _ (omega (arith, past, product))

  first_as : sent_as (sends_in h) s.packet ≡ Some s
  unfolding sent_as facts_of
  first_as =
      found_only (is_sent_as s.packet) (sends_in h) n s at
      ((is_sent_as-Decides s.packet s).1 (record { src_is = refl; ts_is = refl; first_is = refl; dst_is = refl; path_is = refl; payload_is = refl }))
      (λ m y there like. (let same = (is_sent_as-Decides s.packet y).0 like in
      inv.sound.kept.sends.apart m n y s there at same.src_is same.ts_is))

  recorded : IsOnRecord h s.packet (names_of (issues_in h.events) s)
  unfolding facts_of source_of
  recorded =
      let routed = (inv.sends n s at).routed in
      let ks = inv.sound.kept.issues in
      record {
        send = s;
        packet_is = refl;
        named = named_hops t (issues_in h.events) s back ks packet kept routed counts;
        first_as = first_as;
        issued = λ j within. issue_of_some (issues_in h.events) (sent_issue (issues_in h.events) s j) (names_of (issues_in h.events) s j)
            (issue_there t (issues_in h.events) s back ks packet kept routed counts j within);
        sourced = λ j within.
            find_some (λ r. is_sent_like s.packet r && is_named (names_of (issues_in h.events) s j) (sent_name (issues_in h.events) r j)) (sends_in h) n s at
            (and_from _ _ ((is_sent_like-Decides s.packet s).1 ((refl, refl), refl))
            (ap (is_named (names_of (issues_in h.events) s j)) (named_hops t (issues_in h.events) s back ks packet kept routed counts j within)
            ∙ (same_name-Decides (names_of (issues_in h.events) s j) (names_of (issues_in h.events) s j)).1 refl));
        chained = chained_hops t (issues_in h.events) s back ks packet kept routed counts;
      }

  ready : IsReady t h now s.packet (names_of (issues_in h.events) s) s.emission
  unfolding facts_of
  ready = record {
    lawful = inv.sound.lawful;
    recorded = recorded;
    packet = packet;
    road = road t (issues_in h.events) s back inv.sound.kept.issues packet kept (inv.sends n s at).routed counts;
    made = made t (issues_in h.events) s back inv.sound.kept.issues packet kept (inv.sends n s at).routed counts;
    started = started;
    emission = record { place = Router s.packet.src.asn 0; bytes = spelling s.packet };
    there = (inv.sends n s at).due;
    at_start = refl;
  }

pub honest_sends_arrive : HonestSendsArrive
honest_sends_arrive t h now step n s topology inv at honest =
    honest_packets_arrive t (step + 1) now h s.packet (names_of (issues_in h.events) s) s.emission (ready t h now step n s topology inv at) honest

pub honest_sends_are_proved : HonestSendsAreProved
honest_sends_are_proved t h now step n s topology inv at honest none =
    honest_packets_are_proved t (step + 1) now h s.packet (names_of (issues_in h.events) s) s.emission (ready t h now step n s topology inv at) honest none

pub inv_twice : InvTwice
inv_twice t h now step inv = none_twice_by_emissions h inv.once inv.begin
