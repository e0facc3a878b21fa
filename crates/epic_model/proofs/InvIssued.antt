-- A hop that is issued keeps what every ledger keeps.
use Rattle.std.proofs.Common.{◌≡◌, ℕ, zero, suc, ◌+◌, ◌-◌, ◌*◌, ◌/◌, ◌^◌, ◌<◌, ◌≤◌, ◌⊎◌, inl, inr, List, [], ◌∷◌, ◌++◌, length, Option, None, Some, refl, ap, sym, subst, ◌∙◌, arith}
use Rattle.std.specs.Prelude.{◌==◌, slice_get, filter_map, unwrap_or}
use Rattle.std.proofs.lemmas.Bool.{cases_lt, cond-false, ne_eqb}
use Rattle.std.proofs.lemmas.List.{map-append, length_push, length-map}
use Rattle.std.proofs.lemmas.Option.{same_Some}
use Rattle.epic_num.specs.declared.hop.HopName.{HopName}
use Rattle.epic_num.specs.declared.name.AsId.{AsId}
use Rattle.epic_num.specs.declared.name.HostId.{HostId}
use Rattle.epic_num.specs.Bodies.{IsBody}
use Rattle.epic_num.specs.Chains.{Issue, issue_at, no_name}
use Rattle.epic_num.proofs.ChainLaws.{slice_get-seam, issue_at-append, issue_at-next, issue_at-past}
use Rattle.epic_topo.specs.Lawful.{IsTopology}
use Rattle.epic_topo.specs.Network.{Network}
use Rattle.epic_topo.proofs.Linked.{links_lead_back}
use Rattle.epic_fields.specs.Issues.{IssuesKept}
use Rattle.epic_beacon.specs.declared.beacon.Beacon.{Beacon}
use Rattle.epic_beacon.specs.Chained.{AreChained}
use Rattle.epic_beacon.specs.Laws.{IsIssued}
use Rattle.epic_beacon.specs.Store.{beacon_at, issue_of, issues_of}
use Rattle.epic_beacon.specs.Told.{beacons_in}
use Rattle.epic_beacon.proofs.GoingOn.{issues_chain, issues_stay_kept, issues_tell, issues_have_times, issues_stay_in_range}
use Rattle.epic_beacon.proofs.Issued.{issue_there}
use Rattle.epic_beacon.proofs.Told.{issues_in_beacons}
use Rattle.epic_ledger.specs.History.{History, Emission, step_of}
use Rattle.epic_ledger.specs.Facts.{Sent, as_issue, as_send, facts_of, issues_in, sends_in, sent_name}
use Rattle.epic_ledger.specs.OneMore.{with_event}
use Rattle.epic_ledger.specs.declared.event.Event.{Event}
use Rattle.epic_ledger.specs.declared.event.Event.TheVariants as event
use Rattle.epic_audit.specs.Kept.{IsKeptSend}
use Rattle.epic_audit.proofs.Keeping.{names_stay}
use Rattle.epic_audit.proofs.Lists.{one_more}
use Rattle.epic_model.specs.Keeping.{ArePast, AreInRange, Inv, InvIssues, store_in}
use Rattle.epic_model.specs.Sends.{names_of, IsRouted}
use Rattle.epic_model.specs.Windows.{router_entry, host_entry}
use Rattle.epic_model.proofs.InvKept.{sound_on, once_on, begins_on}
use Rattle.epic_model.proofs.Longer.{none_behind}

-- the beacon with the next number, and its issue
beacon_next : (bs : List Beacon) (b : Beacon) → beacon_at (bs ++ b ∷ []) (length bs + 1) ≡ Some b
unfolding beacon_at
beacon_next bs b =
    let at : length bs + 1 - 1 ≡ length bs = omega arith in
    cond-false (length bs + 1 == 0) None (slice_get (bs ++ b ∷ []) (length bs + 1 - 1)) (ne_eqb (length bs + 1) 0 (λ e. omega (arith, e)))
    ∙ (ap (slice_get (bs ++ b ∷ [])) at ∙ slice_get-seam bs b)

-- an issue of a list with one more at its end is of the list, or that one
issue_old_or_last : (issues : List Issue) (i k : Issue) (n : ℕ) → issue_at (issues ++ i ∷ []) n ≡ Some k
    → (issue_at issues n ≡ Some k) ⊎ (i ≡ k)
issue_old_or_last issues i k n e =
    elim (cases_lt (length issues) n) [
      | inl past ↦ elim (cases_lt (length issues + 1) n) [
        | inl beyond ↦ absurd (let none = issue_at-past (issues ++ i ∷ []) n (omega (arith, beyond, length_push issues i)) in (let same = sym none ∙ e in absurd (cc)))
        | inr at ↦ (let is : n ≡ length issues + 1 = omega (arith, past, at) in inr (same_Some i k (sym (issue_at-next issues i) ∙ (ap (issue_at (issues ++ i ∷ [])) (sym is) ∙ e))))
      ]
      | inr within ↦ inl (sym (issue_at-append issues (i ∷ []) n within) ∙ e)
    ]

-- the names of a sent packet stay
names_on : (t : Network) (issues : List Issue) (i : Issue) (s : Sent) → IssuesKept t issues → IsKeptSend t issues s → IsRouted issues s → IsRouted (issues ++ i ∷ []) s
unfolding names_of
names_on t issues i s kept send routed =
    let same : (j : ℕ) → unwrap_or (sent_name (issues ++ i ∷ []) s j) no_name ≡ unwrap_or (sent_name issues s j) no_name
    = λ j. ap (λ o. unwrap_or o no_name) (names_stay t issues i s j kept send) in
    record {
      begins = routed.begins;
      starts = ap (λ (y : HopName). y.asn) (same 0) ∙ routed.starts;
      ends = λ j last. ap (λ (y : HopName). y.asn) (same j) ∙ routed.ends j last;
      switches = λ j h last. ap (λ (y : HopName). y.asn) (same (j + 1)) ∙ (routed.switches j h last ∙ ap (λ (y : HopName). y.asn) (sym (same j)));
    }

no_entry_of_issue : (es : List Emission) (a : AsId) (step number : ℕ) (name : HopName) (parent : ℕ) → router_entry es a (event.Issue step number name parent) ≡ None
unfolding router_entry
no_entry_of_issue es a step number name parent = refl

no_host_entry_of_issue : (d : HostId) (step number : ℕ) (name : HopName) (parent : ℕ) → host_entry d (event.Issue step number name parent) ≡ None
unfolding host_entry
no_host_entry_of_issue d step number name parent = refl

module _ (t : Network) (h : History) (now step out exp : ℕ) (b : Beacon) (topology : IsTopology t) (out_fits : out < 2 ^ 16) (exp_fits : exp < 2 ^ 8) (now_fits : now / 1000000 < 2 ^ 32)
    (issued : IsIssued t (store_in t h) out exp now b) (inv : Inv t h now step) where
  issues : List Issue
  issues = issues_in h.events

  bs : List Beacon
  bs = beacons_in t (issues_in h.events)

  i : Issue
  i = record { name = b.name; parent = b.parent }

  number : ℕ
  number = length (issues_in h.events) + 1

  e : Event
  e = event.Issue step number b.name b.parent

  same : issues_of bs ≡ issues
  unfolding bs issues
  same = issues_in_beacons t (issues_in h.events)

  as_many : length bs ≡ length issues
  as_many = sym (length-map bs issue_of) ∙ ap length same

  grown : issues_of (bs ++ b ∷ []) ≡ issues ++ i ∷ []
  unfolding i
  grown = map-append issue_of bs (b ∷ []) ∙ ap (λ l. l ++ record { name = b.name; parent = b.parent } ∷ []) same

  all_kept : IssuesKept t (issues ++ i ∷ [])
  unfolding issues bs store_in facts_of
  all_kept =
      subst (IssuesKept t) grown
      (issues_stay_kept t (store_in t h) out exp now b (links_lead_back t topology) (subst (IssuesKept t) (sym same) inv.sound.kept.issues) issued)

  new_chained : AreChained (bs ++ b ∷ [])
  unfolding bs store_in
  new_chained = issues_chain t (store_in t h) out exp now b (links_lead_back t topology) inv.chained issued

  told : bs ++ b ∷ [] ≡ beacons_in t (issues ++ i ∷ [])
  unfolding bs issues i store_in
  told = issues_tell t (store_in t h) out exp now b (issues_in h.events) refl issued

  earlier : b.parent < number
  unfolding number issues
  earlier =
      elim (new_chained.each (length bs + 1) b (beacon_next bs b)) [
        | inl first ↦ (let none = first.no_parent in omega (arith, none))
        | inr next ↦ (let before = next.earlier in omega (arith, before, as_many))
      ]

  in_beacons : (n : ℕ) (k : Beacon) → beacon_at bs n ≡ Some k → issue_at issues n ≡ Some (issue_of k)
  in_beacons n k there = ap (λ l. issue_at l n) (sym same) ∙ issue_there bs n k there

  new_past : b.name.body.ts_path * 1000000 ≤ now
  unfolding bs store_in issues
  new_past =
      elim (issues_have_times t (store_in t h) out exp now b issued) [
        | inl now_is ↦ (let product : b.name.body.ts_path * 1000000 ≡ now / 1000000 * 1000000 = ap (λ m. m * 1000000) now_is in omega (arith, product))
        | inr parent ↦
            (let past = inv.past b.parent (issue_of parent.0) (in_beacons b.parent parent.0 parent.1) in
            let product : b.name.body.ts_path * 1000000 ≡ parent.0.name.body.ts_path * 1000000 = ap (λ m. m * 1000000) parent.2 in
            omega (arith, past, product))
      ]

  new_range : IsBody b.name.body
  unfolding bs store_in issues
  new_range =
      issues_stay_in_range t (store_in t h) out exp now b (links_lead_back t topology) inv.chained
      (λ n k there. inv.in_range n (issue_of k) (in_beacons n k there)) out_fits exp_fits now_fits issued (length bs + 1) b (beacon_next bs b)

  issues_now : issues_in (h.events ++ e ∷ []) ≡ issues ++ i ∷ []
  unfolding e i issues as_issue
  issues_now = one_more as_issue h.events (event.Issue step number b.name b.parent) (record { name = b.name; parent = b.parent }) refl

  no_send : as_send h.emissions e ≡ None
  unfolding e as_send
  no_send = refl

  only : {Y : Type 0} (f : Event → Option Y) → f e ≡ None → (n : ℕ) (d : Event) → slice_get (e ∷ []) n ≡ Some d → f d ≡ None
  only f none zero d at = ap f (sym (same_Some e d at)) ∙ none
  only f none (suc n) d at = absurd (cc)

  sends_now : filter_map (as_send h.emissions) (h.events ++ e ∷ []) ≡ sends_in h
  sends_now = none_behind (as_send h.emissions) h.events (e ∷ []) (only (as_send h.emissions) no_send)

  inv_issued : Inv t (with_event h e) now step
  unfolding e i issues number facts_of step_of
  inv_issued = record {
    sound = sound_on t h step (event.Issue step number b.name b.parent) (record { next = refl; earlier = earlier })
        (all_kept (length (issues_in h.events) + 1) i (issue_at-next (issues_in h.events) i)) refl inv.sound;
    once = once_on h (event.Issue step number b.name b.parent) (λ a. no_entry_of_issue h.emissions a step number b.name b.parent)
        (λ d. no_host_entry_of_issue d step number b.name b.parent) inv.once;
    sends = λ n s at. (let there = ap (λ l. slice_get l n) (sym sends_now) ∙ at in
        let was = inv.sends n s there in
        record {
          routed = subst (λ is. IsRouted is s) (sym issues_now) (names_on t (issues_in h.events) i s inv.sound.kept.issues (inv.sound.kept.sends.each n s there) was.routed);
          due = was.due;
        });
    past = subst (ArePast now) (sym issues_now)
        (λ n k at. elim (issue_old_or_last (issues_in h.events) i k n at) [
          | inl old ↦ inv.past n k old
          | inr new ↦ subst (λ (c : Issue). c.name.body.ts_path * 1000000 ≤ now) new new_past
        ]);
    in_range = subst AreInRange (sym issues_now)
        (λ n k at. elim (issue_old_or_last (issues_in h.events) i k n at) [
          | inl old ↦ inv.in_range n k old
          | inr new ↦ subst (λ (c : Issue). IsBody c.name.body) new new_range
        ]);
    chained = subst (λ is. AreChained (beacons_in t is)) (sym issues_now) (subst AreChained told new_chained);
    places = inv.places;
    begin = begins_on h.emissions h.events (event.Issue step number b.name b.parent) (λ c s k g m is. absurd (cc)) inv.begin;
  }

pub inv_issues : InvIssues
unfolding e number
inv_issues t h now step out exp b topology out_fits exp_fits now_fits issued inv = inv_issued t h now step out exp b topology out_fits exp_fits now_fits issued inv
