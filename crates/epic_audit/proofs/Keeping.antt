-- What a ledger keeps, it keeps as it grows.
use Rattle.std.proofs.Common.{◌≡◌, ℕ, zero, suc, ◌+◌, ◌-◌, ◌≤◌, true, false, List, [], ◌∷◌, ◌++◌, length, get_or, map, refl, ap, sym, ◌∙◌, subst, arith, inl, inr}
use Rattle.std.specs.Prelude.{Option, Some, None, nat_lt, ◌==◌, if◌then◌else◌}
use Rattle.std.specs.List.{range_with_len}
use Rattle.std.specs.Option.{option_map_or}
use Rattle.std.proofs.lemmas.Bool.{cases_lt}
use Rattle.std.proofs.lemmas.List.{get_or_past, length_push}
use Rattle.std.proofs.lemmas.Option.{same_Some}
use Rattle.epic_num.specs.declared.hop.HopName.{HopName}
use Rattle.epic_num.specs.Chains.{Issue, issue_at, name_of, is_ended}
use Rattle.epic_num.proofs.ChainLaws.{AreKnown, issue_at-append, issue_at-zero, issue_at-next, issue_at-past, name_of-append}
use Rattle.epic_layout.specs.Contents.{hop_count}
use Rattle.epic_layout.specs.Route.{place, position}
use Rattle.epic_layout.specs.Spelling.{update_count}
use Rattle.epic_topo.specs.Network.{Network}
use Rattle.epic_fields.specs.Issues.{IsKept, IssuesKept}
use Rattle.epic_fields.specs.PacketTags.{update_of, dest_field_of}
use Rattle.epic_ledger.specs.History.{History}
use Rattle.epic_ledger.specs.Facts.{Facts, Sent, Pass, Reveal, sent_issue, sent_name, facts_of, issues_in}
use Rattle.epic_num.specs.Chains.{ancestor}
use Rattle.epic_ledger.specs.Lawful.{Fits}
use Rattle.epic_ledger.specs.declared.event.Event.{Event}
use Rattle.epic_ledger.specs.declared.event.Event.TheVariants as event
use Rattle.epic_audit.specs.Events.{IssueFits, SendFits, EventFits, NothingIsKept, EventsKeep, NamesStay}
use Rattle.epic_audit.specs.Kept.{IsKeptPass, IsKeptSend, Kept}
use Rattle.epic_audit.specs.Made.{sent_update, sent_updates}
use Rattle.epic_audit.specs.Reveals.{IsRevealed}
use Rattle.epic_audit.proofs.Growth.{with_fact, grown}
use Rattle.epic_audit.proofs.Lists.{old_or_last}

-- ---- issues

-- an issue that is there has a number among them
pub numbered : (issues : List Issue) (n : ℕ) (i : Issue) → issue_at issues n ≡ Some i → n ≤ length issues
numbered issues n i e =
    elim (cases_lt (length issues) n) [
      | inl past ↦ (let none = issue_at-past issues n past in absurd (cc))
      | inr within ↦ within
    ]

-- what is kept is kept among more issues
kept_among : (t : Network) (issues more : List Issue) (n : ℕ) (i : Issue) → n ≤ length issues → IsKept t issues n i → IsKept t (issues ++ more) n i
kept_among t issues more n i within k = record {
  known = k.known;
  egress = k.egress;
  placed =
      elim k.placed [
        | inl root ↦ inl root
        | inr child ↦ inr (record {
          parent = child.parent;
          kind = child.kind;
          some_parent = child.some_parent;
          earlier = child.earlier;
          is_parent = issue_at-append issues more i.parent (let less = child.earlier in omega arith) ∙ child.is_parent;
          position = child.position;
          linked = child.linked;
          behind = child.behind;
        })
      ];
}

issues_keep : (t : Network) (issues : List Issue) (i : Issue) → IssuesKept t issues → IsKept t (issues ++ i ∷ []) (length issues + 1) i
    → IssuesKept t (issues ++ i ∷ [])
issues_keep t issues i kept new n k e =
    elim (cases_lt n (length issues + 1)) [
      | inl old ↦
          (let within : n ≤ length issues = omega arith in
          kept_among t issues (i ∷ []) n k within (kept n k (sym (issue_at-append issues (i ∷ []) n within) ∙ e)))
      | inr not_old ↦
          (let last : n ≡ length issues + 1 = at_end (numbered (issues ++ i ∷ []) n k e) not_old in
          let same : i ≡ k = same_Some i k (sym (issue_at-next issues i) ∙ (ap (issue_at (issues ++ i ∷ [])) (sym last) ∙ e)) in
          subst (λ (j : Issue). IsKept t (issues ++ i ∷ []) n j) same (subst (λ m. IsKept t (issues ++ i ∷ []) m i) (sym last) new))
    ]
  where
    at_end : n ≤ length (issues ++ i ∷ []) → length issues + 1 ≤ n → n ≡ length issues + 1
    at_end most least = omega (arith, length_push issues i)

-- every parent is among the issues
parents_known : (t : Network) (issues : List Issue) → IssuesKept t issues → AreKnown issues
parents_known t issues kept n i e =
    let within = numbered issues n i e in
    elim (kept n i e).placed [
      | inl root ↦ (let none = root.no_parent in omega arith)
      | inr child ↦ (let less = child.earlier in omega arith)
    ]

-- ---- names of sent hops

parent_within : (issues : List Issue) (n : ℕ) → AreKnown issues → option_map_or (λ i. i.parent) (issue_at issues n) 0 ≤ length issues
parent_within issues n known =
    elim (issue_at issues n) as (λ o. issue_at issues n ≡ o → option_map_or (λ i. i.parent) o 0 ≤ length issues) [
      | None ↦ λ e. omega arith
      | Some i ↦ λ e. known n i e
    ] refl

ancestor_within : (issues : List Issue) → AreKnown issues → (n k : ℕ) → n ≤ length issues → ancestor issues n k ≤ length issues
unfolding ancestor
ancestor_within issues known n zero h = h
ancestor_within issues known n (suc k) h = ancestor_within issues known (option_map_or (λ i. i.parent) (issue_at issues n) 0) k (parent_within issues n known)

ancestor-append : (issues more : List Issue) → AreKnown issues → (n k : ℕ) → n ≤ length issues
    → ancestor (issues ++ more) n k ≡ ancestor issues n k
unfolding ancestor
ancestor-append issues more known n zero h = refl
ancestor-append issues more known n (suc k) h =
    ap (λ (o : Option Issue). ancestor (issues ++ more) (option_map_or (λ i. i.parent) o 0) k) (issue_at-append issues more n h)
    ∙ ancestor-append issues more known (option_map_or (λ i. i.parent) (issue_at issues n) 0) k (parent_within issues n known)

sent_name-append : (issues more : List Issue) (s : Sent) (j : ℕ) → AreKnown issues → ((k : ℕ) → get_or s.segments k 0 ≤ length issues)
    → sent_name (issues ++ more) s j ≡ sent_name issues s j
unfolding sent_name sent_issue
sent_name-append issues more s j known within =
    let at = place s.packet.route.segments j in
    let number = get_or s.segments at.segment 0 in
    let back = at.head.count - position at in
    ap (λ (o : Option HopName). if nat_lt j (hop_count s.packet) then o else None)
    (ap (name_of (issues ++ more)) (ancestor-append issues more known number back (within at.segment))
    ∙ name_of-append issues more (ancestor issues number back) (ancestor_within issues known number back (within at.segment)))

-- an ended issue is among the issues, and is ended among more
ended_within : (issues : List Issue) (n : ℕ) → is_ended issues n ≡ true → n ≤ length issues
unfolding is_ended
ended_within issues n h =
    elim (issue_at issues n) as (λ o. issue_at issues n ≡ o → option_map_or (λ i. i.name.body.out == 0) o false ≡ true → n ≤ length issues) [
      | None ↦ λ e s. absurd (cc)
      | Some i ↦ λ e s. numbered issues n i e
    ] refl h

is_ended-append : (issues more : List Issue) (n : ℕ) → n ≤ length issues → is_ended (issues ++ more) n ≡ is_ended issues n
unfolding is_ended
is_ended-append issues more n h = ap (λ (o : Option Issue). option_map_or (λ i. i.name.body.out == 0) o false) (issue_at-append issues more n h)

segments_within : (t : Network) (issues : List Issue) (s : Sent) → IsKeptSend t issues s → (k : ℕ) → get_or s.segments k 0 ≤ length issues
segments_within t issues s kept k =
    elim (cases_lt k (length s.segments)) [
      | inl inside ↦ ended_within issues (get_or s.segments k 0) (kept.ended k 0 inside)
      | inr past ↦ (let none = get_or_past s.segments k 0 past in omega arith)
    ]

name_stays : (t : Network) (issues more : List Issue) (s : Sent) (j : ℕ) → IssuesKept t issues → IsKeptSend t issues s
    → sent_name (issues ++ more) s j ≡ sent_name issues s j
name_stays t issues more s j kept sent =
    sent_name-append issues more s j (parents_known t issues kept) (segments_within t issues s sent)

pub names_stay : NamesStay
names_stay t issues i s j kept sent = name_stays t issues (i ∷ []) s j kept sent

-- ---- sent packets

updates_stay : (t : Network) (issues more : List Issue) (s : Sent) → IssuesKept t issues → IsKeptSend t issues s
    → sent_updates t (issues ++ more) s ≡ sent_updates t issues s
unfolding sent_updates sent_update
updates_stay t issues more s kept sent =
    ap (λ (f : ℕ → Option HopName). map (λ j. option_map_or (λ x. update_of t x s.packet j) (f j) [])
    (range_with_len 0 (update_count s.packet.first (hop_count s.packet))))
    (λ i j. name_stays t issues more s j kept sent i)

send_among : (t : Network) (issues more : List Issue) (s : Sent) → IssuesKept t issues → IsKeptSend t issues s → IsKeptSend t (issues ++ more) s
send_among t issues more s kept sent = record {
  ended = λ k d inside.
      (let here = sent.ended k d inside in
      is_ended-append issues more _ (ended_within issues _ here) ∙ here);
  hops = λ j lt.
      (let here = sent.hops j lt in
      record {
        name = here.name;
        named = name_stays t issues more s j kept sent ∙ here.named;
        body_is = here.body_is;
        field_is = here.field_is;
      });
  dest_field_is = λ tagged. sent.dest_field_is tagged ∙ ap (λ us. dest_field_of t s.packet us) (sym (updates_stay t issues more s kept sent));
}

-- ---- the events

with_issue : (t : Network) (f : Facts) (i : Issue) → Kept t f → IsKept t (f.issues ++ i ∷ []) (length f.issues + 1) i
    → Kept t (record f { issues = f.issues ++ i ∷ [] })
with_issue t f i kept new = record {
  issues = issues_keep t f.issues i kept.issues new;
  passes = kept.passes;
  sends = record {
    each = λ n s at. send_among t f.issues (i ∷ []) s kept.issues (kept.sends.each n s at);
    apart = kept.sends.apart;
  };
  reveals = kept.reveals;
}

with_send : (t : Network) (f : Facts) (s : Sent) → Kept t f → SendFits t f.issues f.sends s → Kept t (record f { sends = f.sends ++ s ∷ [] })
with_send t f s kept new = record {
  issues = kept.issues;
  passes = kept.passes;
  sends = record {
    each = λ n r at.
        elim (old_or_last f.sends s r n at) [
          | inl old ↦ kept.sends.each n r old
          | inr last ↦ subst (λ (q : Sent). IsKeptSend t f.issues q) last.1 new.kept
        ];
    apart = λ m n q r at_m at_n src ts.
        elim (old_or_last f.sends s q m at_m) [
          | inl old_m ↦
              elim (old_or_last f.sends s r n at_n) [
                | inl old_n ↦ kept.sends.apart m n q r old_m old_n src ts
                | inr last_n ↦ absurd (new.unsent m q old_m (src ∙ ap (λ (p : Sent). p.packet.src) (sym last_n.1)) (ts ∙ ap (λ (p : Sent). p.packet.ts) (sym last_n.1)))
              ]
          | inr last_m ↦
              elim (old_or_last f.sends s r n at_n) [
                | inl old_n ↦
                    absurd (new.unsent n r old_n (sym src ∙ ap (λ (p : Sent). p.packet.src) (sym last_m.1)) (sym ts ∙ ap (λ (p : Sent). p.packet.ts) (sym last_m.1)))
                | inr last_n ↦ last_m.0 ∙ sym last_n.0
              ]
        ];
  };
  reveals = kept.reveals;
}

with_pass : (t : Network) (f : Facts) (w : Pass) → Kept t f → IsKeptPass t w → Kept t (record f { passes = f.passes ++ w ∷ [] })
with_pass t f w kept new = record {
  issues = kept.issues;
  passes = λ n v at.
      elim (old_or_last f.passes w v n at) [
        | inl old ↦ kept.passes n v old
        | inr last ↦ subst (IsKeptPass t) last.1 new
      ];
  sends = kept.sends;
  reveals = kept.reveals;
}

with_reveal : (t : Network) (f : Facts) (r : Reveal) → Kept t f → (IsRevealed f.reveals r.holder → ⊥)
    → Kept t (record f { reveals = f.reveals ++ r ∷ [] })
with_reveal t f r kept new = record {
  issues = kept.issues;
  passes = kept.passes;
  sends = kept.sends;
  reveals = λ m n p q at_m at_n same.
      elim (old_or_last f.reveals r p m at_m) [
        | inl old_m ↦
            elim (old_or_last f.reveals r q n at_n) [
              | inl old_n ↦ kept.reveals m n p q old_m old_n same
              | inr last_n ↦ absurd (new (record { index = m; reveal = p; there = old_m; holder_is = same ∙ ap (λ (s : Reveal). s.holder) (sym last_n.1) }))
            ]
        | inr last_m ↦
            elim (old_or_last f.reveals r q n at_n) [
              | inl old_n ↦ absurd (new (record { index = n; reveal = q; there = old_n; holder_is = sym same ∙ ap (λ (s : Reveal). s.holder) (sym last_m.1) }))
              | inr last_n ↦ last_m.0 ∙ sym last_n.0
            ]
      ];
}

-- what an event that fits says keeps the facts
fact_keeps : (t : Network) (h : History) (e : Event) → Kept t (facts_of h) → Fits h.emissions (issues_in h.events) e → EventFits t h e
    → Kept t (with_fact h.emissions e (facts_of h))
unfolding facts_of
fact_keeps t h (event.Issue step number name parent) kept there fits =
    with_issue t (facts_of h) (record { name = name; parent = parent }) kept
    (subst (λ n. IssueFits t (issues_in h.events) n (record { name = name; parent = parent })) there.next fits)
fact_keeps t h (event.Fetch step source owner epoch) kept there fits = kept
fact_keeps t h (event.Send step emission segments) kept there fits = with_send t (facts_of h) _ kept fits
fact_keeps t h (event.Pass step a hop generation emission) kept there fits = with_pass t (facts_of h) _ kept fits
fact_keeps t h (event.Arrive step host src ts hops checked) kept there fits = kept
fact_keeps t h (event.Reveal step holder) kept there fits = with_reveal t (facts_of h) _ kept fits
fact_keeps t h (event.Roll step a generation) kept there fits = kept

pub events_keep : EventsKeep
events_keep t h e lawful kept there fits = subst (Kept t) (sym (grown h e)) (fact_keeps t h e kept there fits)

pub nothing_is_kept : NothingIsKept
unfolding facts_of
nothing_is_kept t = record {
  issues = λ n i e. absurd (no_issue n i e);
  passes = λ n w at. absurd (cc);
  sends = record { each = λ n s at. absurd (cc); apart = λ m n r s at_m at_n src ts. absurd (cc) };
  reveals = λ m n r s at_m at_n same. absurd (cc);
}
  where
    no_issue : (n : ℕ) (i : Issue) → issue_at [] n ≡ Some i → ⊥
    no_issue zero i e = let none = issue_at-zero [] in cc
    no_issue (suc n) i e = let none = issue_at-past [] (suc n) (omega arith) in cc
