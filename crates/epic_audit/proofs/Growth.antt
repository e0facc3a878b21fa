-- The facts of a ledger that grows.
use Rattle.std.proofs.Common.{◌≡◌, ℕ, zero, suc, List, [], ◌∷◌, ◌++◌, refl, ap, sym, ◌∙◌, subst}
use Rattle.std.specs.Prelude.{Some, None, IsSome, slice_get, take}
use Rattle.std.specs.List.{All}
use Rattle.std.specs.Option.{option_map_or}
use Rattle.std.proofs.lemmas.Option.{same_Some, slice_get_within, get_or_from_slice_get}
use Rattle.epic_num.specs.Chains.{Issue}
use Rattle.epic_layout.specs.Contents.{Contents, IsPacket}
use Rattle.epic_layout.specs.Layout.{parse}
use Rattle.epic_ledger.specs.History.{History, Emission, emission_at}
use Rattle.epic_ledger.specs.Facts.{Facts, Sent, Pass, packet_at, as_issue, as_send, as_pass, as_reveal, issues_in, facts_of}
use Rattle.epic_ledger.specs.Lawful.{IsEmission, Fits}
use Rattle.epic_ledger.specs.declared.event.Event.{Event}
use Rattle.epic_ledger.specs.declared.event.Event.TheVariants as event
use Rattle.epic_ledger.proofs.Growing.{emission_at-zero, emission_at-suc, packet_at-append, lawful_push, lawful_emit}
use Rattle.epic_ledger.specs.OneMore.{with_event}
use Rattle.epic_audit.specs.Events.{EventsAreLawful, EmissionsAddNothing, EmissionsAreLawful, LawfulPackets}
use Rattle.epic_audit.proofs.Lists.{same_answers, answered, one_more, none_more}

pub events_are_lawful : EventsAreLawful
events_are_lawful h e lawful fits last = lawful_push h.events h.emissions e lawful fits last

pub emissions_are_lawful : EmissionsAreLawful
emissions_are_lawful h x lawful spelled = lawful_emit h.events h.emissions x lawful spelled

-- ---- one more event

same_facts : (f g : Facts) → f.issues ≡ g.issues → f.sends ≡ g.sends → f.passes ≡ g.passes → f.reveals ≡ g.reveals → f ≡ g
same_facts f g a b c d i = record { issues = a i; sends = b i; passes = c i; reveals = d i }

-- the facts with what an event says
abbrev pub with_fact : List Emission → Event → Facts → Facts
with_fact es (event.Issue step number name parent) f = record f { issues = f.issues ++ record { name = name; parent = parent } ∷ [] }
with_fact es (event.Fetch step source owner epoch) f = f
with_fact es (event.Send step emission segments) f =
    record f { sends = f.sends ++ record { emission = emission; segments = segments.items; packet = packet_at es emission } ∷ [] }
with_fact es (event.Pass step a hop generation emission) f =
    record f { passes = f.passes ++ record { asn = a; generation = generation; hop = hop; emission = emission; packet = packet_at es emission } ∷ [] }
with_fact es (event.Arrive step host src ts hops checked) f = f
with_fact es (event.Reveal step holder) f = record f { reveals = f.reveals ++ record { step = step; holder = holder } ∷ [] }
with_fact es (event.Roll step a generation) f = f

pub grown : (h : History) (e : Event) → facts_of (with_event h e) ≡ with_fact h.emissions e (facts_of h)
unfolding facts_of as_issue as_send as_pass as_reveal
grown h (event.Issue step number name parent) =
    let e : Event = event.Issue step number name parent in
    same_facts _ _ (one_more as_issue h.events e _ refl) (none_more (as_send h.emissions) h.events e refl)
    (none_more (as_pass h.emissions) h.events e refl) (none_more as_reveal h.events e refl)
grown h (event.Fetch step source owner epoch) =
    let e : Event = event.Fetch step source owner epoch in
    same_facts _ _ (none_more as_issue h.events e refl) (none_more (as_send h.emissions) h.events e refl)
    (none_more (as_pass h.emissions) h.events e refl) (none_more as_reveal h.events e refl)
grown h (event.Send step emission segments) =
    let e : Event = event.Send step emission segments in
    same_facts _ _ (none_more as_issue h.events e refl) (one_more (as_send h.emissions) h.events e _ refl)
    (none_more (as_pass h.emissions) h.events e refl) (none_more as_reveal h.events e refl)
grown h (event.Pass step a hop generation emission) =
    let e : Event = event.Pass step a hop generation emission in
    same_facts _ _ (none_more as_issue h.events e refl) (none_more (as_send h.emissions) h.events e refl)
    (one_more (as_pass h.emissions) h.events e _ refl) (none_more as_reveal h.events e refl)
grown h (event.Arrive step host src ts hops checked) =
    let e : Event = event.Arrive step host src ts hops checked in
    same_facts _ _ (none_more as_issue h.events e refl) (none_more (as_send h.emissions) h.events e refl)
    (none_more (as_pass h.emissions) h.events e refl) (none_more as_reveal h.events e refl)
grown h (event.Reveal step holder) =
    let e : Event = event.Reveal step holder in
    same_facts _ _ (none_more as_issue h.events e refl) (none_more (as_send h.emissions) h.events e refl)
    (none_more (as_pass h.emissions) h.events e refl) (one_more as_reveal h.events e _ refl)
grown h (event.Roll step a generation) =
    let e : Event = event.Roll step a generation in
    same_facts _ _ (none_more as_issue h.events e refl) (none_more (as_send h.emissions) h.events e refl)
    (none_more (as_pass h.emissions) h.events e refl) (none_more as_reveal h.events e refl)

-- ---- one more emission

-- an event that fits says the same among more emissions
send_stays : (es more : List Emission) (issues : List Issue) (e : Event) → Fits es issues e → as_send (es ++ more) e ≡ as_send es e
unfolding as_send
send_stays es more issues (event.Issue step number name parent) h = refl
send_stays es more issues (event.Fetch step source owner epoch) h = refl
send_stays es more issues (event.Send step emission segments) h =
    ap (λ (p : Contents). Some (record { emission = emission; segments = segments.items; packet = p })) (packet_at-append es more emission h.there)
send_stays es more issues (event.Pass step a hop generation emission) h = refl
send_stays es more issues (event.Arrive step host src ts hops checked) h = refl
send_stays es more issues (event.Reveal step holder) h = refl
send_stays es more issues (event.Roll step a generation) h = refl

pass_stays : (es more : List Emission) (issues : List Issue) (e : Event) → Fits es issues e → as_pass (es ++ more) e ≡ as_pass es e
unfolding as_pass
pass_stays es more issues (event.Issue step number name parent) h = refl
pass_stays es more issues (event.Fetch step source owner epoch) h = refl
pass_stays es more issues (event.Send step emission segments) h = refl
pass_stays es more issues (event.Pass step a hop generation emission) h =
    ap (λ (p : Contents). Some (record { asn = a; generation = generation; hop = hop; emission = emission; packet = p }))
    (packet_at-append es more emission h.there)
pass_stays es more issues (event.Arrive step host src ts hops checked) h = refl
pass_stays es more issues (event.Reveal step holder) h = refl
pass_stays es more issues (event.Roll step a generation) h = refl

pub emissions_add_nothing : EmissionsAddNothing
unfolding facts_of
emissions_add_nothing h x lawful =
    same_facts _ _ refl
    (same_answers (as_send (h.emissions ++ x ∷ [])) (as_send h.emissions) h.events
    (λ n e at. send_stays h.emissions (x ∷ []) (issues_in (take n h.events)) e (lawful.fit n e at)))
    (same_answers (as_pass (h.emissions ++ x ∷ [])) (as_pass h.emissions) h.events
    (λ n e at. pass_stays h.emissions (x ∷ []) (issues_in (take n h.events)) e (lawful.fit n e at)))
    refl

-- ---- packets

All-at : (xs : List Emission) (m : ℕ) (x : Emission) → All IsEmission xs → slice_get xs m ≡ Some x → IsEmission x
All-at xs m x all e = subst IsEmission (get_or_from_slice_get xs m x x e) (all m x (slice_get_within xs m x e))

-- an emission that is there is a packet
emission_is : (es : List Emission) (n : ℕ) → All IsEmission es → IsSome (emission_at es n) → IsPacket (packet_at es n)
unfolding packet_at
emission_is es n all some =
    elim (emission_at es n) as (λ o. emission_at es n ≡ o → IsSome o → IsPacket (parse (option_map_or (λ e. e.bytes) o []))) [
      | None ↦ λ e s. absurd (cc)
      | Some x ↦ λ e s. (spelled es n x all e).packet
    ] refl some
  where
    spelled : (xs : List Emission) (m : ℕ) (x : Emission) → All IsEmission xs → emission_at xs m ≡ Some x → IsEmission x
    spelled xs zero x every e = let none = emission_at-zero xs in absurd (cc)
    spelled xs (suc m) x every e = All-at xs m x every (sym (emission_at-suc xs m) ∙ e)

packet_sent : (es : List Emission) (issues : List Issue) (e : Event) (s : Sent) → All IsEmission es → Fits es issues e → as_send es e ≡ Some s
    → IsPacket s.packet
unfolding as_send
packet_sent es issues (event.Issue step number name parent) s all h is = absurd (cc)
packet_sent es issues (event.Fetch step source owner epoch) s all h is = absurd (cc)
packet_sent es issues (event.Send step emission segments) s all h is =
    let same : packet_at es emission ≡ s.packet = ap (λ (r : Sent). r.packet) (same_Some _ s is) in
    subst IsPacket same (emission_is es emission all h.there)
packet_sent es issues (event.Pass step a hop generation emission) s all h is = absurd (cc)
packet_sent es issues (event.Arrive step host src ts hops checked) s all h is = absurd (cc)
packet_sent es issues (event.Reveal step holder) s all h is = absurd (cc)
packet_sent es issues (event.Roll step a generation) s all h is = absurd (cc)

packet_passed : (es : List Emission) (issues : List Issue) (e : Event) (w : Pass) → All IsEmission es → Fits es issues e → as_pass es e ≡ Some w
    → IsPacket w.packet
unfolding as_pass
packet_passed es issues (event.Issue step number name parent) w all h is = absurd (cc)
packet_passed es issues (event.Fetch step source owner epoch) w all h is = absurd (cc)
packet_passed es issues (event.Send step emission segments) w all h is = absurd (cc)
packet_passed es issues (event.Pass step a hop generation emission) w all h is =
    let same : packet_at es emission ≡ w.packet = ap (λ (v : Pass). v.packet) (same_Some _ w is) in
    subst IsPacket same (emission_is es emission all h.there)
packet_passed es issues (event.Arrive step host src ts hops checked) w all h is = absurd (cc)
packet_passed es issues (event.Reveal step holder) w all h is = absurd (cc)
packet_passed es issues (event.Roll step a generation) w all h is = absurd (cc)

pub lawful_packets : LawfulPackets
unfolding facts_of
lawful_packets h lawful = record {
  sent = λ n s at. (let a = answered (as_send h.emissions) h.events n s at in
      packet_sent h.emissions (issues_in (take a.index h.events)) a.element s lawful.packets (lawful.fit a.index a.element a.there) a.answer);
  passed = λ n w at. (let a = answered (as_pass h.emissions) h.events n w at in
      packet_passed h.emissions (issues_in (take a.index h.events)) a.element w lawful.packets (lawful.fit a.index a.element a.there) a.answer);
}
