-- A field or an update is found by the message that it is made over.
use Rattle.std.proofs.Common.{◌≡◌, ℕ, zero, suc, ◌≤◌, Bool, true, false, List, [], ◌∷◌, ◌++◌, length, Option, Some, None, bytes_eq, refl, sym, subst, ap, ◌∙◌, arith}
use Rattle.std.specs.Prelude.{is_some, option_map, slice_get, nat_lt, ◌&&◌, ◌==◌, IsTrue, if◌then◌else◌}
use Rattle.std.specs.List.{list_any, flat_map, range_with_len}
use Rattle.std.specs.Option.{option_map_or}
use Rattle.std.proofs.lemmas.List.Elements.{All-append}
use Rattle.std.proofs.lemmas.Option.{same_Some, slice_get_within, get_or_from_slice_get}
use Rattle.epic_num.proofs.ChainLaws.{AreKnown, issue_at-suc, issue_at-zero}
use Rattle.epic_num.specs.Chains.{Issue, issue_at, name_of}
use Rattle.epic_num.specs.Levels.{is_tagged, is_updated}
use Rattle.epic_num.specs.Moments.{epoch_of}
use Rattle.epic_num.specs.Same.{same_as, same_host}
use Rattle.epic_num.specs.declared.hop.HopName.{HopName}
use Rattle.epic_num.specs.declared.name.AsId.{AsId}
use Rattle.epic_num.specs.declared.name.HostId.{HostId}
use Rattle.epic_layout.specs.Contents.{hop_count}
use Rattle.epic_topo.specs.Network.{Network, has}
use Rattle.epic_fields.specs.PacketTags.{hop_message}
use Rattle.epic_judging.specs.Given.{makes_at, makes_field, made_field, gives_out, given_out}
use Rattle.epic_ledger.specs.Facts.{Sent, Pass, as_issue, as_send, as_pass, facts_of, issues_in, packet_at, pass_name, sent_issue, sent_name}
use Rattle.epic_ledger.specs.History.{History, Emission}
use Rattle.epic_ledger.specs.Lawful.{Fits}
use Rattle.epic_ledger.specs.declared.event.Event.{Event}
use Rattle.epic_ledger.specs.declared.event.Event.TheVariants as event
use Rattle.epic_index.specs.Fields.{field_key, field_eq, message_key, field_keys_at, field_keys, field_rows, update_keys, update_rows, AreIssuersKnown}
use Rattle.epic_index.specs.Holding.{Held}
use Rattle.epic_index.specs.Indexes.{history_of, IsApart, IsIndexOf}
use Rattle.epic_index.specs.Numbered.{Numbered, AreRows, first_of}
use Rattle.epic_index.specs.Stepping.{at_step}
use Rattle.epic_index.specs.Twins.{HasKnownAs}
use Rattle.epic_index.specs.declared.fields.FieldKey.{FieldKey}
use Rattle.epic_index.proofs.Answering.{index_issues, index_sends, index_passes}
use Rattle.epic_index.proofs.ByNumber.{any_flat, fact_found, some_fact}
use Rattle.epic_index.proofs.NameKeys.{eq_flip, bytes_flip, never, or_none}
use Rattle.epic_index.proofs.Sending.{send_stays, pass_stays, names_stay}
use Rattle.epic_index.proofs.Steps.{send_at_step, pass_at_step}

-- ---- issuers

issuer_at : (t : Network) (issues : List Issue) (n : ℕ) (i : Issue) → AreIssuersKnown t issues → slice_get issues n ≡ Some i → IsTrue (has t i.name.asn)
issuer_at t issues n i all e = subst (λ (k : Issue). IsTrue (has t k.name.asn)) (get_or_from_slice_get issues n i i e) (all n i (slice_get_within issues n i e))

issuer_named : (t : Network) (issues : List Issue) (n : ℕ) (x : HopName) → AreIssuersKnown t issues → name_of issues n ≡ Some x → IsTrue (has t x.asn)
unfolding name_of
issuer_named t issues n x all e = by n e
  where
    on : (m : ℕ) (o : Option Issue) → slice_get issues m ≡ o → option_map (λ i. i.name) o ≡ Some x → IsTrue (has t x.asn)
    on m None is named = absurd (cc)
    on m (Some i) is named = subst (λ (y : HopName). IsTrue (has t y.asn)) (same_Some i.name x named) (issuer_at t issues m i all is)

    by : (m : ℕ) → option_map (λ i. i.name) (issue_at issues m) ≡ Some x → IsTrue (has t x.asn)
    by zero named = (let none = issue_at-zero issues in absurd (cc))
    by (suc m) named = on m (slice_get issues m) refl (sym (ap (option_map (λ (i : Issue). i.name)) (issue_at-suc issues m)) ∙ named)

-- the hops of a sent packet are of the network
pub sender_known : (t : Network) (issues : List Issue) (s : Sent) (j : ℕ) (x : HopName) → AreIssuersKnown t issues → Some x ≡ sent_name issues s j → IsTrue (has t x.asn)
unfolding sent_name
sender_known t issues s j x all e = by (nat_lt j (hop_count s.packet)) e
  where
    by : (b : Bool) → Some x ≡ (if b then name_of issues (sent_issue issues s j) else None) → IsTrue (has t x.asn)
    by true k = issuer_named t issues (sent_issue issues s j) x all (sym k)
    by false k = absurd (cc)

pub nothing_issued : (t : Network) → AreIssuersKnown t []
nothing_issued t n d h = absurd (omega arith)

one_issued : (t : Network) (i : Issue) → IsTrue (has t i.name.asn) → AreIssuersKnown t (i ∷ [])
one_issued t i h zero d low = h
one_issued t i h (suc n) d low = absurd (omega arith)

issuers_in : (t : Network) (e : Event) → HasKnownAs t e → AreIssuersKnown t (issues_in (at_step 0 e ∷ []))
unfolding as_issue at_step
issuers_in t (event.Issue step number name parent) h = one_issued t (record { name = name; parent = parent }) h
issuers_in t (event.Fetch step source owner epoch) h = nothing_issued t
issuers_in t (event.Send step emission segments) h = nothing_issued t
issuers_in t (event.Pass step a hop generation emission) h = nothing_issued t
issuers_in t (event.Arrive step host src ts hops checked) h = nothing_issued t
issuers_in t (event.Reveal step holder) h = nothing_issued t
issuers_in t (event.Roll step a generation) h = nothing_issued t

pub issuers_more : (t : Network) (issues : List Issue) (e : Event) → AreIssuersKnown t issues → HasKnownAs t e → AreIssuersKnown t (issues ++ issues_in (at_step 0 e ∷ []))
issuers_more t issues e all h = All-append (λ (i : Issue). IsTrue (has t i.name.asn)) issues (issues_in (at_step 0 e ∷ [])) all (issuers_in t e h)

-- ---- fields

in_order : (a s h e m : Bool) → (a && (s && (h && (e && m)))) ≡ (s && h && e && (a && m))
in_order true true true e m = refl
in_order true true false e m = refl
in_order true false h e m = refl
in_order false s h e m = sym (never (s && h && e))

field_matches_at : (t : Network) (issues : List Issue) (a : AsId) (src : HostId) (epoch : ℕ) (message : List ℕ) (s : Sent) (j : ℕ)
    → list_any (field_eq (field_key a src epoch message)) (field_keys_at t issues s j)
    ≡ (same_host s.packet.src src && epoch_of t.profile s.packet.ts == epoch && makes_at t issues a message s j)
unfolding field_keys_at field_key message_key makes_at same_host same_as
field_matches_at t issues a src epoch message s j = by (sent_name issues s j)
  where
    by : (o : Option HopName)
        → list_any (field_eq (field_key a src epoch message)) (option_map_or (λ x. message_key t x s.packet j ∷ []) o [])
        ≡ (same_host s.packet.src src && epoch_of t.profile s.packet.ts == epoch && option_map_or (λ x. same_as x.asn a && bytes_eq (hop_message t x s.packet j) message) o false)
    by None = sym (never (same_host s.packet.src src && epoch_of t.profile s.packet.ts == epoch))
    by (Some x) =
        or_none _
        ∙ (λ k.
        eq_flip a.0 x.asn.0 k
        && (eq_flip src.asn.0 s.packet.src.asn.0 k
        && (eq_flip src.host s.packet.src.host k
        && (eq_flip epoch (epoch_of t.profile s.packet.ts) k && bytes_flip message (hop_message t x s.packet j) k))))
        ∙ in_order (x.asn.0 == a.0) (s.packet.src.asn.0 == src.asn.0) (s.packet.src.host == src.host) (epoch_of t.profile s.packet.ts == epoch)
        (bytes_eq (hop_message t x s.packet j) message)

any_both : {X : Type 0} (b : Bool) (test : X → Bool) (xs : List X) → list_any (λ x. b && test x) xs ≡ (b && list_any test xs)
any_both true test xs = refl
any_both {X} false test xs = nothing xs
  where
    nothing : (ys : List X) → list_any (λ y. false) ys ≡ false
    nothing [] = refl
    nothing (y ∷ ys) = nothing ys

tagged_too : (h tagged e made : Bool) → tagged ≡ true → (h && e && made) ≡ (h && tagged && e && made)
tagged_too true true e made is = refl
tagged_too false true e made is = refl
tagged_too h false e made is = absurd (cc)

not_tagged : (h tagged e made : Bool) → tagged ≡ false → false ≡ (h && tagged && e && made)
not_tagged true false e made is = refl
not_tagged false false e made is = refl
not_tagged h true e made is = absurd (cc)

field_matches : (t : Network) (issues : List Issue) (a : AsId) (src : HostId) (epoch : ℕ) (message : List ℕ) (s : Sent)
    → list_any (field_eq (field_key a src epoch message)) (field_keys t issues s) ≡ makes_field t issues a src epoch message s
unfolding field_keys makes_field
field_matches t issues a src epoch message s = by (is_tagged s.packet.first) refl
  where
    hops : List ℕ
    hops = range_with_len 0 (hop_count s.packet)

    by : (b : Bool) → is_tagged s.packet.first ≡ b
        → list_any (field_eq (field_key a src epoch message)) (if b then flat_map (field_keys_at t issues s) hops else [])
        ≡ (same_host s.packet.src src && is_tagged s.packet.first && epoch_of t.profile s.packet.ts == epoch && list_any (makes_at t issues a message s) hops)
    by true is =
        any_flat (field_eq (field_key a src epoch message)) (field_keys_at t issues s) hops
        ∙ ap (λ (f : ℕ → Bool). list_any f hops) (λ k j. field_matches_at t issues a src epoch message s j k)
        ∙ any_both (same_host s.packet.src src && epoch_of t.profile s.packet.ts == epoch) (makes_at t issues a message s) hops
        ∙ tagged_too _ _ _ _ is
    by false is = not_tagged _ _ _ _ is

made_found : (t : Network) (h : History) (rows : Numbered FieldKey) (a : AsId) (src : HostId) (epoch : ℕ) (message : List ℕ) (key : FieldKey) (o : Option ℕ)
    → AreRows (field_rows t h.emissions (issues_in h.events)) h.events rows → key ≡ field_key a src epoch message → o ≡ first_of field_eq key rows
    → is_some o ≡ made_field t (facts_of h) a src epoch message
unfolding field_rows made_field facts_of
made_found t h rows a src epoch message key o are k e =
    ap is_some
    (e
    ∙ ap (λ (c : FieldKey). first_of field_eq c rows) k
    ∙ fact_found (as_send h.emissions) (field_keys t (issues_in h.events)) (makes_field t (issues_in h.events) a src epoch message) (field_eq (field_key a src epoch message)) h.events rows are
    (field_matches t (issues_in h.events) a src epoch message))
    ∙ some_fact (as_send h.emissions) (makes_field t (issues_in h.events) a src epoch message) h.events

made_stepped : (t : Network) (h : History) (steps : List ℕ) (a : AsId) (src : HostId) (epoch : ℕ) (message : List ℕ) → IsApart h steps
    → made_field t (facts_of (history_of h steps)) a src epoch message ≡ made_field t (facts_of h) a src epoch message
unfolding made_field
made_stepped t h steps a src epoch message i = rw (index_issues h steps i, index_sends h steps i)

pub index_made : (t : Network) (h : History) (steps : List ℕ) (held : Held) (a : AsId) (src : HostId) (epoch : ℕ) (message : List ℕ) (key : FieldKey) (o : Option ℕ) → IsIndexOf t h steps held
    → key ≡ field_key a src epoch message → o ≡ first_of field_eq key held.fields → is_some o ≡ made_field t (facts_of (history_of h steps)) a src epoch message
index_made t h steps held a src epoch message key o i k e =
    made_found t h held.fields a src epoch message key o i.held_is.fields k e ∙ sym (made_stepped t h steps a src epoch message i.apart)

-- ---- updates

update_order : (a s h u e m : Bool) → u ≡ true → (a && (s && (h && (e && m)))) ≡ (a && (s && h) && u && e && m)
update_order true true true true e m is = refl
update_order true true false true e m is = refl
update_order true false h true e m is = refl
update_order false s h true e m is = refl
update_order a s h false e m is = absurd (cc)

no_update : (b u e m : Bool) → u ≡ false → false ≡ (b && u && e && m)
no_update true false e m is = refl
no_update false false e m is = refl
no_update b true e m is = absurd (cc)

update_matches : (t : Network) (a : AsId) (src : HostId) (epoch : ℕ) (message : List ℕ) (w : Pass)
    → list_any (field_eq (field_key a src epoch message)) (update_keys t w) ≡ gives_out t a src epoch message w
unfolding update_keys field_key message_key gives_out same_host same_as pass_name
update_matches t a src epoch message w = by (is_updated w.packet.first) refl
  where
    by : (b : Bool) → is_updated w.packet.first ≡ b
        → list_any (field_eq (field_key a src epoch message)) (if b then message_key t (pass_name w) w.packet w.hop ∷ [] else [])
        ≡ (same_as w.asn a && same_host w.packet.src src && is_updated w.packet.first && epoch_of t.profile w.packet.ts == epoch && bytes_eq (hop_message t (pass_name w) w.packet w.hop) message)
    by true is =
        or_none _
        ∙ (λ k.
        eq_flip a.0 w.asn.0 k
        && (eq_flip src.asn.0 w.packet.src.asn.0 k
        && (eq_flip src.host w.packet.src.host k
        && (eq_flip epoch (epoch_of t.profile w.packet.ts) k && bytes_flip message (hop_message t (pass_name w) w.packet w.hop) k))))
        ∙ update_order (w.asn.0 == a.0) (w.packet.src.asn.0 == src.asn.0) (w.packet.src.host == src.host) (is_updated w.packet.first) (epoch_of t.profile w.packet.ts == epoch)
        (bytes_eq (hop_message t (pass_name w) w.packet w.hop) message) is
    by false is = no_update _ _ _ _ is

given_found : (t : Network) (h : History) (rows : Numbered FieldKey) (a : AsId) (src : HostId) (epoch : ℕ) (message : List ℕ) (key : FieldKey) (o : Option ℕ)
    → AreRows (update_rows t h.emissions) h.events rows → key ≡ field_key a src epoch message → o ≡ first_of field_eq key rows
    → is_some o ≡ given_out t (facts_of h).passes a src epoch message
unfolding update_rows given_out facts_of
given_found t h rows a src epoch message key o are k e =
    ap is_some
    (e
    ∙ ap (λ (c : FieldKey). first_of field_eq c rows) k
    ∙ fact_found (as_pass h.emissions) (update_keys t) (gives_out t a src epoch message) (field_eq (field_key a src epoch message)) h.events rows are
    (update_matches t a src epoch message))
    ∙ some_fact (as_pass h.emissions) (gives_out t a src epoch message) h.events

pub index_given : (t : Network) (h : History) (steps : List ℕ) (held : Held) (a : AsId) (src : HostId) (epoch : ℕ) (message : List ℕ) (key : FieldKey) (o : Option ℕ) → IsIndexOf t h steps held
    → key ≡ field_key a src epoch message → o ≡ first_of field_eq key held.updates → is_some o ≡ given_out t (facts_of (history_of h steps)).passes a src epoch message
index_given t h steps held a src epoch message key o i k e =
    given_found t h held.updates a src epoch message key o i.held_is.updates k e
    ∙ ap (λ (ws : List Pass). given_out t ws a src epoch message) (sym (index_passes h steps i.apart))

-- ---- growth

pub field_at_step : (t : Network) (es : List Emission) (issues : List Issue) (s : ℕ) (e : Event) → field_rows t es issues (at_step s e) ≡ field_rows t es issues e
unfolding field_rows
field_at_step t es issues s e = ap (λ (o : Option Sent). option_map_or (field_keys t issues) o []) (send_at_step es s e)

pub field_among : (t : Network) (es more : List Emission) (before issues : List Issue) (e : Event) → Fits es before e → field_rows t es issues e ≡ field_rows t (es ++ more) issues e
unfolding field_rows
field_among t es more before issues e h = ap (λ (o : Option Sent). option_map_or (field_keys t issues) o []) (send_stays es more before e h)

pub field_stays : (t : Network) (es : List Emission) (before issues more : List Issue) (e : Event) → Fits es before e → length before ≤ length issues → AreKnown issues
    → field_rows t es issues e ≡ field_rows t es (issues ++ more) e
unfolding field_rows as_send field_keys field_keys_at
field_stays t es before issues more (event.Issue step number name parent) h few known = refl
field_stays t es before issues more (event.Fetch step source owner epoch) h few known = refl
field_stays t es before issues more (event.Send step emission segments) h few known =
    ap (λ (names : ℕ → Option HopName).
    let p = packet_at es emission in
    if is_tagged p.first then flat_map (λ j. option_map_or (λ x. message_key t x p j ∷ []) (names j) []) (range_with_len 0 (hop_count p)) else [])
    (λ k j. names_stay es before issues more emission segments.items (packet_at es emission) j h few known k)
field_stays t es before issues more (event.Pass step a hop generation emission) h few known = refl
field_stays t es before issues more (event.Arrive step host src ts hops checked) h few known = refl
field_stays t es before issues more (event.Reveal step holder) h few known = refl
field_stays t es before issues more (event.Roll step a generation) h few known = refl

pub update_at_step : (t : Network) (es : List Emission) (s : ℕ) (e : Event) → update_rows t es (at_step s e) ≡ update_rows t es e
unfolding update_rows
update_at_step t es s e = ap (λ (o : Option Pass). option_map_or (update_keys t) o []) (pass_at_step es s e)

pub update_among : (t : Network) (es more : List Emission) (before : List Issue) (e : Event) → Fits es before e → update_rows t es e ≡ update_rows t (es ++ more) e
unfolding update_rows
update_among t es more before e h = ap (λ (o : Option Pass). option_map_or (update_keys t) o []) (pass_stays es more before e h)
