-- A hop of a sent packet is found by its key.
use Rattle.std.proofs.Common.{◌≡◌, ℕ, ◌≤◌, Bool, true, false, List, [], ◌∷◌, ◌++◌, length, Option, Some, None, refl, sym, ap, ◌∙◌, arith}
use Rattle.std.specs.Prelude.{option_map, option_and_then, slice_get, nat_lt, ◌&&◌, ◌==◌, if◌then◌else◌}
use Rattle.std.specs.List.{list_any, flat_map, range_with_len}
use Rattle.std.specs.Option.{option_map_or}
use Rattle.std.proofs.lemmas.Bool.Decides.{nat_tests}
use Rattle.epic_num.proofs.ChainLaws.{AreKnown}
use Rattle.epic_num.specs.Chains.{Issue, name_of}
use Rattle.epic_num.specs.Same.{same_as, same_host, same_name}
use Rattle.epic_num.specs.declared.hop.HopName.{HopName}
use Rattle.epic_layout.specs.Contents.{Contents, hop_count}
use Rattle.epic_topo.specs.Network.{Network}
use Rattle.epic_audit.specs.Clauses.{is_sent_like}
use Rattle.epic_audit.specs.Verdicts.{is_named, source_of}
use Rattle.epic_ledger.specs.Facts.{Sent, as_send, facts_of, issues_in, packet_at, sent_issue, sent_name}
use Rattle.epic_ledger.specs.History.{History, Emission}
use Rattle.epic_ledger.specs.Lawful.{Fits}
use Rattle.epic_ledger.specs.Queries.{is_send_of}
use Rattle.epic_ledger.specs.declared.event.Event.{Event}
use Rattle.epic_ledger.specs.declared.event.Event.TheVariants as event
use Rattle.epic_index.specs.Events.{send_at}
use Rattle.epic_index.specs.Holding.{Held}
use Rattle.epic_index.specs.Indexes.{history_of, IsApart, IsIndexOf}
use Rattle.epic_index.specs.Numbered.{Numbered, AreRows, first_of}
use Rattle.epic_index.specs.Sources.{source_eq, source_key, source_keys_at, source_keys, source_rows}
use Rattle.epic_index.specs.Stepping.{at_step}
use Rattle.epic_index.specs.declared.sources.SourceKey.{SourceKey}
use Rattle.epic_index.proofs.Answering.{index_issues, index_sends}
use Rattle.epic_index.proofs.ByNumber.{any_flat, any_one, fact_at, fact_found}
use Rattle.epic_index.proofs.NameKeys.{name_matches, eq_flip, never, or_none}
use Rattle.epic_index.proofs.Sending.{send_stays, names_stay}
use Rattle.epic_index.proofs.Steps.{send_at_step}

in_order : (t a h f rest : Bool) → (t && (a && (h && (f && rest)))) ≡ (a && h && t && f && rest)
in_order t false h f rest = never t
in_order t true false f rest = never t
in_order true true true f rest = refl
in_order false true true f rest = refl

source_matches_at : (issues : List Issue) (p : Contents) (j : ℕ) (x : HopName) (s : Sent) (i : ℕ)
    → list_any (source_eq (source_key p j x)) (source_keys_at issues s i) ≡ (is_sent_like p s && (j == i && is_named x (sent_name issues s i)))
unfolding source_keys_at source_key is_sent_like is_send_of same_host same_as
source_matches_at issues p j x s i = by (sent_name issues s i)
  where
    by : (o : Option HopName) → list_any (source_eq (source_key p j x)) (option_map_or (λ y. source_key s.packet i y ∷ []) o []) ≡ (is_sent_like p s && (j == i && is_named x o))
    by None = sym (ap (λ (b : Bool). is_sent_like p s && b) (never (j == i)) ∙ never (is_sent_like p s))
    by (Some y) =
        or_none _
        ∙ (λ k.
        eq_flip p.ts s.packet.ts k
        && (eq_flip p.src.asn.0 s.packet.src.asn.0 k
        && (eq_flip p.src.host s.packet.src.host k && (eq_flip p.first s.packet.first k && (j == i && name_matches x y k)))))
        ∙ in_order (s.packet.ts == p.ts) (s.packet.src.asn.0 == p.src.asn.0) (s.packet.src.host == p.src.host) (s.packet.first == p.first) (j == i && same_name y x)

not_low : (j n : ℕ) → n ≤ j → nat_lt j n ≡ false
not_low j n h = grind (arith, nat_tests)

-- a packet has names at its hops alone
no_name_past : (issues : List Issue) (x : HopName) (s : Sent) (j : ℕ) → hop_count s.packet ≤ j → is_named x (sent_name issues s j) ≡ false
unfolding sent_name
no_name_past issues x s j h = ap (λ (b : Bool). is_named x (if b then name_of issues (sent_issue issues s j) else None)) (not_low j (hop_count s.packet) h)

source_matches : (issues : List Issue) (p : Contents) (j : ℕ) (x : HopName) (s : Sent)
    → list_any (source_eq (source_key p j x)) (source_keys issues s) ≡ (is_sent_like p s && is_named x (sent_name issues s j))
unfolding source_keys
source_matches issues p j x s =
    any_flat (source_eq (source_key p j x)) (source_keys_at issues s) (range_with_len 0 (hop_count s.packet))
    ∙ ap (λ (f : ℕ → Bool). list_any f (range_with_len 0 (hop_count s.packet))) (λ k i. source_matches_at issues p j x s i k)
    ∙ any_one (hop_count s.packet) j (is_sent_like p s) (λ i. is_named x (sent_name issues s i)) (no_name_past issues x s j)

source_found : (h : History) (rows : Numbered SourceKey) (p : Contents) (j : ℕ) (x : HopName) (key : SourceKey) (o : Option ℕ)
    → AreRows (source_rows h.emissions (issues_in h.events)) h.events rows → key ≡ source_key p j x
    → o ≡ first_of source_eq key rows → option_and_then (send_at h) o ≡ source_of (facts_of h) x p j
unfolding source_rows source_of send_at facts_of
source_found h rows p j x key o are k e =
    let test : Sent → Bool = λ s. is_sent_like p s && is_named x (sent_name (issues_in h.events) s j) in
    ap (option_and_then (λ n. option_and_then (as_send h.emissions) (slice_get h.events n)))
    (e
    ∙ ap (λ (c : SourceKey). first_of source_eq c rows) k
    ∙ fact_found (as_send h.emissions) (source_keys (issues_in h.events)) test (source_eq (source_key p j x)) h.events rows are (source_matches (issues_in h.events) p j x))
    ∙ fact_at (as_send h.emissions) test h.events

source_stepped : (h : History) (steps : List ℕ) (p : Contents) (j : ℕ) (x : HopName) → IsApart h steps
    → source_of (facts_of (history_of h steps)) x p j ≡ source_of (facts_of h) x p j
unfolding source_of
source_stepped h steps p j x i = rw (index_issues h steps i, index_sends h steps i)

pub index_source : (t : Network) (h : History) (steps : List ℕ) (held : Held) (p : Contents) (j : ℕ) (x : HopName) (key : SourceKey) (o result : Option ℕ) → IsIndexOf t h steps held
    → key ≡ source_key p j x → o ≡ first_of source_eq key held.sources
    → result ≡ option_map (λ s. s.emission) (option_and_then (send_at h) o)
    → result ≡ option_map (λ s. s.emission) (source_of (facts_of (history_of h steps)) x p j)
index_source t h steps held p j x key o result i k e is =
    is
    ∙ ap (option_map (λ (s : Sent). s.emission)) (source_found h held.sources p j x key o i.held_is.sources k e ∙ sym (source_stepped h steps p j x i.apart))

-- ---- growth

pub source_at_step : (es : List Emission) (issues : List Issue) (s : ℕ) (e : Event) → source_rows es issues (at_step s e) ≡ source_rows es issues e
unfolding source_rows
source_at_step es issues s e = ap (λ (o : Option Sent). option_map_or (source_keys issues) o []) (send_at_step es s e)

pub source_among : (es more : List Emission) (before issues : List Issue) (e : Event) → Fits es before e → source_rows es issues e ≡ source_rows (es ++ more) issues e
unfolding source_rows
source_among es more before issues e h = ap (λ (o : Option Sent). option_map_or (source_keys issues) o []) (send_stays es more before e h)

pub source_stays : (es : List Emission) (before issues more : List Issue) (e : Event) → Fits es before e → length before ≤ length issues → AreKnown issues
    → source_rows es issues e ≡ source_rows es (issues ++ more) e
unfolding source_rows as_send source_keys source_keys_at
source_stays es before issues more (event.Issue step number name parent) h few known = refl
source_stays es before issues more (event.Fetch step source owner epoch) h few known = refl
source_stays es before issues more (event.Send step emission segments) h few known =
    ap (λ (names : ℕ → Option HopName).
    let p = packet_at es emission in
    flat_map (λ j. option_map_or (λ x. source_key p j x ∷ []) (names j) []) (range_with_len 0 (hop_count p)))
    (λ k j. names_stay es before issues more emission segments.items (packet_at es emission) j h few known k)
source_stays es before issues more (event.Pass step a hop generation emission) h few known = refl
source_stays es before issues more (event.Arrive step host src ts hops checked) h few known = refl
source_stays es before issues more (event.Reveal step holder) h few known = refl
source_stays es before issues more (event.Roll step a generation) h few known = refl
