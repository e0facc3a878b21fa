-- An accepted hop is found by its key.
use Rattle.std.proofs.Common.{◌≡◌, ℕ, ◌++◌, Bool, true, false, List, [], Option, bytes_eq, refl, sym, ap, ◌∙◌}
use Rattle.std.specs.Prelude.{option_map, option_and_then, slice_get, ◌&&◌, ◌==◌}
use Rattle.std.specs.List.{list_any}
use Rattle.std.specs.Option.{option_map_or}
use Rattle.epic_num.specs.Chains.{Issue}
use Rattle.epic_num.specs.Same.{same_as, same_host}
use Rattle.epic_num.specs.declared.hop.HopName.{HopName}
use Rattle.epic_layout.specs.Contents.{Contents}
use Rattle.epic_topo.specs.Network.{Network}
use Rattle.epic_fields.specs.Tags.{sigma}
use Rattle.epic_audit.specs.Verdicts.{is_twin, is_twin_pass, twin_pass}
use Rattle.epic_audit.specs.declared.uncovered.Uncovered.{Uncovered}
use Rattle.epic_ledger.specs.Facts.{Pass, as_pass, facts_of, pass_name}
use Rattle.epic_ledger.specs.History.{History, Emission}
use Rattle.epic_ledger.specs.Lawful.{Fits}
use Rattle.epic_ledger.specs.declared.event.Event.{Event}
use Rattle.epic_index.specs.Events.{pass_at}
use Rattle.epic_index.specs.Holding.{Held}
use Rattle.epic_index.specs.Indexes.{history_of, IsApart, IsIndexOf}
use Rattle.epic_index.specs.Numbered.{Numbered, AreRows, first_of}
use Rattle.epic_index.specs.Passes.{pass_key, pass_eq, pass_keys, pass_rows}
use Rattle.epic_index.specs.Stepping.{at_step}
use Rattle.epic_index.specs.declared.passes.PassKey.{PassKey}
use Rattle.epic_index.proofs.Answering.{index_passes}
use Rattle.epic_index.proofs.ByNumber.{fact_at, fact_found}
use Rattle.epic_index.proofs.NameKeys.{eq_flip, bytes_flip, or_none}
use Rattle.epic_index.proofs.Sending.{pass_stays}
use Rattle.epic_index.proofs.Steps.{pass_at_step}

in_order : (t s h f j twin : Bool) → (t && (s && (h && (f && (j && twin))))) ≡ (j && t && f && (s && h) && twin)
in_order false s h f true twin = refl
in_order false s h f false twin = refl
in_order true false h false true twin = refl
in_order true false h true true twin = refl
in_order true false h f false twin = refl
in_order true true false false true twin = refl
in_order true true false true true twin = refl
in_order true true false f false twin = refl
in_order true true true false true twin = refl
in_order true true true true true twin = refl
in_order true true true false false twin = refl
in_order true true true true false twin = refl

pass_matches : (t : Network) (p : Contents) (u : Uncovered) (w : Pass) → list_any (pass_eq (pass_key t p u.hop u.name)) (pass_keys t w) ≡ is_twin_pass t p u w
unfolding pass_key is_twin_pass is_twin same_host same_as
pass_matches t p u w =
    or_none _
    ∙ (λ k.
    eq_flip p.ts w.packet.ts k
    && (eq_flip p.src.asn.0 w.packet.src.asn.0 k
    && (eq_flip p.src.host w.packet.src.host k
    && (eq_flip p.first w.packet.first k
    && (eq_flip u.hop w.hop k
    && (eq_flip u.name.asn.0 (pass_name w).asn.0 k && bytes_flip (sigma t u.name) (sigma t (pass_name w)) k))))))
    ∙ in_order (w.packet.ts == p.ts) (w.packet.src.asn.0 == p.src.asn.0) (w.packet.src.host == p.src.host) (w.packet.first == p.first) (w.hop == u.hop)
    ((pass_name w).asn.0 == u.name.asn.0 && bytes_eq (sigma t (pass_name w)) (sigma t u.name))

pass_found : (t : Network) (h : History) (rows : Numbered PassKey) (p : Contents) (u : Uncovered) (key : PassKey) (o : Option ℕ) → AreRows (pass_rows t h.emissions) h.events rows
    → key ≡ pass_key t p u.hop u.name → o ≡ first_of pass_eq key rows → option_map pass_name (option_and_then (pass_at h) o) ≡ twin_pass t (facts_of h) p u
unfolding pass_rows pass_at twin_pass facts_of
pass_found t h rows p u key o are k e =
    ap (option_map pass_name)
    (ap (option_and_then (λ n. option_and_then (as_pass h.emissions) (slice_get h.events n)))
    (e
    ∙ ap (λ (c : PassKey). first_of pass_eq c rows) k
    ∙ fact_found (as_pass h.emissions) (pass_keys t) (is_twin_pass t p u) (pass_eq (pass_key t p u.hop u.name)) h.events rows are (pass_matches t p u))
    ∙ fact_at (as_pass h.emissions) (is_twin_pass t p u) h.events)

pass_stepped : (t : Network) (h : History) (steps : List ℕ) (p : Contents) (u : Uncovered) → IsApart h steps → twin_pass t (facts_of (history_of h steps)) p u ≡ twin_pass t (facts_of h) p u
unfolding twin_pass
pass_stepped t h steps p u i = rw (index_passes h steps i)

pub index_pass : (t : Network) (h : History) (steps : List ℕ) (held : Held) (p : Contents) (j : ℕ) (x : HopName) (key : PassKey) (o : Option ℕ) (result : Option HopName) → IsIndexOf t h steps held
    → key ≡ pass_key t p j x → o ≡ first_of pass_eq key held.passes → result ≡ option_map pass_name (option_and_then (pass_at h) o)
    → result ≡ twin_pass t (facts_of (history_of h steps)) p (record { hop = j; name = x })
index_pass t h steps held p j x key o result i k e is =
    let u : Uncovered = record { hop = j; name = x } in
    is ∙ pass_found t h held.passes p u key o i.held_is.passes k e ∙ sym (pass_stepped t h steps p u i.apart)

-- ---- growth

pub pass_row_at_step : (t : Network) (es : List Emission) (s : ℕ) (e : Event) → pass_rows t es (at_step s e) ≡ pass_rows t es e
unfolding pass_rows
pass_row_at_step t es s e = ap (λ (o : Option Pass). option_map_or (pass_keys t) o []) (pass_at_step es s e)

pub pass_among : (t : Network) (es more : List Emission) (before : List Issue) (e : Event) → Fits es before e → pass_rows t es e ≡ pass_rows t (es ++ more) e
unfolding pass_rows
pass_among t es more before e h = ap (λ (o : Option Pass). option_map_or (pass_keys t) o []) (pass_stays es more before e h)
