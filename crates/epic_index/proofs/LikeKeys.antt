-- A sent packet is found by what makes it like another.
use Rattle.std.proofs.Common.{◌≡◌, ℕ, ◌++◌, Bool, true, false, List, [], Option, find, refl, sym, ap, ◌∙◌}
use Rattle.std.specs.Prelude.{option_and_then, slice_get, ◌&&◌, ◌==◌}
use Rattle.std.specs.List.{list_any}
use Rattle.std.specs.Option.{option_map_or}
use Rattle.epic_num.specs.Chains.{Issue}
use Rattle.epic_num.specs.Same.{same_as, same_host}
use Rattle.epic_num.specs.declared.hop.HopName.{HopName}
use Rattle.epic_layout.specs.Contents.{Contents}
use Rattle.epic_topo.specs.Network.{Network}
use Rattle.epic_audit.specs.Clauses.{is_sent_like}
use Rattle.epic_ledger.specs.Facts.{Sent, as_send, facts_of, sent_name}
use Rattle.epic_ledger.specs.History.{History, Emission}
use Rattle.epic_ledger.specs.Lawful.{Fits}
use Rattle.epic_ledger.specs.Queries.{is_send_of}
use Rattle.epic_ledger.specs.declared.event.Event.{Event}
use Rattle.epic_index.specs.Events.{send_at}
use Rattle.epic_index.specs.Holding.{Held}
use Rattle.epic_index.specs.Indexes.{history_of, IsIndexOf}
use Rattle.epic_index.specs.Likes.{like_key, like_eq, like_keys, like_rows}
use Rattle.epic_index.specs.Numbered.{Numbered, AreRows, first_of}
use Rattle.epic_index.specs.Stepping.{at_step}
use Rattle.epic_index.specs.declared.likes.LikeKey.{LikeKey}
use Rattle.epic_index.proofs.Answering.{index_issues, index_sends}
use Rattle.epic_index.proofs.ByNumber.{fact_at, fact_found}
use Rattle.epic_index.proofs.NameKeys.{eq_flip, never, or_none}
use Rattle.epic_index.proofs.Sending.{send_stays}
use Rattle.epic_index.proofs.Steps.{send_at_step}

in_order : (t a h f : Bool) → (t && (a && (h && f))) ≡ (a && h && t && f)
in_order t false h f = never t
in_order t true false f = never t
in_order true true true f = refl
in_order false true true f = refl

like_matches : (p : Contents) (s : Sent) → list_any (like_eq (like_key p)) (like_keys s) ≡ is_sent_like p s
unfolding like_key is_sent_like is_send_of same_host same_as
like_matches p s =
    or_none _
    ∙ (λ k.
    eq_flip p.ts s.packet.ts k
    && (eq_flip p.src.asn.0 s.packet.src.asn.0 k && (eq_flip p.src.host s.packet.src.host k && eq_flip p.first s.packet.first k)))
    ∙ in_order (s.packet.ts == p.ts) (s.packet.src.asn.0 == p.src.asn.0) (s.packet.src.host == p.src.host) (s.packet.first == p.first)

like_found : (h : History) (rows : Numbered LikeKey) (p : Contents) (key : LikeKey) (o : Option ℕ) → AreRows (like_rows h.emissions) h.events rows → key ≡ like_key p
    → o ≡ first_of like_eq key rows → option_and_then (send_at h) o ≡ find (is_sent_like p) (facts_of h).sends
unfolding like_rows send_at facts_of
like_found h rows p key o are k e =
    ap (option_and_then (λ n. option_and_then (as_send h.emissions) (slice_get h.events n)))
    (e
    ∙ ap (λ (c : LikeKey). first_of like_eq c rows) k
    ∙ fact_found (as_send h.emissions) like_keys (is_sent_like p) (like_eq (like_key p)) h.events rows are (like_matches p))
    ∙ fact_at (as_send h.emissions) (is_sent_like p) h.events

pub index_like : (t : Network) (h : History) (steps : List ℕ) (held : Held) (p : Contents) (j : ℕ) (key : LikeKey) (o : Option ℕ) (result : Option HopName) → IsIndexOf t h steps held
    → key ≡ like_key p → o ≡ first_of like_eq key held.likes
    → result ≡ option_and_then (λ s. sent_name (facts_of h).issues s j) (option_and_then (send_at h) o)
    → result ≡ option_and_then (λ s. sent_name (facts_of (history_of h steps)).issues s j) (find (is_sent_like p) (facts_of (history_of h steps)).sends)
index_like t h steps held p j key o result i k e is =
    is
    ∙ ap (option_and_then (λ s. sent_name (facts_of h).issues s j)) (like_found h held.likes p key o i.held_is.likes k e)
    ∙ sym (rw (index_issues h steps i.apart, index_sends h steps i.apart) refl)

-- ---- growth

pub like_at_step : (es : List Emission) (s : ℕ) (e : Event) → like_rows es (at_step s e) ≡ like_rows es e
unfolding like_rows
like_at_step es s e = ap (λ (o : Option Sent). option_map_or like_keys o []) (send_at_step es s e)

pub like_among : (es more : List Emission) (before : List Issue) (e : Event) → Fits es before e → like_rows es e ≡ like_rows (es ++ more) e
unfolding like_rows
like_among es more before e h = ap (λ (o : Option Sent). option_map_or like_keys o []) (send_stays es more before e h)
