-- A reveal is found by its key.
use Rattle.std.proofs.Common.{◌≡◌, ℕ, Bool, true, false, List, [], ◌∷◌, ◌++◌, Option, refl, sym, ap, ◌∙◌}
use Rattle.std.proofs.lemmas.List.{map-append}
use Rattle.std.specs.Prelude.{position, is_some, map, ◌&&◌, ◌==◌}
use Rattle.std.specs.List.{list_any}
use Rattle.std.proofs.lemmas.List.Elements.{filter_map-append}
use Rattle.epic_num.specs.Same.{same_holder, same_host, same_as}
use Rattle.epic_num.specs.declared.key_name.Holder.{Holder}
use Rattle.epic_num.specs.declared.key_name.Holder.TheVariants.{As, Host}
use Rattle.epic_ledger.proofs.Logging.{position-map}
use Rattle.epic_ledger.specs.Facts.{Reveal, as_reveal, reveals_in, facts_of}
use Rattle.epic_ledger.specs.History.{History, step_of}
use Rattle.epic_ledger.specs.declared.event.Event.{Event}
use Rattle.epic_judging.specs.Given.{is_revealed_at}
use Rattle.epic_index.specs.Holding.{Held}
use Rattle.epic_index.specs.Indexes.{history_of, IsApart, IsIndexOf}
use Rattle.epic_index.specs.Keys.{holder_key, reveal_eq, reveal_key}
use Rattle.epic_index.specs.Stepping.{at_step, stepped}
use Rattle.epic_index.specs.declared.reveals.RevealKey.{RevealKey}
use Rattle.epic_topo.specs.Network.{Network}
use Rattle.epic_index.proofs.ByNumber.{some_place}
use Rattle.epic_index.proofs.NameKeys.{eq_flip, never}
use Rattle.epic_index.proofs.Steps.{history_push}

turned_as : (s a : Bool) → (s && (true && (a && true))) ≡ (a && s)
turned_as true true = refl
turned_as true false = refl
turned_as false true = refl
turned_as false false = refl

turned_host : (s a h : Bool) → (s && (true && (a && h))) ≡ ((a && h) && s)
turned_host true true true = refl
turned_host true true false = refl
turned_host true false h = refl
turned_host false true true = refl
turned_host false true false = refl
turned_host false false h = refl

holder_matches : (h k : Holder) (m n : ℕ) → reveal_eq (holder_key n h) (holder_key m k) ≡ (same_holder k h && m == n)
unfolding same_holder same_host same_as
holder_matches (As a) (As b) m n = rw (eq_flip n m, eq_flip a.0 b.0) (turned_as (m == n) (b.0 == a.0))
holder_matches (Host h) (Host k) m n =
    rw (eq_flip n m, eq_flip h.asn.0 k.asn.0, eq_flip h.host k.host) (turned_host (m == n) (k.asn.0 == h.asn.0) (k.host == h.host))
holder_matches (As a) (Host k) m n = never (n == m)
holder_matches (Host h) (As b) m n = never (n == m)

key_matches : (r : Reveal) (h : Holder) (step : ℕ) → reveal_eq (reveal_key (record { step = step; holder = h })) (reveal_key r) ≡ (same_holder r.holder h && r.step == step)
unfolding reveal_key
key_matches r h step = holder_matches h r.holder r.step step

any_same : {X : Type 0} (p q : X → Bool) (xs : List X) → ((x : X) → p x ≡ q x) → list_any p xs ≡ list_any q xs
any_same {X} p q xs e = ap (λ (f : X → Bool). list_any f xs) (λ i x. e x i)

reveal_found : (reveals : List Reveal) (keys : List RevealKey) (h : Holder) (step : ℕ) (key : RevealKey) (o : Option ℕ) → keys ≡ map reveal_key reveals → key ≡ reveal_key (record { step = step; holder = h }) → o ≡ position (reveal_eq key) keys → is_some o ≡ is_revealed_at reveals step h
unfolding is_revealed_at
reveal_found reveals keys h step key o e k f =
    ap is_some (f ∙ rw (e, k) (position-map (reveal_eq (reveal_key (record { step = step; holder = h }))) reveal_key reveals))
    ∙ some_place _ reveals
    ∙ any_same _ _ reveals (λ r. key_matches r h step)

-- one event more
pub revealed_push : (h : History) (steps : List ℕ) (e : Event) (keys : List RevealKey) → IsApart h steps → keys ≡ map reveal_key (reveals_in (stepped steps h.events)) → keys ++ map reveal_key (reveals_in (e ∷ [])) ≡ map reveal_key (reveals_in (stepped (steps ++ step_of e ∷ []) (h.events ++ at_step 0 e ∷ [])))
revealed_push h steps e keys i k =
    rw (k, history_push h steps e i, filter_map-append as_reveal (stepped steps h.events) (e ∷ [])) (sym (map-append reveal_key (reveals_in (stepped steps h.events)) (reveals_in (e ∷ []))))

pub index_revealed_at : (t : Network) (h : History) (steps : List ℕ) (held : Held) (x : Holder) (step : ℕ) (key : RevealKey) (o : Option ℕ) → IsIndexOf t h steps held → key ≡ reveal_key (record { step = step; holder = x }) → o ≡ position (reveal_eq key) held.reveals → is_some o ≡ is_revealed_at (facts_of (history_of h steps)).reveals step x
unfolding facts_of
index_revealed_at t h steps held x step key o i k f =
    reveal_found (reveals_in (stepped steps h.events)) held.reveals x step key o i.held_is.revealed k f
