-- What is kept as events and packets are recorded one after the other, in the words of a ledger's calls.
use Rattle.std.proofs.Common.{◌≡◌, ◌+◌, List, [], ◌∷◌, ◌++◌, length, refl, ap, sym, ◌∙◌, subst, add-one}
use Rattle.std.specs.Prelude.{Option, Some, IsSome, slice_get, is_some}
use Rattle.std.specs.Option.{option_map_or}
use Rattle.epic_layout.specs.Layout.{parse}
use Rattle.epic_topo.specs.Network.{Network}
use Rattle.epic_ledger.specs.History.{History, Emission, emission_at}
use Rattle.epic_ledger.specs.Facts.{issues_in, packet_at, facts_of}
use Rattle.epic_ledger.specs.Lawful.{Fits, IsLawful}
use Rattle.epic_ledger.specs.declared.event.Event.{Event}
use Rattle.epic_ledger.proofs.Growing.{emission_at-suc}
use Rattle.epic_audit.specs.Events.{EventFits}
use Rattle.epic_ledger.specs.OneMore.{with_event, with_emission}
use Rattle.epic_audit.specs.Kept.{Kept}
use Rattle.epic_audit.proofs.Growth.{emissions_add_nothing}
use Rattle.epic_audit.proofs.Keeping.{events_keep}

same_history : (h k : History) → h.events ≡ k.events → h.emissions ≡ k.emissions → h ≡ k
same_history h k a b i = record { events = a i; emissions = b i }

-- after `push`
pub push_keeps : (t : Network) (old new : History) (e : Event) → new.events ≡ old.events ++ e ∷ [] → new.emissions ≡ old.emissions
    → IsLawful old → Kept t (facts_of old) → Fits old.emissions (issues_in old.events) e → EventFits t old e
    → Kept t (facts_of new)
push_keeps t old new e events emissions lawful kept there fits =
    subst (λ (h : History). Kept t (facts_of h)) (sym (same_history new (with_event old e) events emissions))
    (events_keep t old e lawful kept there fits)

-- after `emit`
pub emit_keeps : (t : Network) (old new : History) (x : Emission) → new.events ≡ old.events → new.emissions ≡ old.emissions ++ x ∷ []
    → IsLawful old → Kept t (facts_of old)
    → Kept t (facts_of new)
emit_keeps t old new x events emissions lawful kept =
    subst (λ (h : History). Kept t (facts_of h)) (sym (same_history new (with_emission old x) events emissions))
    (subst (Kept t) (sym (emissions_add_nothing old x lawful)) kept)

-- the emission that was recorded last
pub newest : (es : List Emission) (x : Emission) → emission_at (es ++ x ∷ []) (length es + 1) ≡ Some x
newest es x = ap (emission_at (es ++ x ∷ [])) (add-one (length es)) ∙ (emission_at-suc (es ++ x ∷ []) (length es) ∙ at_seam es x)
  where
    at_seam : (xs : List Emission) (y : Emission) → slice_get (xs ++ y ∷ []) (length xs) ≡ Some y
    at_seam [] y = refl
    at_seam (z ∷ xs) y = at_seam xs y

pub newest_there : (es : List Emission) (x : Emission) → IsSome (emission_at (es ++ x ∷ []) (length es + 1))
newest_there es x = ap (λ (o : Option Emission). is_some o) (newest es x)

pub newest_packet : (es : List Emission) (x : Emission) → packet_at (es ++ x ∷ []) (length es + 1) ≡ parse x.bytes
unfolding packet_at
newest_packet es x = ap (λ (o : Option Emission). parse (option_map_or (λ e. e.bytes) o [])) (newest es x)
