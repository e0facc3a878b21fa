-- A ledger with the passes of a turn at its end, and the emission that it made.
use Rattle.std.proofs.Common.{◌≡◌, ℕ, zero, suc, ◌+◌, ◌<◌, List, [], ◌∷◌, ◌++◌, length, Option, None, Some, refl, ap, sym, subst, ◌∙◌, arith, add-one}
use Rattle.std.specs.Prelude.{◌&&◌, slice_get, if◌then◌else◌}
use Rattle.std.specs.Option.{option_map_or}
use Rattle.epic_num.specs.Chains.{Issue}
use Rattle.epic_num.specs.declared.name.AsId.{AsId}
use Rattle.epic_num.specs.Levels.{is_timed}
use Rattle.epic_num.specs.Same.{same_as}
use Rattle.epic_layout.specs.Contents.{Contents, IsPacket}
use Rattle.epic_layout.specs.Layout.{parse}
use Rattle.epic_layout.specs.Spelling.{spelling}
use Rattle.epic_layout.proofs.OneSpelling.{packets_are_spelled}
use Rattle.epic_router.specs.Checks.{is_turn}
use Rattle.epic_ledger.specs.History.{Emission, emission_at}
use Rattle.epic_ledger.specs.Facts.{packet_at}
use Rattle.epic_ledger.specs.Lawful.{Fits}
use Rattle.epic_ledger.specs.declared.event.Event.{Event}
use Rattle.epic_ledger.specs.declared.event.Event.TheVariants as event
use Rattle.epic_ledger.proofs.Growing.{emission_at-suc, packet_at-append}
use Rattle.epic_model.specs.Passing.{passes_from}
use Rattle.epic_model.specs.Windows.{router_entry}
use Rattle.epic_router.specs.Remembering.{key_at}

-- what a packet's one spelling says is the packet
pub parse-spelling : (p : Contents) → IsPacket p → parse (spelling p) ≡ p
parse-spelling p ip = (packets_are_spelled p ip).says

-- ---- the last emission

seam : {A : Type 0} (xs : List A) (x : A) → slice_get (xs ++ x ∷ []) (length xs) ≡ Some x
seam [] x = refl
seam (y ∷ xs) x = seam xs x

pub emission_next : (es : List Emission) (x : Emission) → emission_at (es ++ x ∷ []) (length es + 1) ≡ Some x
emission_next es x = rw add-one (emission_at-suc (es ++ x ∷ []) (length es) ∙ seam es x)

pub packet_next : (es : List Emission) (x : Emission) → packet_at (es ++ x ∷ []) (length es + 1) ≡ parse x.bytes
unfolding packet_at
packet_next es x = ap (λ (o : Option Emission). parse (option_map_or (λ e. e.bytes) o [])) (emission_next es x)

-- ---- passes

-- the passes from hop j on are of hops from j on
pub passes_at : (step : ℕ) (a : AsId) (number j : ℕ) (gs : List ℕ) (n : ℕ) (e : Event) → slice_get (passes_from step a number j gs) n ≡ Some e
    → (n < length gs) × ((g : ℕ) × (e ≡ event.Pass step a (j + n) g number))
passes_at step a number j [] n e at = absurd (cc)
passes_at step a number j (g ∷ gs) zero e at =
    let same : j + 0 ≡ j = omega arith in
    (omega arith, (g, subst (λ k. e ≡ event.Pass step a k g number) (sym same) cc))
passes_at step a number j (g ∷ gs) (suc n) e at =
    let rest = passes_at step a number (j + 1) gs n e at in
    let same : j + 1 + n ≡ j + suc n = omega arith in
    (omega (arith, rest.0), (rest.1.0, subst (λ k. e ≡ event.Pass step a k rest.1.0 number) same rest.1.1))

-- ---- what is remembered of earlier events

-- an event that names what is there says the same to a router among more emissions
pub entry_stays : (es more : List Emission) (a : AsId) (issues : List Issue) (e : Event) → Fits es issues e → router_entry (es ++ more) a e ≡ router_entry es a e
unfolding router_entry
entry_stays es more a issues (event.Issue step number name parent) h = refl
entry_stays es more a issues (event.Fetch step source owner epoch) h = refl
entry_stays es more a issues (event.Send step emission segments) h = refl
entry_stays es more a issues (event.Pass step b hop generation emission) h =
    ap (λ (p : Contents). if same_as b a && is_timed p.first && is_turn p hop then Some (key_at p hop, step) else None)
    (packet_at-append es more emission h.there)
entry_stays es more a issues (event.Arrive step host src ts hops checked) h = refl
entry_stays es more a issues (event.Reveal step holder) h = refl
entry_stays es more a issues (event.Roll step b generation) h = refl
