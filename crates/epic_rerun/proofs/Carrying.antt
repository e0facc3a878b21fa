-- What passages tell, one after the other.
use Rattle.std.proofs.Common.{◌≡◌, ℕ, zero, suc, ◌+◌, ◌<◌, ◌^◌, List, [], ◌∷◌, ◌++◌, Option, None, Some, refl, sym, ap, subst, arith}
use Rattle.std.specs.Prelude.{◌==◌, flat_map, if◌then◌else◌, ⊤}
use Rattle.std.specs.Option.{option_map_or}
use Rattle.std.proofs.lemmas.Bool.{cond_both, eq-eqb}
use Rattle.epic_num.specs.declared.passed.PassResult.TheVariants.{Full}
use Rattle.epic_num.specs.declared.passed.Place.{Place}
use Rattle.epic_num.specs.declared.passed.Place.TheVariants.{Host, Router}
use Rattle.epic_num.specs.declared.verdict.Verdict.{Verdict}
use Rattle.epic_num.specs.Messages.{IsHost}
use Rattle.epic_layout.specs.Contents.{IsBytes}
use Rattle.epic_layout.proofs.OneSpelling.{bytes_are_read}
use Rattle.epic_topo.specs.Lawful.{IsTopology}
use Rattle.epic_topo.specs.Network.{Network}
use Rattle.epic_ledger.specs.History.{Emission, History, emission_at}
use Rattle.epic_model.specs.Keeping.{Inv, IsDue}
use Rattle.epic_model.specs.Passing.{Happened, carried, last_history, nothing, pass_at, passed_on}
use Rattle.epic_model.specs.Steps.{passages_of}
use Rattle.epic_model.specs.Traces.{Passage}
use Rattle.epic_model.proofs.InvKept.{inv_passes}
use Rattle.epic_record.specs.declared.item.Item.{Item}
use Rattle.epic_record.specs.Passing.{pass_items}
use Rattle.epic_reread.specs.Fitting.{HeldVerdictsFit, OtherHopsAreThere, VerdictsCanBeTold}
use Rattle.epic_reread.specs.LedgerFitting.{PlaceFits}
use Rattle.epic_rerun.specs.Ledgers.{passage_items}
use Rattle.epic_rerun.proofs.Arriving.{arrived_told}
use Rattle.epic_rerun.proofs.Counting.{Counted, few_events, few_packets, later, passage_adds}
use Rattle.epic_rerun.proofs.Fitted.{EmissionFits, Fitted, emission_all, fitted_after}
use Rattle.epic_rerun.proofs.Lines.{AreLined, none_lined, one_lined}
use Rattle.epic_rerun.proofs.Placing.{Told, told_both, told_none}
use Rattle.epic_rerun.proofs.Turning.{turned_told}

-- the verdicts of passages
abbrev pub verdicts_of : List Passage → List Verdict
verdicts_of passages = flat_map (λ x. x.happened.verdicts) passages

-- a passage's place in a ledger
abbrev pub passage : History → Emission → Happened → Passage
passage h x d = record { before = h; place = x.place; came = x.bytes; happened = d }

-- where a packet ends, the host fits its types
abbrev pub EndFits : Place → Type 0
EndFits (Router a iface) = ⊤
EndFits (Host d) = IsHost d

pub end_fits : (place : Place) → PlaceFits place → EndFits place
end_fits (Router a iface) fits = tt
end_fits (Host d) fits = fits

module _ (t : Network) (topology : IsTopology t) (fit : HeldVerdictsFit) (others : OtherHopsAreThere) (tell : VerdictsCanBeTold)
    (step now n : ℕ) (early : step < 2 ^ 32) (small : n < 2 ^ 30) where
  -- what becomes of bytes at a place
  pub pass_told : (h : History) (place : Place) (bytes : List ℕ) → IsDue t place → EndFits place → IsBytes bytes
      → Inv t h now step → Fitted h → Counted n h
      → (let d = pass_at t step now h place bytes in Told t h (pass_items h place bytes d.result d.history) d.verdicts d.history)
  unfolding pass_at
  pass_told h (Router a iface) bytes due place_fits are inv fitted c =
      let few = few_packets n h inv.sound.lawful c in
      turned_told t topology fit others tell step now h bytes are inv fitted (few_events n h inv.sound.lawful c small) (omega (arith, few)) early a iface due
      (inv_passes t h now step (Router a iface) bytes topology due (bytes_are_read bytes are) inv)
  pass_told h (Host d) bytes due place_fits are inv fitted c =
      arrived_told t topology fit others tell step now h bytes are inv fitted (few_events n h inv.sound.lawful c small) early d due place_fits

  -- a ledger's parts go on to fit
  pub told_fitted : (h g : History) (told : List Item) (vs : List Verdict) → Fitted h → Told t h told vs g → Fitted g
  told_fitted h g told vs fitted a = subst Fitted a.ends (fitted_after h told a.fits fitted)

  -- ---- carries

  pub record CarryTold (h : History) (number : ℕ) (ds : List Happened) : Type 0 where
    pub told : Told t h (flat_map passage_items (passages_of h number ds)) (verdicts_of (passages_of h number ds)) (last_history h ds)
    pub lined : AreLined t (passages_of h number ds)
    pub counted : Counted (n + 1) (last_history h ds)

  none_carried : (h : History) (number : ℕ) → Counted (n + 1) h → CarryTold h number []
  unfolding passages_of
  none_carried h number c = record { told = told_none t h; lined = none_lined t; counted = c }

  no_passages : (h : History) (number : ℕ) (d : Happened) → emission_at h.emissions number ≡ None → passages_of h number (d ∷ []) ≡ []
  unfolding passages_of
  no_passages h number d none = ap (λ o. option_map_or (λ e. passage h e d ∷ []) o [] ++ []) none

  pub passages_are : (h : History) (number : ℕ) (x : Emission) (d : Happened) (ds : List Happened) → emission_at h.emissions number ≡ Some x
      → passages_of h number (d ∷ ds) ≡ passage h x d ∷ passages_of d.history d.emission ds
  unfolding passages_of
  passages_are h number x d ds there =
      ap (λ o. option_map_or (λ e. passage h e d ∷ []) o [] ++ passages_of d.history d.emission ds) there

  missing_carried : (h : History) (number : ℕ) → emission_at h.emissions number ≡ None → Counted n h → CarryTold h number (nothing h Full ∷ [])
  missing_carried h number none c = record {
    told = subst (λ xs. Told t h (flat_map passage_items xs) (verdicts_of xs) h) (sym (no_passages h number (nothing h Full) none)) (told_none t h);
    lined = subst (AreLined t) (sym (no_passages h number (nothing h Full) none)) (none_lined t);
    counted = later n h c;
  }

  one_carried : (h : History) (number : ℕ) (x : Emission) (d : Happened) (ds : List Happened) → emission_at h.emissions number ≡ Some x
      → Told t h (pass_items h x.place x.bytes d.result d.history) d.verdicts d.history → CarryTold d.history d.emission ds
      → CarryTold h number (d ∷ ds)
  one_carried h number x d ds there told rest =
      let more = passages_of d.history d.emission ds in
      record {
        told = subst (λ xs. Told t h (flat_map passage_items xs) (verdicts_of xs) (last_history d.history ds)) (sym (passages_are h number x d ds there))
            (told_both t h d.history (last_history d.history ds) (pass_items h x.place x.bytes d.result d.history) (flat_map passage_items more) d.verdicts (verdicts_of more) told rest.told);
        lined = subst (AreLined t) (sym (passages_are h number x d ds there)) (one_lined t h d.history (passage h x d) more told rest.lined);
        counted = rest.counted;
      }

  pub all_carried : (most : ℕ) (h : History) (number : ℕ) → Inv t h now step → Fitted h → Counted n h → CarryTold h number (carried t step now most h number)
  unfolding carried passed_on
  all_carried zero h number inv fitted c = none_carried h number (later n h c)
  all_carried (suc most) h number inv fitted c =
      by (emission_at h.emissions number) refl (λ g after kept g_fitted g_c. all_carried most g after kept g_fitted g_c)
    where
      by : (o : Option Emission) → emission_at h.emissions number ≡ o
          → ((g : History) (after : ℕ) → Inv t g now step → Fitted g → Counted n g → CarryTold g after (carried t step now most g after))
          → (let d = option_map_or (λ e. pass_at t step now h e.place e.bytes) o (nothing h Full) in
          CarryTold h number (d ∷ (if d.emission == 0 then [] else carried t step now most d.history d.emission)))
      by None e again = missing_carried h number e c
      by (Some x) e again =
          let due = emission_all (λ k. IsDue t k.place) h.emissions inv.places number x e in
          let own = emission_all EmissionFits h.emissions fitted.emissions number x e in
          let d = pass_at t step now h x.place x.bytes in
          let read = bytes_are_read x.bytes own.1 in
          let adds = passage_adds t step now n h x.place x.bytes read c in
          let told = pass_told h x.place x.bytes due (end_fits x.place own.0) own.1 inv fitted c in
          one_carried h number x d _ e told
          (cond_both (d.emission == 0) [] (carried t step now most d.history d.emission) (CarryTold d.history d.emission)
          (λ _. none_carried d.history d.emission adds.more)
          (λ some. again d.history d.emission (inv_passes t h now step x.place x.bytes topology due read inv)
          (told_fitted h d.history (pass_items h x.place x.bytes d.result d.history) d.verdicts fitted told)
          (adds.onward (λ z. (let y = eq-eqb d.emission 0 z in absurd (cc))))))
