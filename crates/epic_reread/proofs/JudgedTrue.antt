-- Verdicts that hold are judged true.
use Rattle.std.proofs.Common.{◌≡◌, zero, suc, List, [], ◌∷◌, ◌++◌, length, map, refl, sym, ap, subst, ◌∙◌, arith, Ok}
use Rattle.std.proofs.lemmas.Option.{same_Some}
use Rattle.epic_num.specs.declared.verdict.Verdict.{Verdict}
use Rattle.epic_topo.specs.Network.{Network}
use Rattle.epic_ledger.specs.Facts.{Facts}
use Rattle.epic_record.specs.declared.item.Item.{Item}
use Rattle.epic_record.specs.declared.item.Item.TheVariants.{Event, Emission, AcceptHop, AcceptDest}
use Rattle.epic_record.specs.VerdictLines.{Acceptance, accepted_by, acceptances, verdict_text}
use Rattle.epic_judging.specs.declared.judged.Judged.TheVariants.{Yes}
use Rattle.epic_judging.specs.Judgment.{AllTrue, Claim, IsAnswer, IsTrueClaim, accepted_after, claims, claims_in, with_ledger, with_verdicts}
use Rattle.epic_judging.specs.Telling.{told_of}
use Rattle.epic_reread.specs.JudgedYes.{AreGivenOf, GivenVerdictsAreJudgedTrue}
use Rattle.epic_reread.specs.WholeFile.{EachCanBeTold, told_each}
use Rattle.epic_reread.proofs.WholeFiles.{files_read}

abbrev accepted_of : List (Facts × Acceptance) → List Acceptance
accepted_of pairs = map (λ a. a.1) pairs

all_accepted : (before items : List Item) → accepted_of (accepted_after before items) ≡ acceptances items
unfolding acceptances
all_accepted before [] = refl
all_accepted before (Event e ∷ more) = all_accepted (before ++ Event e ∷ []) more
all_accepted before (Emission number due bytes ∷ more) = all_accepted (before ++ Emission number due bytes ∷ []) more
all_accepted before (AcceptHop a generation hop bytes ∷ more) =
    ap (λ rest. accepted_by (AcceptHop a generation hop bytes) ++ rest) (all_accepted (before ++ AcceptHop a generation hop bytes ∷ []) more)
all_accepted before (AcceptDest host bytes ∷ more) =
    ap (λ rest. accepted_by (AcceptDest host bytes) ++ rest) (all_accepted (before ++ AcceptDest host bytes ∷ []) more)

module _ (t : Network) where
  each_told : (pairs : List (Facts × Acceptance)) (verdicts : List Verdict) → AreGivenOf t pairs verdicts → EachCanBeTold t (accepted_of pairs) verdicts
  each_told [] [] given = tt
  each_told [] (v ∷ verdicts) given = absurd given
  each_told (a ∷ more) [] given = absurd given
  each_told (a ∷ more) (v ∷ verdicts) given = (given.0.indexed, given.0.can_be_told, each_told more verdicts given.1)

  claims_counted : (pairs : List (Facts × Acceptance)) (verdicts : List Verdict) → AreGivenOf t pairs verdicts
      → length verdicts ≡ length (claims pairs (told_each t (accepted_of pairs) verdicts))
  unfolding told_each
  claims_counted [] [] given = refl
  claims_counted [] (v ∷ verdicts) given = absurd given
  claims_counted (a ∷ more) [] given = absurd given
  claims_counted (a ∷ more) (v ∷ verdicts) given = ap suc (claims_counted more verdicts given.1)

  claims_true : (pairs : List (Facts × Acceptance)) (verdicts : List Verdict) → AreGivenOf t pairs verdicts
      → AllTrue t (claims pairs (told_each t (accepted_of pairs) verdicts))
  unfolding told_each
  claims_true [] verdicts given n c low there = absurd (omega (arith, low))
  claims_true (a ∷ more) [] given n c low there = absurd given
  claims_true (a ∷ more) (v ∷ verdicts) given zero c low there =
      let first : Claim = record { facts = a.0; acceptance = a.1; line = told_of t a.1.packet v } in
      subst (IsTrueClaim t) (same_Some first c there) (record { verdict = v; holds = given.0.holds; told_is = refl })
  claims_true (a ∷ more) (v ∷ verdicts) given (suc n) c low there = claims_true more verdicts given.1 n c (omega (arith, low)) there

pub judged_true : GivenVerdictsAreJudgedTrue
unfolding claims_in
judged_true t ledger items verdicts is given short =
    let pairs = accepted_after [] items in
    let text = verdict_text t (acceptances items) verdicts in
    let same = all_accepted [] items in
    let told = subst (λ all. EachCanBeTold t all verdicts) same (each_told t pairs verdicts given) in
    let read = ap (with_ledger text) is ∙ ap (with_verdicts items) (files_read t (acceptances items) verdicts told short) in
    let counted = subst (λ all. length verdicts ≡ length (claims pairs (told_each t all verdicts))) same (claims_counted t pairs verdicts given) in
    let true = subst (λ all. AllTrue t (claims pairs (told_each t all verdicts))) same (claims_true t pairs verdicts given) in
    subst (λ answer. IsAnswer t answer (Ok (Yes (length verdicts)))) (sym read) (counted, true)
