-- What a run tells, and that the judge says yes to it.
use Rattle.std.proofs.Common.{◌≡◌, ◌+◌, ◌<◌, ◌≤◌, List, [], ◌∷◌, ◌++◌, length, refl, sym, ap, subst, ◌∙◌, arith, Ok}
use Rattle.std.specs.List.{All}
use Rattle.std.proofs.lemmas.List.Elements.{All-head, All-nil, All-tail}
use Rattle.epic_num.specs.declared.command.Command.{Command}
use Rattle.epic_topo.specs.Lawful.{IsTopology}
use Rattle.epic_topo.specs.Network.{Network}
use Rattle.epic_ledger.specs.History.{History, emitted}
use Rattle.epic_model.specs.State.{State, start}
use Rattle.epic_model.specs.Steps.{next}
use Rattle.epic_model.specs.World.{Fits, IsWorld, most_steps}
use Rattle.epic_model.proofs.Stepping.{worlds_go_on, worlds_start}
use Rattle.epic_record.specs.LedgerFile.{history_in}
use Rattle.epic_record.specs.LedgerText.{ledger_text}
use Rattle.epic_record.specs.VerdictFile.{most_verdicts}
use Rattle.epic_record.specs.VerdictLines.{acceptances, verdict_text}
use Rattle.epic_judging.specs.declared.judged.Judged.TheVariants.{Yes}
use Rattle.epic_judging.specs.Judgment.{IsJudgment, accepted_after}
use Rattle.epic_reread.specs.Fitting.{HeldVerdictsFit, OtherHopsAreThere, VerdictsCanBeTold}
use Rattle.epic_reread.specs.JudgedYes.{AreGivenOf, GivenVerdictsAreJudgedTrue}
use Rattle.epic_reread.specs.LedgerFitting.{EventFits, PlacedLedgersAreReadBack}
use Rattle.epic_world.specs.Run.{Done, done_by, run, run_from, state_after}
use Rattle.epic_world.proofs.Counted.{next_counts}
use Rattle.epic_rerun.specs.Ledgers.{items_told, step_items, step_verdicts, verdicts_told}
use Rattle.epic_rerun.specs.Rerun.{AreTold, IsRun, NamesFit, RunsAreJudgedTrue, RunsAreTold, all_given, step_given}
use Rattle.epic_rerun.proofs.Counting.{Counted}
use Rattle.epic_rerun.proofs.Fitted.{EmissionFits, Fitted, fitted_after}
use Rattle.epic_rerun.proofs.Placing.{Told, accepted_many, accepted_same, are_placed, given_many, history_after, lines_both, told_both, told_none}
use Rattle.epic_rerun.proofs.Stepping.{next_told}

-- what steps tell from a ledger to another
record RunTold (t : Network) (h : History) (steps : List Done) (g : History) : Type 0 where
  told : Told t h (items_told steps) (all_given steps) g
  lined : verdicts_told t steps ≡ verdict_text t (acceptances (items_told steps)) (all_given steps)

none_told : (t : Network) (h : History) → RunTold t h [] h
unfolding items_told all_given verdicts_told acceptances verdict_text
none_told t h = record { told = told_none t h; lined = refl }

one_told : (t : Network) (h m g : History) (d : Done) (steps : List Done) → Told t h (step_items d) (step_given d) m
    → step_verdicts t d ≡ verdict_text t (acceptances (step_items d)) (step_given d) → RunTold t m steps g
    → RunTold t h (d ∷ steps) g
unfolding items_told all_given verdicts_told
one_told t h m g d steps told lined rest = record {
  told = told_both t h m g (step_items d) (items_told steps) (step_given d) (all_given steps) told rest.told;
  lined = (λ i. lined i ++ rest.lined i) ∙ sym (lines_both t h m (step_items d) (items_told steps) (step_given d) (all_given steps) told);
}

module _ (t : Network) (topology : IsTopology t) (fit : HeldVerdictsFit) (others : OtherHopsAreThere) (tell : VerdictsCanBeTold) where
  all_told : (s : State) (commands : List Command) → All Fits commands → All NamesFit commands → s.steps + length commands < most_steps
      → IsWorld t s → Fitted s.history → Counted s.steps s.history
      → RunTold t s.history (run_from t s commands) (state_after t s commands).history
  unfolding run_from state_after done_by step_items step_verdicts
  all_told s [] fits names room w fitted c = none_told t s.history
  all_told s (k ∷ commands) fits names room w fitted c =
      let n = next t s k in
      let one = All-head Fits k commands fits in
      let first : s.steps + 1 < most_steps = omega (arith, room) in
      let after = worlds_go_on t s k topology one first w in
      let told = next_told t topology fit others tell s w fitted c first k one (All-head NamesFit k commands names) after in
      let counted = next_counts t s k in
      one_told t s.history n.state.history (state_after t n.state commands).history (done_by t s k) (run_from t n.state commands)
      told.told told.lined
      (all_told n.state commands (All-tail Fits k commands fits) (All-tail NamesFit k commands names) (omega (arith, room, counted)) after
      (subst Fitted told.told.ends (fitted_after s.history (step_items (done_by t s k)) told.told.fits fitted))
      (subst (λ m. Counted m n.state.history) (sym counted) told.counted))

  begin_fitted : Fitted start.history
  begin_fitted = record { events = All-nil EventFits; emissions = All-nil EmissionFits }

  begin_counted : Counted 0 start.history
  unfolding emitted
  begin_counted = record { events = omega arith; bytes = omega arith }

  run_told : (commands : List Command) → IsRun t commands → RunTold t start.history (run t commands) (state_after t start commands).history
  unfolding run
  run_told commands r = (let few = r.few in all_told start commands r.fit r.names_fit (omega (arith, few)) (worlds_start t) begin_fitted begin_counted)

nothing_in : history_in [] ≡ start.history
unfolding history_in
nothing_in = refl

pub runs_are_told : HeldVerdictsFit → OtherHopsAreThere → VerdictsCanBeTold → RunsAreTold
unfolding history_in
runs_are_told fit others tell t commands r =
    let all = run_told t r.topology fit others tell commands r in
    let items = items_told (run t commands) in (
      record {
        placed = are_placed t [] items all.told.placed;
        fit = all.told.fits;
        given = subst (λ accs. AreGivenOf t accs (all_given (run t commands))) (sym (accepted_same [] items)) all.told.given;
        lines = all.lined;
      },
      history_after [] items ∙ all.told.ends,
    )

accepted_count : (t : Network) (steps : List Done) → AreTold t steps → length (acceptances (items_told steps)) ≡ length (all_given steps)
accepted_count t steps are =
    let items = items_told steps in
    sym (accepted_many (history_in []) items)
    ∙ (ap length (sym (accepted_same [] items)) ∙ given_many t (accepted_after [] items) (all_given steps) are.given)

pub runs_are_judged_true : RunsAreTold → PlacedLedgersAreReadBack → GivenVerdictsAreJudgedTrue → RunsAreJudgedTrue
runs_are_judged_true told read judged t commands r small few =
    let steps = run t commands in
    let items = items_told steps in
    let are = (told t commands r).0 in
    let whole = read t items r.topology are.fit are.placed small in
    let short = subst (λ text. length text ≤ most_verdicts) are.lines few in
    let yes = judged t (ledger_text items) items (all_given steps) whole are.given short in
    subst (λ n. IsJudgment t (ledger_text items) (verdicts_told t steps) (Ok (Yes n))) (sym (accepted_count t steps are))
    (subst (λ text. IsJudgment t (ledger_text items) text (Ok (Yes (length (all_given steps))))) (sym are.lines) yes)
