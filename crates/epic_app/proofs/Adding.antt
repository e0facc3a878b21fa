-- What a step adds to the files that are kept.
use Rattle.std.proofs.Common.{◌≡◌, ℕ, List, ◌++◌, map, flat_map, drop, Option, Some, None, refl, sym, ap, ◌∙◌, append-nil}
use Rattle.std.specs.Prelude.{IfSome, option_map}
use Rattle.std.specs.Borrow.{Bor}
use Rattle.std.specs.Option.{option_to_list}
use Rattle.std.proofs.lemmas.List.Concat.{flat_map-append}
use Rattle.epic_num.specs.declared.command.Command.{Command}
use Rattle.epic_capture.specs.Saving.{saved_record}
use Rattle.epic_record.specs.LedgerText.{ledger_text}
use Rattle.epic_topo.specs.Network.{Network}
use Rattle.epic_model.specs.State.{State}
use Rattle.epic_model.specs.Steps.{next}
use Rattle.epic_model.specs.Traces.{Stepped}
use Rattle.epic_world.specs.Run.{Done, done_by}
use Rattle.epic_app.specs.declared.keeping.Keeping.{Keeping}
use Rattle.epic_app.specs.declared.telling.Mark.{Mark}
use Rattle.epic_app.specs.Acts.{appends}
use Rattle.epic_app.specs.Added.{added_to, all_added}
use Rattle.epic_app.specs.Keeping.{files_of, kept_in, ledger_file, saved_file, verdict_file}
use Rattle.epic_app.specs.Kept.{adding, grown}
use Rattle.epic_rerun.specs.Ledgers.{step_ledger, step_verdicts}
use Rattle.epic_app.specs.Noting.{passes_after}
use Rattle.epic_app.specs.Saved.{as_captured, captured_in, saved_in}
use Rattle.epic_app.specs.Telling.{mark_of, passes_verdicts, told_since}
use Rattle.epic_app.proofs.Passages.{items_are, verdicts_are}

abbrev Name : Type 0
Name = Bor (List ℕ)

abbrev named : Option Name → Option (List ℕ)
named o = option_map (λ name. name.now) o

-- what is known where a file is named
when_named : (o : Option Name) (A B : Type 0) → (A → B) → IfSome o (λ name. A) → IfSome o (λ name. B)
when_named None A B f is = tt
when_named (Some name) A B f is = f is

module _ (t : Network) (d : Done) where
  saved_added : (o : Option Name) (text : List ℕ) → IfSome o (λ name. text ≡ saved_in d)
      → added_to (named o) text ≡ flat_map (grown t d) (map saved_file (option_to_list (named o)))
  saved_added None text is = refl
  saved_added (Some name) text is = ap (appends name.now) is ∙ sym (append-nil (appends name.now (saved_in d)))

  ledger_added : (o : Option Name) (text : List ℕ) → IfSome o (λ name. text ≡ step_ledger d)
      → added_to (named o) text ≡ flat_map (grown t d) (map ledger_file (option_to_list (named o)))
  ledger_added None text is = refl
  ledger_added (Some name) text is = ap (appends name.now) is ∙ sym (append-nil (appends name.now (step_ledger d)))

  verdicts_added : (o : Option Name) (text : List ℕ) → IfSome o (λ name. text ≡ step_verdicts t d)
      → added_to (named o) text ≡ flat_map (grown t d) (map verdict_file (option_to_list (named o)))
  verdicts_added None text is = refl
  verdicts_added (Some name) text is = ap (appends name.now) is ∙ sym (append-nil (appends name.now (step_verdicts t d)))

  adds_are : (k : Keeping) (saved ledger verdicts : List ℕ) → IfSome k.save (λ name. saved ≡ saved_in d)
      → IfSome k.ledger (λ name. ledger ≡ step_ledger d) → IfSome k.verdicts (λ name. verdicts ≡ step_verdicts t d) → all_added k saved ledger verdicts ≡ adding (kept_in k) t d
  unfolding adding files_of
  adds_are k saved ledger verdicts s l v =
      let f = grown t d in
      let ss = map saved_file (option_to_list (named k.save)) in
      let ls = map ledger_file (option_to_list (named k.ledger)) in
      let vs = map verdict_file (option_to_list (named k.verdicts)) in
      (λ i. saved_added k.save saved s i ++ (ledger_added k.ledger ledger l i ++ verdicts_added k.verdicts verdicts v i))
      ∙ sym (flat_map-append f ss (ls ++ vs) ∙ ap (λ acts. flat_map f ss ++ acts) (flat_map-append f ls vs))

-- the texts that a step makes are what it adds
pub step_adds : (k : Keeping) (t : Network) (s : State) (c : Command) (saved ledger verdicts : List ℕ) (m : Mark) → m ≡ mark_of s.history
    → IfSome k.save (λ name. saved ≡ flat_map saved_record (map (as_captured (next t s c).state.moment) (drop m.emissions (next t s c).state.history.emissions)))
    → IfSome k.ledger (λ name. ledger ≡ ledger_text (told_since (next t s c).state.history m (passes_after c (next t s c).answer (next t s c).state)))
    → IfSome k.verdicts (λ name. verdicts ≡ passes_verdicts t (passes_after c (next t s c).answer (next t s c).state))
    → all_added k saved ledger verdicts ≡ adding (kept_in k) t (done_by t s c)
unfolding saved_in captured_in step_ledger done_by
step_adds k t s c saved ledger verdicts m marked saved_is ledger_is verdicts_is =
    let n : Stepped = next t s c in
    let passes = passes_after c n.answer n.state in
    adds_are t (done_by t s c) k saved ledger verdicts
    (when_named k.save (saved ≡ flat_map saved_record (map (as_captured n.state.moment) (drop m.emissions n.state.history.emissions))) (saved ≡ saved_in (done_by t s c))
    (λ is. is ∙ ap (λ (x : Mark). flat_map saved_record (map (as_captured n.state.moment) (drop x.emissions n.state.history.emissions))) marked) saved_is)
    (when_named k.ledger (ledger ≡ ledger_text (told_since n.state.history m passes)) (ledger ≡ step_ledger (done_by t s c))
    (λ is. is ∙ ap ledger_text (ap (λ (x : Mark). told_since n.state.history x passes) marked ∙ items_are t s c)) ledger_is)
    (when_named k.verdicts (verdicts ≡ passes_verdicts t passes) (verdicts ≡ step_verdicts t (done_by t s c)) (λ is. is ∙ verdicts_are t s c) verdicts_is)
