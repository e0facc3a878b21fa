-- A run whose capture is opened, whose steps are done one after the other, and whose end is written.
use Rattle.std.proofs.Common.{◌≡◌, ℕ, ◌+◌, ◌<◌, ◌≤◌, List, [], ◌++◌, length, take, get_or, sym, ap, subst, ◌∙◌}
use Rattle.std.proofs.lemmas.List.{take_more}
use Rattle.epic_num.specs.declared.command.Command.{Command}
use Rattle.epic_ports.specs.declared.error.PortError.{PortError}
use Rattle.epic_topo.specs.Network.{Network}
use Rattle.epic_model.specs.State.{State, start}
use Rattle.epic_world.specs.Run.{Done, done_by, run, run_from, state_after}
use Rattle.epic_app.specs.Kept.{Kept, opening}
use Rattle.epic_app.specs.Showing.{Showing}
use Rattle.epic_app.specs.Acts.{Act, Does, World}
use Rattle.epic_app.specs.Along.{along}
use Rattle.epic_app.specs.Doing.{step_acts, steps_acts}
use Rattle.epic_app.specs.Performing.{Stays, Stopped}
use Rattle.epic_app.proofs.ActFiles.{does_both}
use Rattle.epic_app.proofs.Acting.{stays_both, stopped_in, stopped_more}
use Rattle.epic_app.proofs.RunLemmas.{acts_last, acts_until, run_front, run_opening, run_whole}

-- less of the opening is less of the run
pub opening_stopped : (kept : List Kept) (show : Showing) (t : Network) (cs : List Command) (u v : World)
    (e : PortError) → Stopped kept (opening kept) u v e
    → Stopped kept (steps_acts kept show t (run t cs)) u v e
opening_stopped kept show t cs u v e stops =
    let (more, is) = run_opening kept show t cs in
    subst (λ (acts : List Act). Stopped kept acts u v e) (sym is)
    (stopped_more kept (opening kept) more u v e stops)

module _ (kept : List Kept) (show : Showing) (t : Network) (cs : List Command) (i : ℕ) where
  -- the first steps, and their acts
  abbrev first_steps : ℕ → List Done
  first_steps n = run_from t start (take n cs)

  abbrev steps_until : ℕ → List Act
  steps_until n = along (step_acts kept show t) [] (first_steps n)

  -- one step more was done
  pub next_done : (n : Network) (s : State) (c d : Command) (v w x : World) → i < length cs
      → n ≡ t → s ≡ state_after t start (take i cs) → c ≡ get_or cs i d
      → Does (steps_until i) v w → Does (step_acts kept show n (first_steps i) (done_by n s c)) w x
      → Does (steps_until (i + 1)) v x
  next_done n s c d v w x within network state command first step =
      let acts : steps_until i ++ step_acts kept show n (first_steps i) (done_by n s c) ≡ steps_until (i + 1)
      = (λ k. steps_until i ++ step_acts kept show (network k) (first_steps i) (done_by (network k) (state k) (command k)))
      ∙ sym (ap (λ (xs : List Command). along (step_acts kept show t) [] (run_from t start xs))
      (take_more cs i d within) ∙ acts_last kept show t [] start (take i cs) (get_or cs i d)) in
      subst (λ (all : List Act). Does all v x) acts
      (does_both (steps_until i) (step_acts kept show n (first_steps i) (done_by n s c)) v w x first step)

  module _ (u v w x : World) (opened : Does (opening kept) u v) (first : Stays kept u v)
      (steps : Does (steps_until i) v w) (then : Stays kept v w) where
    until : Does (acts_until kept show t cs i) u w
    until = does_both (opening kept) (steps_until i) u v w opened steps

    until_stays : Stays kept u w
    until_stays = stays_both kept u v w first then

    pub all_stay : Stays kept w x → Stays kept u x
    all_stay last = stays_both kept u w x until_stays last

    -- less of the next step was done
    pub step_stopped : (n : Network) (s : State) (c d : Command) (e : PortError) → i < length cs
        → n ≡ t → s ≡ state_after t start (take i cs) → c ≡ get_or cs i d
        → Stopped kept (step_acts kept show n (first_steps i) (done_by n s c)) w x e
        → Stopped kept (steps_acts kept show t (run t cs)) u x e
    step_stopped n s c d e within network state command stops =
        let (more, whole) = run_front kept show t cs i d within in
        let step = step_acts kept show t (first_steps i) (done_by t (state_after t start (take i cs)) (get_or cs i d)) in
        let now : Stopped kept step w x e = subst (λ (acts : List Act). Stopped kept acts w x e)
        (λ k. step_acts kept show (network k) (first_steps i) (done_by (network k) (state k) (command k))) stops in
        stopped_in kept (acts_until kept show t cs i) step more (steps_acts kept show t (run t cs)) u w x e
        until until_stays now whole

    -- after all steps all was done
    pub all_done : length cs ≤ i → Does (steps_acts kept show t (run t cs)) u w
    all_done past = subst (λ (acts : List Act). Does acts u w) (sym (run_whole kept show t cs i past)) until
