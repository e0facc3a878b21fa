-- A step whose lines are written, and then what it emitted is saved.
use Rattle.std.proofs.Common.{◌≡◌, ℕ, ◌≤◌, List, [], ◌++◌, Option, Some, None, Result, Err, refl, subst, arith}
use Rattle.epic_num.specs.declared.command.Command.{Command}
use Rattle.epic_ports.specs.Files.{Files, KeepsFiles}
use Rattle.epic_ports.specs.Written.{Appends}
use Rattle.epic_ports.specs.declared.error.PortError.{PortError}
use Rattle.epic_ports.proofs.Appended.{Appends-none}
use Rattle.epic_topo.specs.Network.{Network}
use Rattle.epic_model.specs.State.{State}
use Rattle.epic_model.specs.Steps.{next}
use Rattle.epic_world.specs.Run.{Done, done_by}
use Rattle.epic_app.specs.Kept.{Kept, adding}
use Rattle.epic_app.specs.Showing.{Showing}
use Rattle.epic_app.specs.Acts.{Act, Does, StopsBefore, World, prints, world}
use Rattle.epic_app.specs.Captures.{shown}
use Rattle.epic_app.specs.Doing.{step_acts}
use Rattle.epic_app.specs.Noting.{notes_after, offers_of}
use Rattle.epic_app.specs.Performing.{Performs, Stays, Stopped}
use Rattle.epic_app.specs.RunReport.{answered_text, step_text}
use Rattle.epic_app.specs.Writing.{Stops}
use Rattle.epic_app.proofs.ActFiles.{does_nothing, does_text}
use Rattle.epic_app.proofs.Acting.{performs_after, prints_performed, stays_kept, stopped_first, stopped_more}

pub keeps_all : (files : Option Files) → KeepsFiles files files
keeps_all None = tt
keeps_all (Some files) = refl

-- nothing was done
pub stays_same : (kept : List Kept) (w : World) → Stays kept w w
stays_same kept w = stays_kept kept w w (keeps_all w.contents) (omega arith) refl refl

pub nothing_done : (w : World) → Does [] w w
nothing_done w = does_nothing w w (keeps_all w.contents) (Appends-none w.written)

-- memory was wanting before anything was done
pub stopped_same : (acts : List Act) (w : World) → StopsBefore acts w w
stopped_same acts w = stopped_first [] acts w w (keeps_all w.contents) (Appends-none w.written)

-- only the output changed
pub stays_written : (kept : List Kept) (files : Option Files) (reads writes : List ℕ → ℕ)
    (old new : Option (List ℕ)) (before now : ℕ) → before ≤ now
    → Stays kept (world files reads writes old before) (world files reads writes new now)
stays_written kept files reads writes old new before now later =
    stays_kept kept (world files reads writes old before) (world files reads writes new now)
    (keeps_all files) later refl refl

module _ (t : Network) (s : State) (c : Command) where
  -- the lines of the answer are those of the step
  pub lines_are : (show : Showing) (before : List Done) (text : List ℕ)
      → (let n = next t s c in let number = shown show.script n.state.steps in
      text ≡ answered_text number t c n.answer (notes_after show t number (offers_of before) c n.answer n.state) n.state)
      → text ≡ step_text show t before (done_by t s c)
  unfolding done_by
  lines_are show before text is = is

module _ (kept : List Kept) (show : Showing) (t : Network) (earlier : List Done) (s : State) (c : Command)
    (files : Option Files) (reads writes : List ℕ → ℕ)
    (old new : Option (List ℕ)) (before now : ℕ) (text : List ℕ)
    (is : text ≡ step_text show t earlier (done_by t s c)) where
  -- the output before the lines, and after them
  abbrev u : World
  u = world files reads writes old before

  abbrev v : World
  v = world files reads writes new now

  -- less of the lines was written
  pub lines_stopped : (e : PortError) → Stops text old new before now e
      → Stopped kept (step_acts kept show t earlier (done_by t s c)) u v e
  unfolding step_acts
  lines_stopped e stops =
      let lines = step_text show t earlier (done_by t s c) in
      stopped_more kept (prints lines) (adding kept t (done_by t s c)) u v e
      (prints_performed {X = ℕ} kept lines u v (Err e) (keeps_all files)
      (subst (λ (x : List ℕ). Stops x old new before now e) is stops))

  -- the lines were written, and then the files grew, or less of it
  pub step_performed : {X : Type 0} (w : World) (r : Result X PortError)
      → Appends old new text → before ≤ now
      → Performs kept (adding kept t (done_by t s c)) v w r
      → Performs kept (step_acts kept show t earlier (done_by t s c)) u w r
  unfolding step_acts
  step_performed w r written later added =
      let acts : prints text ++ adding kept t (done_by t s c) ≡ step_acts kept show t earlier (done_by t s c)
      = λ k. prints (is k) ++ adding kept t (done_by t s c) in
      subst (λ (a : List Act). Performs kept a u w r) acts
      (performs_after kept (prints text) (adding kept t (done_by t s c)) u v w r
      (does_text text u v (keeps_all files) written)
      (stays_written kept files reads writes old new before now later) added)
