-- Private: serves proofs of this crate alone; no public contract cites it.
-- What a run does that takes the records of a capture.
use Rattle.std.specs.Prelude.{◌≡◌, ℕ, ◌+◌, ◌-◌, ◌*◌, ◌/◌, ◌^◌, ◌≤◌, ◌||◌, min, List, ◌++◌, length, Contains}
use Rattle.std.specs.List.{All, list_any}
use Rattle.epic_num.specs.declared.command.Command.{Command}
use Rattle.epic_ports.specs.declared.error.PortError.{PortError}
use Rattle.epic_text.specs.Counts.{total}
use Rattle.epic_model.specs.World.{Fits}
use Rattle.epic_rerun.specs.Rerun.{NamesFit}
use Rattle.epic_world.specs.Run.{Done, run_from, state_after}
use Rattle.epic_app.specs.declared.taking.Records.{Records}
use Rattle.epic_app.specs.Acts.{Act, World, Does}
use Rattle.epic_app.specs.Along.{along}
use Rattle.epic_app.specs.Doing.{step_acts}
use Rattle.epic_app.specs.Keeping.{kept_in}
use Rattle.epic_app.specs.Kept.{names}
use Rattle.epic_app.specs.Noting.{offers_of, shows_alarm}
use Rattle.epic_app.specs.Performing.{Stopped, Works}
use Rattle.epic_app.specs.Policed.{ArePoliced}
use Rattle.epic_app.specs.RunReport.{all_verdicts}
use Rattle.epic_app.specs.StepLines.{count_all}

-- what a run has done before is this, as far as its policers know
abbrev pub IsAfter : Records → List Done → Type 0
IsAfter x before = ArePoliced x.world.network x.show.police x.police (offers_of before) x.world.state.moment

-- the acts of further commands, behind these steps
abbrev pub acts_of : Records → List Done → List Command → List Act
acts_of x before cs = along (step_acts (kept_in x.keep) x.show x.world.network) before (run_from x.world.network x.world.state cs)

-- these commands were done, and their verdicts counted
pub record Ran (x y : Records) (cs : List Command) (old new : World) : Type 0 where
  pub network : y.world.network ≡ x.world.network
  pub show : y.show ≡ x.show
  pub keep : y.keep ≡ x.keep
  pub state : y.world.state ≡ state_after x.world.network x.world.state cs
  pub steps : y.world.state.steps ≡ x.world.state.steps + length cs
  pub counts : y.tally.counts ≡ count_all x.tally.counts (all_verdicts (run_from x.world.network x.world.state cs))
  pub few : total y.tally.counts ≤ total x.tally.counts + 66 * length cs
  pub alarm : y.tally.alarm ≡ x.tally.alarm || list_any (shows_alarm x.show x.world.network) (run_from x.world.network x.world.state cs)
  pub police : (before : List Done) → IsAfter x before → IsAfter y (before ++ run_from x.world.network x.world.state cs)
  pub acts : (before : List Done) → IsAfter x before → Does (acts_of x before cs) old new
  pub works : Works (kept_in x.keep) old new
  pub fits : All Fits cs
  pub names_fit : All NamesFit cs

-- less was done of these commands
abbrev pub StopsIn : Records → List Command → PortError → World → World → Type 0
StopsIn x cs e old new =
    ((before : List Done) → IsAfter x before → Stopped (kept_in x.keep) (acts_of x before cs) old new e) × Works (kept_in x.keep) old new

-- a file that isn't written
abbrev pub spares_in : Records → List ℕ → Type 0
spares_in x name = ¬ Contains (names (kept_in x.keep)) name

-- how many records can be taken
abbrev pub room_in : Records → ℕ
room_in x = min ((1073741823 - x.world.state.steps) / 2) ((2 ^ 63 - total x.tally.counts) / 256)
