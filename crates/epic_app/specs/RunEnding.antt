-- Private: serves proofs of this crate alone; no public contract cites it.
-- How a run ends behind its script.
use Rattle.std.specs.Prelude.{◌≡◌, ℕ, ◌*◌, ◌<◌, ◌≤◌, false, List, length, Option, Contains, ⊤}
use Rattle.std.specs.List.{AllByRecursion, list_any}
use Rattle.std.specs.Option.{option_to_list}
use Rattle.epic_num.specs.declared.command.Command.{Command}
use Rattle.epic_ports.specs.Faults.{Rose}
use Rattle.epic_topo.specs.Network.{Network}
use Rattle.epic_text.specs.Counts.{counts_of, total}
use Rattle.epic_model.specs.State.{start}
use Rattle.epic_world.specs.Run.{run, state_after}
use Rattle.epic_words.specs.Request.{RunRequest, Run, shares_files}
use Rattle.epic_app.specs.declared.end.End.{End}
use Rattle.epic_app.specs.declared.end.End.TheVariants.{Done, BadWords, BadTopology, LongTopology, BadScript, LongScript, BadCapture, BadFile, ReadFault, WriteFault, OutOfMemory}
use Rattle.epic_app.specs.declared.taking.Records.{Records}
use Rattle.epic_app.specs.Acts.{World, Does}
use Rattle.epic_app.specs.Captures.{RecordsFit}
use Rattle.epic_app.specs.Doing.{run_by, steps_acts}
use Rattle.epic_app.specs.End.{HasCause, status_of}
use Rattle.epic_app.specs.Noting.{shows_alarm}
use Rattle.epic_app.specs.Performing.{Blamed, Works}
use Rattle.epic_app.specs.Readings.{Reading, AreRead}
use Rattle.epic_app.specs.Showing.{Showing}
use Rattle.epic_app.specs.RunReport.{all_verdicts}
use Rattle.epic_app.specs.Keeping.{kept_in}
use Rattle.epic_app.specs.Kept.{Kept}
use Rattle.epic_app.specs.Taking.{IsAfter}

-- the commands of a script were done, and what is to come begins behind them
pub record IsBehind (x : Records) (t : Network) (commands : List Command) (old new : World) : Type 0 where
  pub network : x.world.network ≡ t
  pub state : x.world.state ≡ state_after t start commands
  pub steps : x.world.state.steps ≡ length commands
  pub counts : x.tally.counts ≡ counts_of 0 (all_verdicts (run t commands))
  pub few : length commands ≤ 524288
  pub total : total x.tally.counts ≤ 66 * length commands
  pub alarm : x.tally.alarm ≡ list_any (shows_alarm x.show t) (run t commands)
  pub police : IsAfter x (run t commands)
  pub done : Does (steps_acts (kept_in x.keep) x.show t (run t commands)) old new
  pub works : Works (kept_in x.keep) old new
  pub reads : new.reads ≡ old.reads

-- the count that rose where a read of the capture or a write failed
abbrev pub RunBlames : Option (List ℕ) → List Kept → World → World → End → Type 0
RunBlames capture kept old new (Done forged) = ⊤
RunBlames capture kept old new BadWords = ⊤
RunBlames capture kept old new (BadTopology kind key item) = ⊤
RunBlames capture kept old new LongTopology = ⊤
RunBlames capture kept old new (BadScript line kind) = ⊤
RunBlames capture kept old new LongScript = ⊤
RunBlames capture kept old new (BadCapture damage) = ⊤
RunBlames capture kept old new (BadFile file line kind) = ⊤
RunBlames capture kept old new (ReadFault name) =
    Contains (option_to_list capture) name.now × Rose (old.reads name.now) (new.reads name.now)
RunBlames capture kept old new WriteFault = Blamed kept old new
RunBlames capture kept old new OutOfMemory = ⊤

-- a run of a script, and of a capture if one is named, ended so
pub record RunEnds (capture : Option (List ℕ)) (kept : List Kept) (show : Showing) (t : Network) (commands : List Command) (old new : World) (end : End) : Type 0 where
  pub readings : List Reading
  pub are_read : AreRead old new (option_to_list capture) readings
  pub cause : HasCause (run_by capture readings kept show t commands) old new end
  pub blames : RunBlames capture kept old new end
  pub fits : status_of end < 2 → AllByRecursion RecordsFit readings
  pub later : (q : List ℕ) → old.reads q ≤ new.reads q
  pub reads : (q : List ℕ) → ¬ Contains (option_to_list capture) q → new.reads q ≡ old.reads q
  pub works : Works kept old new

-- no file that is written is read too
abbrev pub IsUnshared : RunRequest → Type 0
IsUnshared r = shares_files (Run r) ≡ false
