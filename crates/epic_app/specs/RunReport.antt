-- The report of a run: the lines of its steps in order, and the counts of its verdicts.
use Rattle.std.specs.Prelude.{ℕ, ◌||◌, Bool, List, [], ◌++◌, length, flat_map}
use Rattle.std.specs.List.{list_any}
use Rattle.epic_num.specs.declared.answer.Answer.{Answer}
use Rattle.epic_num.specs.declared.answer.Answer.TheVariants.{Moment, Issued, Fetched, Known, Paths, Sent, Passed, Carried, Revealed, Rolled, Refused}
use Rattle.epic_num.specs.declared.command.Command.{Command}
use Rattle.epic_num.specs.declared.verdict.Verdict.{Verdict}
use Rattle.epic_topo.specs.Network.{Network}
use Rattle.epic_ledger.specs.Facts.{issues_in}
use Rattle.epic_model.specs.State.{State}
use Rattle.epic_world.specs.Run.{Done}
use Rattle.epic_text.specs.Counts.{counts_of, end_line, is_forged, is_collided}
use Rattle.epic_text.specs.Notes.{Noted}
use Rattle.epic_text.specs.Report.{answer_text, bytes_in, emission_bytes, issued_name}
use Rattle.epic_app.specs.Showing.{Showing}
use Rattle.epic_app.specs.Along.{along}
use Rattle.epic_app.specs.Captures.{shown}
use Rattle.epic_app.specs.Noting.{notes_after, offers_of, shows_alarm}

-- the lines of an answer under this number, over what was issued and emitted by then, with these notes
unfoldable pub answered_text : ℕ → Network → Command → Answer → List Noted → State → List ℕ
answered_text number t command answer notes after =
    answer_text t
    (issued_name (issues_in after.history.events))
    (emission_bytes after.history.emissions)
    (bytes_in (emission_bytes after.history.emissions) command)
    notes
    number
    answer

-- the lines of a step behind others
abbrev pub step_text : Showing → Network → List Done → Done → List ℕ
step_text show t before d =
    let number = shown show.script d.after.steps in
    answered_text number t d.command d.answer (notes_after show t number (offers_of before) d.command d.answer d.after) d.after

-- the verdicts of an answer, each on one acceptance
unfoldable pub verdicts_in : Answer → List Verdict
verdicts_in Moment = []
verdicts_in (Issued number) = []
verdicts_in Fetched = []
verdicts_in Known = []
verdicts_in (Paths paths) = []
verdicts_in (Sent emission ts) = []
verdicts_in (Passed pass) = pass.verdicts.items
verdicts_in (Carried passes) = flat_map (λ pass. pass.verdicts.items) passes
verdicts_in Revealed = []
verdicts_in (Rolled generation) = []
verdicts_in (Refused refusal) = []

-- the verdicts of all steps
unfoldable pub all_verdicts : List Done → List Verdict
all_verdicts steps = flat_map (λ d. verdicts_in d.answer) steps

unfoldable pub steps_text : Showing → Network → List Done → List ℕ
steps_text show t steps = along (step_text show t) [] steps

-- the last line counts the two steps of a record as one
unfoldable pub run_text : Showing → Network → List Done → List ℕ
run_text show t steps =
    steps_text show t steps ++ end_line (counts_of (shown show.script (length steps)) (all_verdicts steps))

-- a tag was forged, or two hops have one
abbrev pub is_alarm : Verdict → Bool
is_alarm v = is_forged v || is_collided v

-- a verdict says so
unfoldable pub has_alarm : List Done → Bool
has_alarm steps = list_any is_alarm (all_verdicts steps)

-- a verdict says so, or a maker where these are shown
unfoldable pub run_alarms : Showing → Network → List Done → Bool
run_alarms show t steps = has_alarm steps || list_any (shows_alarm show t) steps
