use Rattle.std.proofs.Common.{◌≡◌, ◌≤◌, ◌*◌, [], take}
use Rattle.std.specs.List.{list_any}
use Rattle.epic_text.specs.Counts.{counts_of, total}
use Rattle.epic_model.specs.State.{start}
use Rattle.epic_world.specs.Run.{run_from, state_after}
use Rattle.epic_app.specs.Acts.{Does, world}
use Rattle.epic_app.specs.Along.{along}
use Rattle.epic_app.specs.Doing.{step_acts}
use Rattle.epic_app.specs.Keeping.{kept_in}
use Rattle.epic_app.specs.Noting.{offers_of, shows_alarm}
use Rattle.epic_app.specs.Performing.{Stays}
use Rattle.epic_app.specs.Policed.{ArePoliced}
use Rattle.epic_app.specs.RunReport.{all_verdicts}
use Rattle.epic_app.proofs.run_report.write_script.Given as goal

-- the commands so far were done, with their acts since the capture was opened, and their verdicts counted
abbrev pub invariant-loop-command : goal.invariant-loop-command
invariant-loop-command g l =
    let kept = kept_in l.keep in
    let before = world (g.S.Store.contents l.initial.store) (g.S.Store.reads l.initial.store) (g.S.Store.writes l.initial.store) (g.O.Sink.written l.initial.out) (g.O.Sink.faults l.initial.out) in
    let now = world (g.S.Store.contents l.store) (g.S.Store.reads l.store) (g.S.Store.writes l.store) (g.O.Sink.written l.out) (g.O.Sink.faults l.out) in
    (l.world.network ≡ l.fn.world.network)
    × (l.world.state ≡ state_after l.fn.world.network start (take l.command-index l.commands))
    × Does (along (step_acts kept l.show l.fn.world.network) [] (run_from l.fn.world.network start (take l.command-index l.commands))) before now
    × Stays kept before now
    × (l.tally.counts ≡ counts_of 0 (all_verdicts (run_from l.fn.world.network start (take l.command-index l.commands))))
    × (l.world.state.steps ≡ l.command-index)
    × (total l.tally.counts ≤ 66 * l.command-index)
    × (l.tally.alarm ≡ list_any (shows_alarm l.show l.fn.world.network) (run_from l.fn.world.network start (take l.command-index l.commands)))
    × ArePoliced l.fn.world.network l.show.police l.police (offers_of (run_from l.fn.world.network start (take l.command-index l.commands))) l.world.state.moment
