use Rattle.std.proofs.Common.{◌≡◌, ◌+◌, ◌≤◌, ◌*◌, take}
use Rattle.epic_gen.specs.Names.{generator_key}
use Rattle.epic_gen.specs.Script.{generated}
use Rattle.epic_text.specs.Counts.{counts_of, total}
use Rattle.epic_model.specs.State.{start}
use Rattle.epic_world.specs.Run.{run_from, state_after}
use Rattle.epic_app.specs.Generating.{plainly}
use Rattle.epic_app.specs.RunReport.{all_verdicts, steps_text}
use Rattle.epic_app.proofs.gen_report.generated_report.Given as goal

-- the commands so far were done, their lines taken into the digest, and their verdicts counted
abbrev pub invariant-loop-place : goal.invariant-loop-place
invariant-loop-place l =
    let cs = generated l.fn.seed l.fn.packets in
    (l.world.network ≡ l.fn.topo)
    × (l.world.state ≡ state_after l.fn.topo start (take l.place cs))
    × (l.digest ≡ record { key = generator_key; message = steps_text (plainly (14 + 3 * l.fn.packets)) l.fn.topo (run_from l.fn.topo start (take l.place cs)) })
    × (l.counts ≡ counts_of 0 (all_verdicts (run_from l.fn.topo start (take l.place cs))))
    × (l.world.state.steps ≡ l.place)
    × (total l.counts ≤ 66 * l.place)
