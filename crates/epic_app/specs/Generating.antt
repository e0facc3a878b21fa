-- What `gen` writes: the last line of the report of a generated run, and a digest of the whole report.
use Rattle.std.specs.Prelude.{ℕ, false, List, ◌++◌, length, codes, None}
use Rattle.hex.specs.Hex.{encode_lower}
use Rattle.epic_cmac.specs.Cmac.{cmac}
use Rattle.epic_topo.specs.Network.{Network}
use Rattle.epic_gen.specs.Names.{generator_key}
use Rattle.epic_gen.specs.Script.{generated}
use Rattle.epic_gen.specs.Topology.{generated_network}
use Rattle.epic_text.specs.Counts.{counts_of, end_line}
use Rattle.epic_world.specs.Run.{Done, run}
use Rattle.epic_app.specs.Showing.{Showing}
use Rattle.epic_app.specs.RunReport.{all_verdicts, run_text}

-- the steps of the generated script over the generated topology
unfoldable pub generated_steps : ℕ → ℕ → List Done
generated_steps seed packets = run (generated_network seed) (generated seed packets)

-- the line with the digest, a tag over the report under the generator's key
abbrev pub digest_line : List ℕ → List ℕ
digest_line report = codes "digest " ++ (encode_lower (cmac generator_key report) ++ codes "\n")

-- nothing but verdicts is shown
abbrev pub plainly : ℕ → Showing
plainly script = record { script = script; makers = false; police = None }

-- both lines; all steps are the script's
unfoldable pub gen_text : Network → List Done → List ℕ
gen_text t steps =
    end_line (counts_of (length steps) (all_verdicts steps)) ++ digest_line (run_text (plainly (length steps)) t steps)
