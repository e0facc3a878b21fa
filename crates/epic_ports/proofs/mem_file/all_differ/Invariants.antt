use Rattle.std.proofs.Common.{◌≡◌, length}
use Rattle.epic_ports.specs.MemFiles.{names_differ}
use Rattle.epic_ports.proofs.mem_file.all_differ.Given as goal

abbrev pub invariant-loop-first : goal.invariant-loop-first
invariant-loop-first l = names_differ l.files ≡ names_differ l.rest

abbrev pub decreases-loop-first : goal.decreases-loop-first
decreases-loop-first l = length l.rest
