use Rattle.std.proofs.Common.{◌≡◌, take}
use Rattle.epic_text.specs.Report.{path_lines}
use Rattle.epic_text.proofs.answer_text.print_each.Given as goal

-- the lines so far
abbrev pub invariant-loop-path : goal.invariant-loop-path
invariant-loop-path l = l.lines.items ≡ path_lines l.step (take l.path-index l.paths)
