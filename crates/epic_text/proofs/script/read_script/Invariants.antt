use Rattle.std.proofs.Common.{◌≡◌, length, ◌+◌, ◌≤◌}
use Rattle.epic_text.specs.Lines.{lines}
use Rattle.epic_text.specs.Script.{commands_of, commands_after, numbered, with_front}
use Rattle.epic_text.specs.declared.script.TheConstants.{MAX_COMMANDS}
use Rattle.epic_text.proofs.script.read_script.Given as goal

-- the commands found, and those of the rest of the text, are all commands
abbrev pub invariant-loop-rest : goal.invariant-loop-rest
invariant-loop-rest g l = record {
  so_far : commands_of g.C.FromWords.rule l.text ≡ with_front l.commands.items (commands_after (length l.commands.items) (numbered g.C.FromWords.rule (l.number + 1) (lines l.rest)));
  few : length l.commands.items ≤ MAX_COMMANDS;
  lines_fit : l.number + length l.rest ≤ length l.text;
}

abbrev pub decreases-loop-rest : goal.decreases-loop-rest
decreases-loop-rest g l = length l.rest
