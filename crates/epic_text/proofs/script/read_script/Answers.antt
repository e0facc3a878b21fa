use Rattle.std.proofs.Common.{◌≡◌, ◌+◌, ◌<◌, length, Some, Ok, ap, ◌∙◌, arith, rules, length-append, ◌++◌, ◌∷◌, []}
use Rattle.epic_text.specs.Script.{commands_after, with_front, line_command}
use Rattle.epic_text.specs.declared.script.TheConstants.{MAX_COMMANDS}
use Rattle.epic_text.proofs.Commands.{one_more, at_first}
use Rattle.epic_text.proofs.script.read_script.Goals as goal

pub loop-rest-preserved : goal.loop-rest-preserved
loop-rest-preserved g c =
    let found = c.loop-rest.commands.items in
    let command = c.in-Ok-Some.command in
    let is : line_command g.C.FromWords.rule c.first_line.result.0.now ≡ Ok (Some command) = search rules in
    let line = at_first g.C.FromWords.rule (c.loop-rest.number + 1) c.loop-rest.rest.now c.first_line.result.0.now c.first_line.result.1.now (Ok (Some command)) c.first_line.ensures.lines is in
    let so_far = c.loop-rest.invariant.so_far ∙ ap (λ (ns : _). with_front found (commands_after (length found) ns)) line in
    let below : length found < MAX_COMMANDS = omega (arith, c.loop-rest.commands.ok.0) in
    let pushed : c.push.new.self.items ≡ found ++ command ∷ [] = search rules in
    rw pushed record {
      so_far = one_more _ found _ command _ so_far below;
      few = omega (arith, length-append found (command ∷ []), below);
      lines_fit = omega arith;
    }
