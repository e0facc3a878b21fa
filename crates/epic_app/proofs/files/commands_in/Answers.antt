use Rattle.std.proofs.Common.{◌≡◌, ◌≤◌, [], length, Ok, Err, refl, arith, rules}
use Rattle.epic_text.specs.Script.{commands_of}
use Rattle.epic_app.specs.Doing.{by_commands, on_commands, whole}
use Rattle.epic_app.specs.Readings.{Whole, Failed, Unread}
use Rattle.epic_app.proofs.FileLaws.{begins_nothing, holds, holds_more, long_commands, read_commands}
use Rattle.epic_app.proofs.files.commands_in.Goals as goal

pub returns-in-Err-Failed-clause-leads : goal.returns-in-Err-Failed-clause-leads
unfolding on_commands whole
returns-in-Err-Failed-clause-leads g c =
    let rose = rw c.in-Err-Failed.field-0-is at c.in-Err-Failed.ensures.cause in
    record { reading = Failed []; is_reading = (begins_nothing _ _, rose); leads = λ next. refl; early = (refl, rose) }

pub returns-in-Err-TooLong-clause-leads : goal.returns-in-Err-TooLong-clause-leads
returns-in-Err-TooLong-clause-leads g c =
    let long = holds_more _ _ _ (rw c.in-Err-TooLong.field-0-is at c.in-Err-TooLong.ensures.file) in
    record { reading = Whole long.bytes; is_reading = long.holds; leads = λ next. long_commands _ _ _ next long.bytes long.many; early = tt }

pub returns-in-Err-OutOfMemory-clause-leads : goal.returns-in-Err-OutOfMemory-clause-leads
unfolding on_commands whole
returns-in-Err-OutOfMemory-clause-leads g c = record { reading = Unread; is_reading = tt; leads = λ next. refl; early = tt }

pub returns-in-Ok-read_script-clause-leads : goal.returns-in-Ok-read_script-clause-leads
unfolding by_commands
returns-in-Ok-read_script-clause-leads g c =
    let bytes = c.in-Ok.text.items in
    let few : length bytes ≤ c.args.limit = omega (arith, c.in-Ok.ensures.bound, c.in-Ok.text.ok.0) in
    let is : commands_of g.C.FromWords.rule bytes ≡ Ok c.in-Ok-read_script.commands.items = search rules in
    record { reading = Whole bytes; is_reading = holds _ _ _ c.in-Ok.text c.in-Ok.ensures.file; leads = λ next. read_commands _ _ _ next bytes _ few is; early = tt }

pub returns-in-Ok-read_script-clause-spelled : goal.returns-in-Ok-read_script-clause-spelled
returns-in-Ok-read_script-clause-spelled g c =
    let is : commands_of g.C.FromWords.rule c.in-Ok.text.items ≡ Ok c.in-Ok-read_script.commands.items = search rules in
    (c.in-Ok.text.items, is)

pub returns-in-Err-Bad-clause-leads : goal.returns-in-Err-Bad-clause-leads
unfolding by_commands
returns-in-Err-Bad-clause-leads g c =
    let bytes = c.in-Ok.text.items in
    let few : length bytes ≤ c.args.limit = omega (arith, c.in-Ok.ensures.bound, c.in-Ok.text.ok.0) in
    let is : commands_of g.C.FromWords.rule bytes ≡ Err (c.in-Err-Bad.line, c.in-Err-Bad.kind) = search rules in
    rw (c.in-Err-Bad.line-is, c.in-Err-Bad.kind-is)
    (record { reading = Whole bytes; is_reading = holds _ _ _ c.in-Ok.text c.in-Ok.ensures.file; leads = λ next. read_commands _ _ _ next bytes _ few is; early = tt })

pub returns-clause-leads : goal.returns-clause-leads
unfolding on_commands whole
returns-clause-leads g c = record { reading = Unread; is_reading = tt; leads = λ next. refl; early = tt }
