use Rattle.std.proofs.Common.{◌≤◌, [], length, refl, arith}
use Rattle.epic_app.specs.Doing.{on_judged, whole}
use Rattle.epic_app.specs.Limits.{limit_of}
use Rattle.epic_app.specs.Readings.{Whole, Failed, Unread}
use Rattle.epic_app.proofs.FileLaws.{begins_nothing, holds, holds_more, long_judged, read_judged}
use Rattle.epic_app.proofs.files.judged_in.Goals as goal

pub returns-in-Ok-clause-leads : goal.returns-in-Ok-clause-leads
returns-in-Ok-clause-leads g c =
    let bytes = c.in-Ok.text.items in
    let few : length bytes ≤ limit_of c.args.file = omega (arith, c.limit.ensures.value, c.in-Ok.ensures.bound, c.in-Ok.text.ok.0) in
    record { reading = Whole bytes; is_reading = holds _ _ _ c.in-Ok.text c.in-Ok.ensures.file; leads = λ next. read_judged _ _ next bytes few; early = tt }

pub returns-in-Err-Failed-clause-leads : goal.returns-in-Err-Failed-clause-leads
unfolding on_judged whole
returns-in-Err-Failed-clause-leads g c =
    let rose = rw c.in-Err-Failed.field-0-is at c.in-Err-Failed.ensures.cause in
    record { reading = Failed []; is_reading = (begins_nothing _ _, rose); leads = λ next. refl; early = (refl, rose) }

pub returns-in-Err-TooLong-clause-leads : goal.returns-in-Err-TooLong-clause-leads
returns-in-Err-TooLong-clause-leads g c =
    let long = holds_more _ _ _ (rw (c.in-Err-TooLong.field-0-is, c.limit.ensures.value) at c.in-Err-TooLong.ensures.file) in
    record { reading = Whole long.bytes; is_reading = long.holds; leads = λ next. long_judged _ _ next long.bytes long.many; early = tt }

pub returns-in-Err-OutOfMemory-clause-leads : goal.returns-in-Err-OutOfMemory-clause-leads
unfolding on_judged whole
returns-in-Err-OutOfMemory-clause-leads g c = record { reading = Unread; is_reading = tt; leads = λ next. refl; early = tt }
