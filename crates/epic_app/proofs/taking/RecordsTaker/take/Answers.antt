use Rattle.std.proofs.Common.{ℕ, List, ◌∙◌, ap}
use Rattle.epic_app.specs.Captures.{due}
use Rattle.epic_feed.specs.Taking.{captured_of}
use Rattle.epic_app.proofs.RanLaws.{stopped_before, stopped_first, takes_second}
use Rattle.epic_app.proofs.StepWriting.{nothing_done}
use Rattle.epic_app.proofs.taking.RecordsTaker.take.Goals as goal

pub returns-in_default-clause-takes : goal.returns-in_default-clause-takes
returns-in_default-clause-takes g c = λ x s o xs ran.
    stopped_before x c.args.self.now xs _ _ (captured_of c.args.found.now) ran (nothing_done _)

pub returns-in-Ok-step-clause-takes : goal.returns-in-Ok-step-clause-takes
returns-in-Ok-step-clause-takes g c = λ x s o xs ran.
    let packet = c.due-packet.ensures.value ∙ ap (λ (bytes : List ℕ). due c.args.found.now.place bytes) (c.from_vec.ensures ∙ c.in-Ok.ensures.items) in
    takes_second x c.args.self.now xs _ _ (captured_of c.args.found.now) ran c.step.new.self c.step-in-Ok-step.new.self _ _ c.step-in-Ok-step.result
    (rw c.at-moment.ensures.value at c.in-Ok-step.ensures.ok)
    (rw packet at c.step-in-Ok-step.ensures.ok)
    (rw packet at c.step-in-Ok-step.ensures.err)

pub returns-in-Err-clause-takes : goal.returns-in-Err-clause-takes
returns-in-Err-clause-takes g c = λ x s o xs ran.
    stopped_first x c.args.self.now xs _ _ (captured_of c.args.found.now) ran _ _ (rw c.at-moment.ensures.value at c.in-Err.ensures.err)
