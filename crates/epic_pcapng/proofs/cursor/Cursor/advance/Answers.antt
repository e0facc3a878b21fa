use Rattle.std.proofs.Common.{Option, Result, sym, ◌∙◌, subst}
use Rattle.epic_capture.specs.Records.{Captured}
use Rattle.epic_capture.specs.Streams.{Follows}
use Rattle.epic_pcapng.specs.declared.damage.NgError.{NgError}
use Rattle.epic_pcapng.specs.Reading.{ngcapture}
use Rattle.epic_pcapng.specs.Steps.{reading_of}
use Rattle.epic_pcapng.proofs.Answers.{advances_none, stop_all, give_all, move_on, move_less}
use Rattle.epic_pcapng.proofs.cursor.Cursor.advance.Goals as goal

pub loop-found-init : goal.loop-found-init
loop-found-init c = advances_none (reading_of c.args.self.now) c.requires

pub returns-in-Ok-Some-clause-answer : goal.returns-in-Ok-Some-clause-answer
returns-in-Ok-Some-clause-answer c =
    let all = give_all (reading_of c.args.self.now) (reading_of c.loop-found.self) (reading_of c.step.new.self) c.in-Ok-Some.found c.step.result c.step.new.self.buffer.last (cc) c.loop-found.invariant c.step.ensures.step in
    sym all.next

pub returns-in-Ok-Some-clause-after : goal.returns-in-Ok-Some-clause-after
returns-in-Ok-Some-clause-after c =
    let all = give_all (reading_of c.args.self.now) (reading_of c.loop-found.self) (reading_of c.step.new.self) c.in-Ok-Some.found c.step.result c.step.new.self.buffer.last (cc) c.loop-found.invariant c.step.ensures.step in
    all.follows

pub returns-in-Ok-Some-clause-there : goal.returns-in-Ok-Some-clause-there
returns-in-Ok-Some-clause-there c =
    let all = give_all (reading_of c.args.self.now) (reading_of c.loop-found.self) (reading_of c.step.new.self) c.in-Ok-Some.found c.step.result c.step.new.self.buffer.last (cc) c.loop-found.invariant c.step.ensures.step in
    all.there

pub loop-found-preserved : goal.loop-found-preserved
loop-found-preserved c =
    move_on (reading_of c.args.self.now) (reading_of c.loop-found.self) (reading_of c.step.new.self) c.step.result c.step.new.self.buffer.last (cc) c.loop-found.invariant c.step.ensures.step c.step.ensures.sound

pub loop-found-smaller : goal.loop-found-smaller
loop-found-smaller c = move_less (reading_of c.loop-found.self) (reading_of c.step.new.self) c.step.result c.step.new.self.buffer.last (cc) c.step.ensures.step

pub returns-in-Err-clause-answer : goal.returns-in-Err-clause-answer
returns-in-Err-clause-answer c =
    let all = stop_all (reading_of c.args.self.now) (reading_of c.loop-found.self) (reading_of c.step.new.self) c.in-Err.error c.step.result c.step.new.self.buffer.last c.in-Err.is c.loop-found.invariant c.step.ensures.step in
    c.unless_early.ensures.answer c.step.new.self.buffer.last ∙ sym all.0

pub returns-in-Err-clause-after : goal.returns-in-Err-clause-after
returns-in-Err-clause-after c =
    let all = stop_all (reading_of c.args.self.now) (reading_of c.loop-found.self) (reading_of c.step.new.self) c.in-Err.error c.step.result c.step.new.self.buffer.last c.in-Err.is c.loop-found.invariant c.step.ensures.step in
    subst (λ (a : Result (Option Captured) NgError). Follows ngcapture (reading_of c.args.self.now) a (reading_of c.step.new.self)) (sym (c.unless_early.ensures.answer c.step.new.self.buffer.last)) all.1
