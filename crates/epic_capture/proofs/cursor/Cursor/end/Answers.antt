use Rattle.std.proofs.Common.{ℕ, ◌-◌, List, [], length, Option, ap, sym, ◌∙◌}
use Rattle.epic_capture.specs.declared.damage.CaptureError.{CaptureError}
use Rattle.epic_capture.specs.Records.{Records}
use Rattle.epic_capture.specs.Capture.{head}
use Rattle.epic_capture.specs.Steps.{reading_of, unread}
use Rattle.epic_capture.proofs.Longer.{head_long}
use Rattle.epic_capture.proofs.Answers.{ends_behind, ends_in_head, ends_damaged}
use Rattle.epic_capture.proofs.cursor.Cursor.end.Goals as goal

with_damage : Option CaptureError → Records CaptureError
with_damage e = record { items = []; damage = e }

pub overflow_sub-held : goal.overflow_sub-held
overflow_sub-held c = head_long c.held-held.result.now c.in-Ok.field-0 (sym c.head.ensures ∙ c.in-Ok.is)

pub returns-in-Some : goal.returns-in-Some
unfolding with_damage
returns-in-Some c =
    ends_behind (reading_of c.args.self.now) c.in-Some.progress c.in-Some.is c.requires
    ∙ ap (λ (xs : List ℕ). with_damage (unread c.in-Some.progress.offset (length xs))) (sym c.held-held.ensures.value)
    ∙ ap with_damage (sym c.unread.ensures)

pub returns-in-Ok : goal.returns-in-Ok
unfolding with_damage
returns-in-Ok c =
    let is = ap head (sym c.held-held.ensures.value) ∙ sym c.head.ensures ∙ c.in-Ok.is in
    ends_in_head (reading_of c.args.self.now) c.in-Ok.field-0 c.in_default.is is c.requires
    ∙ ap (λ (xs : List ℕ). with_damage (unread 24 (length xs - 24))) (sym c.held-held.ensures.value)
    ∙ ap with_damage (sym c.unread-in-Ok.ensures)

pub returns-in-Err : goal.returns-in-Err
returns-in-Err c =
    let is = ap head (sym c.held-held.ensures.value) ∙ sym c.head.ensures ∙ c.in-Err.is in
    ends_damaged (reading_of c.args.self.now) c.in-Err.error c.in_default.is is
