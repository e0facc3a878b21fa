use Rattle.std.proofs.Common.{sym, ◌∙◌, ap, arith}
use Rattle.epic_capture.specs.Capture.{head}
use Rattle.epic_capture.proofs.Longer.{head_long}
use Rattle.epic_capture.proofs.cursor.Cursor.open.Goals as goal

pub pass-requires : goal.pass-requires
pass-requires c =
    let is = ap head (sym c.held.ensures.value) ∙ sym c.head.ensures ∙ c.in_ok-format.was in
    (omega arith, head_long c.args.self.now.buffer.held c.in_ok-format.format is)
