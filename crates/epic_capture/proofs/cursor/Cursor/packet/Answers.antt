use Rattle.std.proofs.Common.{drop, ap, ◌∙◌}
use Rattle.std.proofs.lemmas.List.{take_rest}
use Rattle.epic_capture.proofs.cursor.Cursor.packet.Goals as goal

pub returns : goal.returns
returns c = take_rest c.last.result.now 32 ∙ ap (drop 32) c.last.ensures
