use Rattle.std.proofs.Common.{arith}
use Rattle.epic_ports.proofs.Appended.{on_err}
use Rattle.epic_app.proofs.Pieces.{pieces_step, less_in_piece}
use Rattle.epic_app.proofs.WritingLaws.{piece_after}
use Rattle.epic_app.proofs.end.write_pieces.Goals as goal

pub returns-in_err-write_all-clause-err : goal.returns-in_err-write_all-clause-err
returns-in_err-write_all-clause-err g c =
    let (front, before, is) = c.loop-piece.invariant.0 in
    let step = pieces_step c.args.pieces.now c.loop-piece.piece-index _ front _ (omega arith) is in
    on_err _ _ (less_in_piece _ _ _ front _ _ _ before c.in_err-write_all.ensures.err step)

pub loop-piece-preserved : goal.loop-piece-preserved
loop-piece-preserved g c =
    let (front, before, is) = c.loop-piece.invariant.0 in
    let step = pieces_step c.args.pieces.now c.loop-piece.piece-index _ front _ (omega arith) is in
    (piece_after _ _ _ front _ _ _ before c.in_ok-write_all.ensures.ok step, omega arith)
