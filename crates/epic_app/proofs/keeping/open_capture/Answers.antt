use Rattle.epic_app.proofs.StoreLaws.{first_stops, then_acts}
use Rattle.epic_app.proofs.keeping.open_capture.Goals as goal

pub returns-in-Ok : goal.returns-in-Ok
returns-in-Ok g c = λ kept one. then_acts kept _ _ _ _ _ _ _ _ _ _ _ _ (c.in-Ok.ensures kept one) (rw c.file_head.ensures at (c.add.ensures kept one))

pub returns-in-Err : goal.returns-in-Err
returns-in-Err g c = λ kept one. first_stops kept _ _ _ _ _ _ _ _ _ (c.in-Err.ensures kept one)
