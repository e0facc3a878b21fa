use Rattle.epic_app.proofs.StoreLaws.{first_stops, then_acts}
use Rattle.epic_app.proofs.keeping.add_two.Goals as goal

pub returns-in-Ok : goal.returns-in-Ok
returns-in-Ok g c = λ kept one two. then_acts kept _ _ _ _ _ _ _ _ _ _ _ _ (c.in-Ok.ensures kept one) (c.add-in-Ok.ensures kept two)

pub returns-in-Err : goal.returns-in-Err
returns-in-Err g c = λ kept one two. first_stops kept _ _ _ _ _ _ _ _ _ (c.in-Err.ensures kept one)
