use Rattle.epic_model.proofs.Example.{some_send_is_honest}
use Rattle.epic_model.proofs.laws.some_send_is_honest.Goals as goal

pub returns : goal.returns
returns c = some_send_is_honest
