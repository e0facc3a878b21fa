use Rattle.epic_layout.proofs.Codes.{dest_messages, kinds_differ}
use Rattle.epic_layout.proofs.laws.dest_messages.Goals as goal

pub returns : goal.returns
returns c = record { contents = dest_messages; kinds = kinds_differ }
