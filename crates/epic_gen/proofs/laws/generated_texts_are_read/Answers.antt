use Rattle.epic_gen.proofs.Read.{network_lawful, text_read}
use Rattle.epic_gen.proofs.laws.generated_texts_are_read.Goals as goal

pub returns-clause-read : goal.returns-clause-read
returns-clause-read c = text_read

pub returns-clause-lawful : goal.returns-clause-lawful
returns-clause-lawful c = network_lawful
