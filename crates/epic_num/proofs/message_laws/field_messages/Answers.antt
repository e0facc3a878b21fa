use Rattle.epic_num.proofs.MessageLaws as laws
use Rattle.epic_num.proofs.message_laws.field_messages.Goals as goal

pub returns-clause-levels_2_and_3 : goal.returns-clause-levels_2_and_3
returns-clause-levels_2_and_3 c = laws.field_messages

pub returns-clause-level_1 : goal.returns-clause-level_1
returns-clause-level_1 c = laws.field1_messages
