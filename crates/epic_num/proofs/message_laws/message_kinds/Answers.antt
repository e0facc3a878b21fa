use Rattle.epic_num.proofs.MessageLaws as laws
use Rattle.epic_num.proofs.message_laws.message_kinds.Goals as goal

pub returns : goal.returns
returns c = laws.domains_differ
